use Rattle.mpx_run.specs.Founded.{IsFounded}
use Rattle.mpx_run.specs.Reports.{IsPrinted}
use Rattle.mpx_run.proofs.Pieces.{runs_input}
use Rattle.mpx_run.proofs.texts.run_text_observed.Goals as goal

pub returns-clause-prints : goal.returns-clause-prints
returns-clause-prints g c = runs_input IsPrinted _ (g.G.Gate.gives_up c.args.gate.now) c.args.job.now (g.R.Read.remaining c.args.reader.now) (g.R.Read.remaining c.read_bytes.new.reader) (g.W.Write.contents c.args.writer.now) (g.W.Write.contents c.run_bytes.new.writer) c.in_ok-text.text.items c.deref.result.now c.run_bytes.result c.in_ok-text.ensures.input c.deref.ensures.value c.run_bytes.ensures.prints

pub returns-clause-founded : goal.returns-clause-founded
returns-clause-founded g c = runs_input IsFounded _ (g.G.Gate.gives_up c.args.gate.now) c.args.job.now (g.R.Read.remaining c.args.reader.now) (g.R.Read.remaining c.read_bytes.new.reader) (g.W.Write.contents c.args.writer.now) (g.W.Write.contents c.run_bytes.new.writer) c.in_ok-text.text.items c.deref.result.now c.run_bytes.result c.in_ok-text.ensures.input c.deref.ensures.value c.run_bytes.ensures.founded
