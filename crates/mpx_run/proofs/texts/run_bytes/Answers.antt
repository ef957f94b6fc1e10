use Rattle.std.proofs.Common.{string_bytes, subst}
use Rattle.mpx_run.specs.Founded.{IsFounded}
use Rattle.mpx_run.specs.Reports.{IsPrinted}
use Rattle.mpx_run.specs.Texts.{IsWritten}
use Rattle.mpx_run.proofs.Pieces.{gated_prints, written_prints}
use Rattle.mpx_run.proofs.texts.run_bytes.Goals as goal

pub returns-clause-prints : goal.returns-clause-prints
returns-clause-prints g c =
    let old = g.W.Write.contents c.args.writer.now in
    let new = g.W.Write.contents c.write_printed.new.writer in
    let printed = c.in-Ok.printed in
    let written = subst (λ ts. IsWritten old new ts printed.end c.write_printed.result) c.as_bytes.ensures.value c.write_printed.ensures in
    gated_prints IsPrinted _ (g.G.Gate.gives_up c.args.gate.now) c.args.job.now c.args.text.now old new c.write_printed.result
    (written_prints IsPrinted _ c.args.job.now c.args.text.now c.in_ok-script.script old new (string_bytes printed.text) printed.end c.write_printed.result c.in_ok-script.ensures c.in-Ok.ensures.prints written)

pub returns-clause-founded : goal.returns-clause-founded
returns-clause-founded g c =
    let old = g.W.Write.contents c.args.writer.now in
    let new = g.W.Write.contents c.write_printed.new.writer in
    let printed = c.in-Ok.printed in
    let written = subst (λ ts. IsWritten old new ts printed.end c.write_printed.result) c.as_bytes.ensures.value c.write_printed.ensures in
    gated_prints IsFounded _ (g.G.Gate.gives_up c.args.gate.now) c.args.job.now c.args.text.now old new c.write_printed.result
    (written_prints IsFounded _ c.args.job.now c.args.text.now c.in_ok-script.script old new (string_bytes printed.text) printed.end c.write_printed.result c.in_ok-script.ensures c.in-Ok.ensures.founded written)
