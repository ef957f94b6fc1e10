use Rattle.std.proofs.Common.{◌∙◌, ap, string_bytes, subst, true}
use Rattle.mpx_bus.specs.Buses.{table_of}
use Rattle.mpx_meaning.specs.Reports.{transcripts_of}
use Rattle.mpx_meaning.specs.Transcripts.{text_upto}
use Rattle.mpx_run.specs.Reports.{IsBy, lines_at}
use Rattle.mpx_run.proofs.Reporting.{left_founded, left_threaded, threaded}
use Rattle.mpx_run.proofs.report.print_threads.Goals as goal

pub returns-in-Ok-clause-left : goal.returns-in-Ok-clause-left
returns-in-Ok-clause-left g c =
    let run = c.in_ok-run.run' in
    let said = transcripts_of run.report in
    let printed = c.in-Ok.printed in
    left_threaded _ c.args.options.now c.args.script.now printed.end (string_bytes printed.text) said printed.left c.in-Ok.ensures.lines run.ports.items c.in-Ok.ensures.ports (c.in-Ok.ensures.nodes ∙ c.new-nodes.ensures.items)
    (threaded _ c.args.options.now c.args.script.now (table_of run.bus) run.ports.items said run.report.waiting.items run.rests c.in_ok-run.ensures.run c.requires.threads c.in_ok-run.ensures.begins c.in_ok-run.ensures.whole c.in_ok-run.ensures.rests
    printed.end (string_bytes printed.text) (c.in-Ok.ensures.text ∙ ap (text_upto (lines_at said)) c.ranks.ensures.ranks) c.in-Ok.ensures.end (subst (λ cause. IsBy cause printed.end) c.cause_in_threads-cause.ensures c.in-Ok.ensures.cause))

pub returns-in-Ok-clause-founded : goal.returns-in-Ok-clause-founded
returns-in-Ok-clause-founded g c = let printed = c.in-Ok.printed in left_founded true _ c.args.options.now c.args.script.now printed.end (string_bytes printed.text) printed.left (returns-in-Ok-clause-left g c)
