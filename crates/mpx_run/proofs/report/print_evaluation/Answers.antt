use Rattle.std.proofs.Common.{◌∙◌, ap, string_bytes}
use Rattle.mpx_meaning.specs.Reports.{transcripts_of}
use Rattle.mpx_meaning.specs.Transcripts.{text_upto}
use Rattle.mpx_run.specs.Reports.{lines_at}
use Rattle.mpx_run.proofs.Reporting.{evaluated, if_three}
use Rattle.mpx_run.proofs.report.print_evaluation.Goals as goal

pub returns : goal.returns
returns g c =
    let report = c.in_ok-report.report in
    let said = transcripts_of report in
    if_three c.print_report.result c.print_report.ensures.text c.print_report.ensures.end c.print_report.ensures.cause (λ printed text ends by.
    evaluated _ c.args.script.now said report.waiting.items printed.end (string_bytes printed.text) c.in_ok-report.ensures.lines (text ∙ ap (text_upto (lines_at said)) c.ranks.ensures.ranks) ends by)
