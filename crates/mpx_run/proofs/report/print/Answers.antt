use Rattle.std.proofs.Common.{◌∙◌, ap, false, map, string_bytes, subst}
use Rattle.mpx_node.specs.Shown.{node_of}
use Rattle.mpx_meaning.specs.Reports.{transcripts_of}
use Rattle.mpx_meaning.specs.Transcripts.{text_upto}
use Rattle.mpx_run.specs.Reports.{IsBy, lines_at}
use Rattle.mpx_run.proofs.Reporting.{if_both, if_ok_then, if_three, left_founded, left_simulated, simulated}
use Rattle.mpx_run.proofs.report.print.Goals as goal

pub returns-clause-left : goal.returns-clause-left
returns-clause-left g c =
    let run = c.in_ok-run.run' in
    let said = transcripts_of run.report in
    let r = c.print_report.result in
    let e = c.print_report.ensures in
    if_three r (if_both _ _ r e.text e.end) (if_both _ _ r e.cause e.lines) (if_both _ _ r e.nodes e.ports) (λ printed said_so by_and_lines are.
    left_simulated _ c.args.options.now c.args.script.now printed.end (string_bytes printed.text) said printed.left by_and_lines.1 run.nodes.items are.0 (are.1 ∙ c.new-ports.ensures.items)
    (simulated _ c.args.options.now c.args.script.now (map node_of run.nodes.items) said run.report.waiting.items run.turns c.in_ok-run.ensures.run c.in_ok-run.ensures.turns c.in_ok-run.ensures.ended c.requires.alone c.in_ok-run.ensures.begins c.in_ok-run.ensures.whole c.in_ok-run.ensures.rests
    printed.end (string_bytes printed.text) (said_so.0 ∙ ap (text_upto (lines_at said)) c.ranks.ensures.ranks) said_so.1 (subst (λ cause. IsBy cause printed.end) c.cause_of-cause.ensures by_and_lines.0)))

pub returns-clause-founded : goal.returns-clause-founded
returns-clause-founded g c = if_ok_then c.print_report.result (returns-clause-left g c) (λ printed. left_founded false _ c.args.options.now c.args.script.now printed.end (string_bytes printed.text) printed.left)
