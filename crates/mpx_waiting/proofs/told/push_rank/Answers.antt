use Rattle.std.proofs.Common.{◌≡◌, List, ℕ, ◌++◌, map, take, ap, sym, ◌∙◌}
use Rattle.std.specs.List.{flat_map}
use Rattle.std.proofs.lemmas.List.{take-map}
use Rattle.mpx_eval.specs.Found.{missing_view}
use Rattle.mpx_script.specs.LinesGiven.{lines_given}
use Rattle.mpx_waiting.specs.ToldLines.{call_text, line_at}
use Rattle.mpx_waiting.proofs.told.push_rank.Goals as goal

pub loop-call-init : goal.loop-call-init
loop-call-init c =
    let text = c.args.text.now in
    let w = c.args.waiting.now in
    let numbers : c.in_ok-numbers.numbers.items ≡ lines_given w.rank text = c.in_ok-numbers.ensures.numbers in
    let line = c.line_at-line.ensures ∙ ap (λ (ns : List ℕ). line_at ns w.statement) (c.as_slice-2.ensures.value ∙ numbers) in
    let calls = ap (map missing_view) (c.first_of-calls.ensures ∙ ap (take c.args.most) c.as_slice.ensures.value) ∙ sym (take-map missing_view c.args.most w.calls.items) in
    λ j. c.args.told.now.items ++ flat_map (call_text text (c.statements-statements.ensures j) (numbers j) c.args.places.now w.rank (line j)) (calls j)
