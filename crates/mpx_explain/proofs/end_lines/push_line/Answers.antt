use Rattle.std.proofs.Common.{ℕ, List, ap, ◌∙◌}
use Rattle.std.specs.Option.{option_map}
use Rattle.mpx_waiting.specs.ToldLines.{line_at}
use Rattle.mpx_explain.proofs.FoundEnds.{told_at}
use Rattle.mpx_explain.proofs.end_lines.push_line.Goals as goal

pub returns : goal.returns
returns c =
    let one = c.args.one.now in
    told_at c.args.text.now c.args.places.now one c.line_at-line.result c.made_line-made.result c.args.told.now.items c.push_placed.new.told.items c.push_placed.result
    (c.line_at-line.ensures ∙ ap (λ (xs : List ℕ). line_at xs one.statement) (c.as_slice.ensures.value ∙ c.in_ok-numbers.ensures.numbers))
    (c.made_line-made.ensures ∙ ap (λ (xs : List ℕ). option_map (line_at xs) one.made) (c.as_slice-2.ensures.value ∙ c.in_ok-numbers.ensures.numbers)) c.push_placed.ensures
