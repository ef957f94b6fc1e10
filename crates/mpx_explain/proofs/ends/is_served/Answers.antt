use Rattle.std.proofs.Common.{◌∷◌, [], Bool, ap, cond, map, sym, ◌∙◌}
use Rattle.mpx_eval.specs.Found.{missing_view}
use Rattle.mpx_meaning.specs.Ends.{asked_view}
use Rattle.mpx_explain.specs.RunEnds.{first_view}
use Rattle.mpx_explain.proofs.FoundEnds.{served_else, served_lacking, served_unasked}
use Rattle.mpx_explain.proofs.ends.is_served.Goals as goal

pub returns-then-is_unasked : goal.returns-then-is_unasked
returns-then-is_unasked c place = served_unasked place asked_view c.args.asked.now (map missing_view c.args.calls.now) (map first_view c.args.firsts.now) (sym c.is_empty-is_unasked.ensures ∙ c.if-is_unasked.true)

pub returns-then-is_held : goal.returns-then-is_held
returns-then-is_held c place =
    ap (λ (b : Bool). cond b (place ∷ []) []) c.is_empty.ensures
    ∙ served_else place asked_view missing_view first_view c.args.asked.now c.args.calls.now c.args.firsts.now (sym c.is_empty-is_unasked.ensures ∙ c.if-is_unasked.false) (sym c.is_empty-is_held.ensures ∙ c.if-is_held.true)

pub returns-else-is_held : goal.returns-else-is_held
returns-else-is_held c place = served_lacking place asked_view missing_view c.args.asked.now c.args.calls.now (map first_view c.args.firsts.now) (sym c.is_empty-is_unasked.ensures ∙ c.if-is_unasked.false) (sym c.is_empty-is_held.ensures ∙ c.if-is_held.false)
