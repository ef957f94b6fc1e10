use Rattle.std.proofs.Common.{sym, ◌∙◌}
use Rattle.mpx_explain.proofs.Summing.{past_inside, past_outside}
use Rattle.mpx_explain.proofs.past.past_within.Goals as goal

pub returns-then-is_within : goal.returns-then-is_within
returns-then-is_within c times comes is = past_inside c.args.ty c.args.bounds c.args.index comes c.past_type.result (sym c.is_within-is_within.ensures ∙ c.if-is_within.true) (c.past_type.ensures times comes is)

pub returns-else-is_within : goal.returns-else-is_within
returns-else-is_within c times comes is = past_outside c.args.ty c.args.bounds c.args.index comes (sym c.is_within-is_within.ensures ∙ c.if-is_within.false)
