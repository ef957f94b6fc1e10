use Rattle.std.proofs.Common.{◌∙◌, ◌++◌, inr, ap}
use Rattle.join_core.specs.laws.Cases.{some_left}
use Rattle.mpx_program.proofs.explaining.push_headed.Goals as goal

pub returns : goal.returns
returns c = inr (some_left _ _ c.is_empty.ensures c.if-is_empty.false, c.in_ok-extend_from_slice-2.ensures.items ∙ ap (λ xs. xs ++ c.args.calls.now) c.in_ok-extend_from_slice.ensures.items)
