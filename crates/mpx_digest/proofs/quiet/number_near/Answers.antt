use Rattle.std.proofs.Common.{ap, sym, ◌∙◌}
use Rattle.std.specs.Option.{option_copied, option_map}
use Rattle.mpx_board.specs.Contexts.{or_zero}
use Rattle.mpx_digest.proofs.quiet.number_near.Goals as goal

pub returns-in-None : goal.returns-in-None
returns-in-None c = ap or_zero (ap (λ o. option_map (λ n. n.0) (option_copied o)) (sym c.in-None.is) ∙ c.value_near.ensures)

pub returns-in-Some : goal.returns-in-Some
returns-in-Some c = ap or_zero (ap (λ o. option_map (λ n. n.0) (option_copied o)) (sym c.in-Some.is) ∙ c.value_near.ensures)
