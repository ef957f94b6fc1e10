-- What stands at the process, and there at the name.
use Rattle.std.proofs.Common.{ap, sym, ◌∙◌}
use Rattle.std.specs.Prelude.{option_and_then}
use Rattle.std.specs.FinMap.{get}
use Rattle.std.specs.Option.{option_copied, option_map}
use Rattle.mpx_board.specs.Views.{view_of_acks}
use Rattle.mpx_delta.proofs.posted.said_on.Goals as goal

pub returns-in-None : goal.returns-in-None
returns-in-None c = ap (option_and_then (λ acks. get acks c.args.name.now)) (ap (λ o. option_map view_of_acks (option_copied o)) (sym c.in-None.is) ∙ c.value_near.ensures)

pub returns-in-Some : goal.returns-in-Some
returns-in-Some c = c.value_near-in-Some.ensures ∙ ap (option_and_then (λ acks. get acks c.args.name.now)) (ap (λ o. option_map view_of_acks (option_copied o)) (sym c.in-Some.is) ∙ c.value_near.ensures)
