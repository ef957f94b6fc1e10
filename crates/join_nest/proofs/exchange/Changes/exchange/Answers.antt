use Rattle.std.proofs.Common.{ap, ◌∙◌}
use Rattle.join_nest.specs.Placed.{rise_from}
use Rattle.join_nest.proofs.Exchanges.{taken_rises}
use Rattle.join_nest.proofs.exchange.Changes.exchange.Goals as goal

-- the same places
pub invariant_of-self : goal.invariant_of-self
invariant_of-self g c = record { rising = ap (rise_from 0) c.exchange_values.ensures.changes ∙ taken_rises c.args.self.now.values.items 0 c.args.entries.now.items ∙ c.args.self.now.rising }
