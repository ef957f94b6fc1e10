use Rattle.join_nest.proofs.Prepares.{over_sorted, over_view}
use Rattle.join_nest.proofs.maps.Keyed.put_prepared.Goals as goal

pub returns : goal.returns
returns g c = over_view g.met.K.Ord.total g.J.Exact.view c.args.made.entries.items c.args.self.now.entries.items c.put_reserved.new.entries.items c.args.made.sorted c.args.self.now.sorted c.put_reserved.ensures

pub invariant_of-self : goal.invariant_of-self
invariant_of-self g c = record { sorted = over_sorted g.met.K.Ord.total c.args.made.entries.items c.args.self.now.entries.items c.put_reserved.new.entries.items c.args.self.now.sorted c.put_reserved.ensures }
