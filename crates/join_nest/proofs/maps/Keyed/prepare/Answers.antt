use Rattle.join_nest.proofs.Prepares.{there_sorted, there_view}
use Rattle.join_nest.proofs.maps.Keyed.prepare.Goals as goal

pub invariant_of-result : goal.invariant_of-result
invariant_of-result g c =
    let told = rw (c.deref.ensures.value, c.deref-2.ensures.value) at c.in_ok-entries.ensures in
    record { sorted = there_sorted g.K.Ord.cmp g.J.Exact.view g.J.Exact.joining c.in_ok-entries.entries.items c.args.other.now.entries.items c.args.self.now.entries.items c.args.other.now.sorted told }

pub returns-clause-made : goal.returns-clause-made
returns-clause-made g c =
    let told = rw (c.deref.ensures.value, c.deref-2.ensures.value) at c.in_ok-entries.ensures in
    there_view g.K.Ord.cmp g.J.Exact.view g.J.Exact.joining g.met.K.Ord.total c.in_ok-entries.entries.items c.args.other.now.entries.items c.args.self.now.entries.items c.args.other.now.sorted c.args.self.now.sorted told
