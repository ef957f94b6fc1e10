use Rattle.std.proofs.Common.{sym}
use Rattle.join_nest.specs.Seen.{keyed_view, seen}
use Rattle.join_nest.proofs.Exchanges.{exchanged_sorted, map_back, map_with, place_sorted, under_back, under_nothing, under_place}
use Rattle.join_nest.proofs.maps.Keyed+K+Keyed+L+J.exchange_under.Goals as goal

pub invariant_of-index_mut : goal.invariant_of-index_mut
invariant_of-index_mut g c = record {
  sorted = exchanged_sorted g.L.Ord.cmp c.args.changes.now.values.items c.index_mut.result.now.1.entries.items c.exchange.new.entries.items c.exchange.ensures.entries c.index_mut.result.now.1.sorted;
}

pub invariant_of-self : goal.invariant_of-self
invariant_of-self g c =
    let there = rw c.deref.ensures.value at c.in-Ok.ensures.found in
    record { sorted = place_sorted g.K.Ord.cmp c.args.self.now.entries.items c.in-Ok.at c.index_mut.result.now _ there.in_range c.index_mut.ensures.value c.args.self.now.sorted }

pub returns-in-Ok-clause-new : goal.returns-in-Ok-clause-new
returns-in-Ok-clause-new g c =
    let there = rw c.deref.ensures.value at c.in-Ok.ensures.found in
    under_place g.met.K.Ord.total (λ m. keyed_view g.L.Ord.cmp g.J.Exact.view m.entries.items) c.args.key.now c.args.self.now.entries.items c.args.self.now.sorted (seen g.J.Exact.view c.args.changes.now.values.items)
    g.met.K.Key.exact_order c.in-Ok.at c.index_mut.result.now _ there c.index_mut.ensures.value
    (map_with g.L.Ord.cmp g.J.Exact.view c.index_mut.result.now.1.entries.items c.exchange.new.entries.items c.args.changes.now.values.items c.exchange.ensures.entries c.index_mut.result.now.1.sorted)

pub returns-in-Ok-clause-back : goal.returns-in-Ok-clause-back
returns-in-Ok-clause-back g c =
    let there = rw c.deref.ensures.value at c.in-Ok.ensures.found in
    under_back g.met.K.Ord.total (λ m. keyed_view g.L.Ord.cmp g.J.Exact.view m.entries.items) c.args.key.now c.args.self.now.entries.items c.args.self.now.sorted (seen g.J.Exact.view c.exchange.new.self.values.items)
    g.met.K.Key.exact_order c.in-Ok.at c.index_mut.result.now _ there c.index_mut.ensures.value
    (map_back g.L.Ord.cmp g.J.Exact.view c.index_mut.result.now.1.entries.items c.exchange.new.entries.items c.args.changes.now.values.items c.exchange.ensures.entries c.index_mut.result.now.1.sorted
    c.exchange.new.self.values.items c.exchange.ensures.changes c.args.changes.now.rising)

pub returns-in_default-clause-new : goal.returns-in_default-clause-new
returns-in_default-clause-new g c =
    let gap = rw c.deref.ensures.value at c.in_default.ensures.absent in
    under_nothing g.met.K.Ord.total (λ m. keyed_view g.L.Ord.cmp g.J.Exact.view m.entries.items) c.args.key.now c.args.self.now.entries.items c.args.self.now.sorted (seen g.J.Exact.view c.args.changes.now.values.items) _ gap

pub returns-in_default-clause-back : goal.returns-in_default-clause-back
returns-in_default-clause-back g c =
    let gap = rw c.deref.ensures.value at c.in_default.ensures.absent in
    sym (under_nothing g.met.K.Ord.total (λ m. keyed_view g.L.Ord.cmp g.J.Exact.view m.entries.items) c.args.key.now c.args.self.now.entries.items c.args.self.now.sorted (seen g.J.Exact.view c.args.changes.now.values.items) _ gap)
