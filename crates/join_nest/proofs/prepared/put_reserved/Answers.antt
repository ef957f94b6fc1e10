use Rattle.std.proofs.Common.{◌∙◌, arith}
use Rattle.join_nest.proofs.Prepares.{one_sorted, put_popped}
use Rattle.join_nest.proofs.prepared.put_reserved.Goals as goal

pub loop-key-preserved : goal.loop-key-preserved
loop-key-preserved g c = record {
  sorted = one_sorted g.met.K.Ord.total c.in-Some.key c.in-Some.value c.loop-key.entries.items c.put_one.new.entries.items c.loop-key.invariant.sorted c.put_one.ensures.put;
  room = omega (arith, c.loop-key.invariant.room, c.put_one.ensures.len, c.put_one.ensures.capacity, c.in-Some.ensures.len);
  left = put_popped g.K.Ord.cmp c.loop-key.changes.items c.pop.new.self.items c.loop-key.entries.items c.put_one.new.entries.items (c.in-Some.key, c.in-Some.value) c.in-Some.ensures.items c.put_one.ensures.put ∙ c.loop-key.invariant.left;
}
