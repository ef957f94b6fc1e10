use Rattle.std.proofs.Common.{◌≡◌}
use Rattle.mpx_value.specs.Values.{place_among}
use Rattle.mpx_value.proofs.values.place_among.Given as goal

abbrev pub invariant-loop-name : goal.invariant-loop-name
invariant-loop-name l = record {
  next : (goal.iterator-loop-name).can_next l.name-iterator;
  finite : (goal.iterator-loop-name).is_finite l.name-iterator;
  left : place_among l.name-iterator.rest.items l.process ≡ place_among l.fn.made.items l.process;
}
