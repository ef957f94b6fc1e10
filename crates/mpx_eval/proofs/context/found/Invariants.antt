use Rattle.std.proofs.Common.{◌≡◌}
use Rattle.mpx_eval.specs.Contexts.{found}
use Rattle.mpx_eval.proofs.context.found.Given as goal

abbrev pub invariant-loop-new : goal.invariant-loop-new
invariant-loop-new l = record {
  next : (goal.iterator-loop-new).can_next l.new-iterator;
  finite : (goal.iterator-loop-new).is_finite l.new-iterator;
  left : found l.name l.new-iterator.rest.items ≡ found l.name l.fn.made.items;
}
