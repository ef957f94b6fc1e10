use Rattle.std.proofs.Common.{◌≡◌, drop}
use Rattle.mpx_node.proofs.opened.drop_first.Given as goal

abbrev pub invariant-loop : goal.invariant-loop
invariant-loop l = l.results.items ≡ drop l.counter l.initial.results.items
