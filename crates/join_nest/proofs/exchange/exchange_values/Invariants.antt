use Rattle.std.proofs.Common.{◌≡◌, ◌++◌, drop, take, length}
use Rattle.join_nest.specs.Placed.{set_values, taken}
use Rattle.join_nest.proofs.exchange.exchange_values.Given as goal

abbrev pub invariant-loop-i : goal.invariant-loop-i
invariant-loop-i g l = record {
  long : length l.changes.items ≡ length l.fn.changes.items;
  entries : set_values l.entries.items (drop l.i l.changes.items) ≡ set_values l.fn.entries.items l.fn.changes.items;
  changes : take l.i l.changes.items ++ taken l.entries.items (drop l.i l.changes.items) ≡ taken l.fn.entries.items l.fn.changes.items;
}
