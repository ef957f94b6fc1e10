use Rattle.std.proofs.Common.{◌≡◌, ◌+◌, ◌-◌, ◌≤◌, ◌++◌, take, drop}
use Rattle.std.specs.Prelude.{vec_len, vec_capacity}
use Rattle.mpx_num.proofs.numbers.append_list.Given as goal

abbrev pub invariant-loop-i : goal.invariant-loop-i
invariant-loop-i l = record {
  items : l.list.items ≡ l.fn.list.items ++ take l.i (drop l.first l.from.nums);
  room : vec_len l.list + (l.count - l.i) ≤ vec_capacity l.list;
}
