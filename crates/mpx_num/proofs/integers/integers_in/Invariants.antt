use Rattle.std.proofs.Common.{◌≡◌, map, take}
use Rattle.std.specs.List.{All}
use Rattle.mpx_num.specs.Types.{IsInRange}
use Rattle.mpx_num.proofs.integers.integers_in.Given as goal

abbrev pub invariant-loop-number : goal.invariant-loop-number
invariant-loop-number g l = record {
  value : map g.T.Integer.value l.list.items ≡ take l.number-index l.numbers;
  in_range : All (IsInRange g.T.Integer.ty) (take l.number-index l.numbers);
}
