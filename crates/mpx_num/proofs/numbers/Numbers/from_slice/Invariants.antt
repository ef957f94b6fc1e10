use Rattle.std.proofs.Common.{◌≡◌, map, take}
use Rattle.std.specs.List.{All}
use Rattle.mpx_num.specs.Types.{IsInRange}
use Rattle.mpx_num.proofs.numbers.Numbers.from_slice.Given as goal

abbrev pub invariant-loop-x : goal.invariant-loop-x
invariant-loop-x g l = record {
  value : l.numbers.items ≡ map g.T.Integer.value (take l.x-index l.list);
  in_range : All (IsInRange g.T.Integer.ty) l.numbers.items;
}
