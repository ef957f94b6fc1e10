use Rattle.std.proofs.Common.{◌≡◌, ◌++◌, take}
use Rattle.std.specs.List.{flat_map}
use Rattle.mpx_num.specs.Spelling.{bytes_of}
use Rattle.mpx_num.proofs.spelled.spell_numbers.Given as goal

abbrev pub invariant-loop-number : goal.invariant-loop-number
invariant-loop-number l = l.out.items ≡ l.fn.out.items ++ flat_map (bytes_of l.ty) (take l.number-index l.nums)
