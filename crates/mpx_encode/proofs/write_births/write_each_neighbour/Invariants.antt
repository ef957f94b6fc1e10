use Rattle.std.proofs.Common.{◌≡◌, ◌++◌, take}
use Rattle.std.specs.List.{flat_map}
use Rattle.mpx_format.specs.Births.{neighbour}
use Rattle.mpx_encode.proofs.write_births.write_each_neighbour.Given as goal

abbrev pub invariant-loop-neighbour : goal.invariant-loop-neighbour
invariant-loop-neighbour l = l.out ≡ l.fn.out ++ flat_map (neighbour l.weighted).spelling (take l.neighbour-index l.list)
