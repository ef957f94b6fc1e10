use Rattle.std.proofs.Common.{◌≡◌, ◌++◌, take}
use Rattle.std.specs.List.{flat_map}
use Rattle.mpx_format.specs.Births.{near}
use Rattle.mpx_encode.proofs.write_births.write_nears.Given as goal

abbrev pub invariant-loop-rank : goal.invariant-loop-rank
invariant-loop-rank l = l.out ≡ l.fn.out ++ flat_map (near l.topology.weighted).spelling (take l.rank l.topology.ranks)
