use Rattle.std.proofs.Common.{◌≡◌, true, take}
use Rattle.std.specs.List.{list_all}
use Rattle.mpx_birth.specs.Topologies.{fits_neighbour}
use Rattle.mpx_birth.proofs.limits.are_neighbours.Given as goal

abbrev pub invariant-loop-neighbour : goal.invariant-loop-neighbour
invariant-loop-neighbour l = list_all (fits_neighbour l.size l.weighted) (take l.neighbour-index l.neighbours) ≡ true
