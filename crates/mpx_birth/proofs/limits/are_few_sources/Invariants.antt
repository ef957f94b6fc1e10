use Rattle.std.proofs.Common.{◌≡◌, ◌+◌, take}
use Rattle.mpx_birth.specs.Topologies.{most_neighbours, sources_in_all}
use Rattle.mpx_birth.proofs.limits.are_few_sources.Given as goal

abbrev pub invariant-loop-near : goal.invariant-loop-near
invariant-loop-near l = l.room + sources_in_all (take l.near-index l.ranks) ≡ most_neighbours
