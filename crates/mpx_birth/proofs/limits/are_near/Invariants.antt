use Rattle.std.proofs.Common.{◌≡◌, true, take, length}
use Rattle.std.specs.List.{list_all}
use Rattle.mpx_birth.specs.Topologies.{is_near}
use Rattle.mpx_birth.proofs.limits.are_near.Given as goal

abbrev pub invariant-loop-near : goal.invariant-loop-near
invariant-loop-near l = list_all (is_near (length l.ranks) l.weighted) (take l.near-index l.ranks) ≡ true
