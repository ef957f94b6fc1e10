use Rattle.std.proofs.Common.{◌≡◌, ◌+◌, drop}
use Rattle.mpx_birth.specs.Ends.{place_of}
use Rattle.mpx_birth.proofs.edge_pass.place_from.Given as goal

abbrev pub invariant-loop-place : goal.invariant-loop-place
invariant-loop-place l = l.from + place_of l.rank 0 (drop l.from l.neighbours) ≡ l.place + place_of l.rank 0 (drop l.place l.neighbours)
