use Rattle.std.proofs.Common.{◌≡◌, ◌<◌, ℕ, false}
use Rattle.mpx_match.proofs.Ends.{edge_differs}
use Rattle.mpx_birth.specs.Topologies.{destinations_at, sources_at}
use Rattle.mpx_birth.proofs.Passes.{AreMet}
use Rattle.mpx_match.proofs.amounts.along_each.Given as goal

abbrev pub invariant-loop-place : goal.invariant-loop-place
invariant-loop-place l = record {
  met : AreMet l.rank (destinations_at l.topology l.rank) (sources_at l.topology) l.pass l.place;
  agree : (k : ℕ) → k < l.place → edge_differs l.exchange l.topology l.row l.rank k ≡ false;
}
