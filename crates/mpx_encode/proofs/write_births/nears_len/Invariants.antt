use Rattle.std.proofs.Common.{◌≡◌, ◌≤◌, ◌*◌, take, length}
use Rattle.std.specs.List.{flat_map}
use Rattle.mpx_format.specs.Births.{near}
use Rattle.mpx_encode.proofs.write_births.nears_len.Given as goal

abbrev pub invariant-loop-rank : goal.invariant-loop-rank
invariant-loop-rank l = record {
  value : l.total ≡ length (flat_map (near l.topology.weighted).spelling (take l.rank l.topology.ranks));
  small : l.total ≤ l.rank * 327684;
}
