use Rattle.std.proofs.Common.{◌≡◌}
use Rattle.std.specs.List.{flat_map}
use Rattle.mpx_birth.specs.Births.{upto}
use Rattle.mpx_post.specs.Posts.{type_of}
use Rattle.mpx_post.specs.Agreement.{first_of}
use Rattle.mpx_neigh.specs.Cursors.{AreTaken}
use Rattle.mpx_neigh.specs.Neighbourhoods.{block_met}
use Rattle.mpx_neigh.proofs.neighbourhoods.blocks_value.Given as goal

abbrev pub invariant-loop-place : goal.invariant-loop-place
invariant-loop-place l = record {
  ty : l.items.ty ≡ type_of (first_of l.row);
  nums : l.items.nums ≡ flat_map (block_met l.topology l.row l.rank) (upto l.place);
  taken : AreTaken l.topology l.row l.rank l.place l.cursors;
}
