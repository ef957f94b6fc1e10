use Rattle.std.proofs.Common.{◌≡◌}
use Rattle.std.specs.List.{flat_map}
use Rattle.mpx_birth.specs.Births.{upto}
use Rattle.mpx_post.specs.Posts.{type_of}
use Rattle.mpx_post.specs.Agreement.{first_of}
use Rattle.mpx_move.specs.Moves.{block_for}
use Rattle.mpx_move.proofs.moves.blocks_value.Given as goal

abbrev pub invariant-loop-sender : goal.invariant-loop-sender
invariant-loop-sender l = record {
  ty : l.items.ty ≡ type_of (first_of l.row);
  nums : l.items.nums ≡ flat_map (block_for l.row l.receiver) (upto l.sender);
}
