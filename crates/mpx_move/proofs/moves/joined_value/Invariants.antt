use Rattle.std.proofs.Common.{◌≡◌, take}
use Rattle.std.specs.List.{flat_map}
use Rattle.mpx_post.specs.Posts.{numbers_of, type_of}
use Rattle.mpx_post.specs.Agreement.{first_of}
use Rattle.mpx_move.proofs.moves.joined_value.Given as goal

abbrev pub invariant-loop-rank : goal.invariant-loop-rank
invariant-loop-rank l = record {
  ty : l.items.ty ≡ type_of (first_of l.row);
  nums : l.items.nums ≡ flat_map numbers_of (take l.rank l.row);
}
