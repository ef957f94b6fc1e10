use Rattle.std.proofs.Common.{◌≡◌, take}
use Rattle.std.specs.List.{flat_map}
use Rattle.mpx_birth.specs.declared.edges.Neighbour.{Neighbour}
use Rattle.mpx_post.specs.Posts.{numbers_of, type_of}
use Rattle.mpx_post.specs.Agreement.{first_of, post_at}
use Rattle.mpx_neigh.proofs.neighbourhoods.joined_value.Given as goal

abbrev pub invariant-loop-source : goal.invariant-loop-source
invariant-loop-source l = record {
  ty : l.items.ty ≡ type_of (first_of l.row);
  nums : l.items.nums ≡ flat_map (λ (n : Neighbour). numbers_of (post_at l.row n.rank)) (take l.source-index l.source-items);
}
