-- What is read of a rank's sources.
use Rattle.std.proofs.Common.{◌≡◌, ℕ, ◌+◌, ◌*◌, ◌<◌, ◌≤◌, ◌++◌, [], ◌∷◌, List, ℤ, length, take, drop, add-one, append-nil, refl, sym, ap, subst, ◌∙◌, arith}
use Rattle.std.specs.List.{flat_map}
use Rattle.std.proofs.lemmas.List.Concat.{flat_map-append}
use Rattle.mpx_birth.specs.declared.edges.Neighbour.{Neighbour}
use Rattle.mpx_birth.specs.Births.{upto}
use Rattle.mpx_birth.specs.Topologies.{AgreesAtBothEnds, TopologyView, sources_at}
use Rattle.mpx_birth.specs.Ends.{rank_at}
use Rattle.mpx_birth.proofs.Meeting.{source_is_rank}
use Rattle.mpx_num.specs.declared.types.Ty.{Ty}
use Rattle.mpx_num.specs.Types.{item_len}
use Rattle.mpx_num.specs.ItemList.{ItemList}
use Rattle.mpx_post.specs.declared.block.Block.{Block}
use Rattle.mpx_post.specs.Posts.{numbers_of, type_of}
use Rattle.mpx_post.specs.Rows.{RowView}
use Rattle.mpx_post.specs.Agreement.{IsFine, first_of, post_at}
use Rattle.mpx_post.proofs.Agreement.{same_type}
use Rattle.mpx_neigh.specs.Cursors.{IsMet}
use Rattle.mpx_neigh.specs.Neighbourhoods.{block_met, source_at}

-- who stands among a rank's sources is one of the ranks
pub source_within : (topology : TopologyView) (rank place : ℕ) → AgreesAtBothEnds topology.ranks → (lent : List Neighbour) → lent ≡ sources_at topology rank → place < length lent → rank_at lent place < length topology.ranks
source_within topology rank place promise lent is l = subst (λ (ns : List Neighbour). rank_at ns place < length topology.ranks) (sym is) (source_is_rank topology.ranks promise rank place (let e = ap length is in omega (arith, e, l)))

-- one source more
pub flat_map_upto : (f : ℕ → List ℤ) (n : ℕ) → flat_map f (upto n) ++ f n ≡ flat_map f (upto (n + 1))
flat_map_upto f n = rw (add-one, flat_map-append f (upto n) (n ∷ []), append-nil) refl

-- the block that meets a place, in what is read of its source
module _ (topology : TopologyView) (row : RowView) (rank place : ℕ) (fine : IsFine row) (block : Block) (met : IsMet topology row rank place block) (read : ℕ) (is : read ≡ source_at topology rank place) (l : read < length row)
    (given : ItemList) (g : given ≡ record { ty = type_of (first_of row); nums = numbers_of (post_at row read) }) where
  type_is : type_of (post_at row (source_at topology rank place)) ≡ type_of (first_of row)
  type_is = ap (λ (n : ℕ). type_of (post_at row n)) (sym is) ∙ same_type row read fine l

  pub part_within : (block.first + block.count) * item_len given.ty ≤ length given.nums
  part_within = rw (g, is, ← type_is) met.within

  pub part_is : (ty : Ty) → ty ≡ type_of (first_of row) → take (block.count * item_len ty) (drop (block.first * item_len ty) given.nums) ≡ block_met topology row rank place
  part_is ty t = rw (g, is, t, ← type_is) (met.at (numbers_of (post_at row (source_at topology rank place))))
