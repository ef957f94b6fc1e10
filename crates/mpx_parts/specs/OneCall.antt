-- The one call of whole blocks, by one of its parts (MPI 4.1, sections 6.4 to 6.8).
use Rattle.std.specs.Prelude.{◌≡◌, ◌==◌, ◌*◌, ℕ, ℤ, ◌<◌, List, Some, is_some, length, map}
use Rattle.mpx_num.specs.Types.{item_len}
use Rattle.mpx_kind.specs.declared.kinds.Kind.TheVariants as K
use Rattle.mpx_kind.specs.declared.kinds.Exchange.{Exchange}
use Rattle.mpx_kind.specs.Kinds.{fields_of}
use Rattle.mpx_post.specs.Posts.{Given, numbers_of, root_of, type_of}
use Rattle.mpx_post.specs.Rows.{RowView}
use Rattle.mpx_post.specs.Agreement.{IsFine, first_of, post_at}
use Rattle.mpx_parts.specs.Exchanges.{blocks_given}

-- a rank's post to the one call: that to a part, but of all its items, `count` of each block
abbrev pub of_whole : (given : Given) → (count : ℕ) → (nums : List ℤ) → Given
of_whole given count nums = record {
  kind = given.kind;
  mode = given.mode;
  root = given.root;
  op = given.op;
  scounts = given.scounts;
  rcounts = map (λ (n : ℕ). count) given.rcounts;
  items = Some (record { ty = type_of given; nums = nums });
  making = given.making;
}

-- in the one call all ranks give blocks of `count` items, and else what they give in this part, whose row is fine
pub record IsOfCount (exchange : Exchange) (count : ℕ) (row part : RowView) : Type 0 where
  pub fine : IsFine part
  pub kind : (first_of part).kind ≡ K.Exchange exchange
  pub root : is_some (first_of part).root ≡ (fields_of (K.Exchange exchange)).root
  pub ranks : length row ≡ length part
  pub posts : (rank : ℕ) → rank < length row → post_at row rank ≡ of_whole (post_at part rank) count (numbers_of (post_at row rank))
  pub long : (rank : ℕ) → rank < length row → length (numbers_of (post_at row rank)) ≡ blocks_given exchange (length row) (rank == root_of (first_of part)) * (count * item_len (type_of (first_of part)))
