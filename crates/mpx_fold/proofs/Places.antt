-- Where a rank's block stands.
use Rattle.std.proofs.Common.{◌≡◌, ℕ, ◌*◌, ◌<◌, List, [], ◌∷◌, length, take, sum, sym, ap, ◌∙◌, append-nil, eqb-true, arith}
use Rattle.mpx_num.specs.Types.{item_len}
use Rattle.mpx_kind.specs.declared.kinds.Kind.TheVariants.{Reduction}
use Rattle.mpx_kind.specs.declared.kinds.Reduction.TheVariants.{ReduceScatterBlock, ReduceScatter}
use Rattle.mpx_post.specs.Posts.{type_of, numbers_of}
use Rattle.mpx_post.specs.Rows.{RowView}
use Rattle.mpx_post.specs.Blocks.{IsBlock, block_at, repeated}
use Rattle.mpx_post.specs.Agreement.{count_at, first_of, IsFine}
use Rattle.mpx_post.proofs.Blocks.{block_at-part, block_at-repeated, block_within, repeated_within, count_alone, rcounts_as, filled_as}

module _ (row : RowView) (rank : ℕ) (fine : IsFine row) (l : rank < length row) where
  pub one_count : (first_of row).kind ≡ Reduction ReduceScatterBlock → length (first_of row).rcounts ≡ 1
  one_count kind = rcounts_as fine.topology (Reduction ReduceScatterBlock) (length row) 0 (first_of row) kind (fine.with.each 0 (omega arith)).fit

  -- one count, which all blocks have
  pub equal_place : (first count : ℕ) → (first_of row).kind ≡ Reduction ReduceScatterBlock → first ≡ rank * count → count ≡ count_at (first_of row).rcounts 0 → IsBlock (type_of (first_of row)) (repeated (length row) (first_of row).rcounts) rank (length (numbers_of (first_of row))) (record { first = first; count = count })
  equal_place first count kind f e =
      let ty = type_of (first_of row) in
      let numbers = numbers_of (first_of row) in
      let size = length row in
      let alone : (first_of row).rcounts ≡ count ∷ [] = count_alone (first_of row).rcounts (one_count kind) ∙ ap (λ (n : ℕ). n ∷ []) (sym e) in
      let filled = filled_as fine.topology (Reduction ReduceScatterBlock) size 0 (first_of row) kind (fine.with.each 0 (omega arith)).fit in
      record {
        at = λ nums. rw f (sym (ap (λ (counts : List ℕ). block_at ty (repeated size counts) nums rank) alone ∙ block_at-repeated ty size count nums rank l));
        within = rw f (repeated_within ty size count numbers rank l (ap (λ (counts : List ℕ). sum (repeated size counts) * item_len ty) (sym alone) ∙ eqb-true _ _ filled));
      }

  pub a_count_each : (first_of row).kind ≡ Reduction ReduceScatter → length (first_of row).rcounts ≡ length row
  a_count_each kind = rcounts_as fine.topology (Reduction ReduceScatter) (length row) 0 (first_of row) kind (fine.with.each 0 (omega arith)).fit

  -- a count for each rank
  pub counted_place : (first count : ℕ) → (first_of row).kind ≡ Reduction ReduceScatter → first ≡ sum (take rank (first_of row).rcounts) → count ≡ count_at (first_of row).rcounts rank → IsBlock (type_of (first_of row)) (first_of row).rcounts rank (length (numbers_of (first_of row))) (record { first = first; count = count })
  counted_place first count kind f e =
      let ty = type_of (first_of row) in
      let counts = (first_of row).rcounts in
      let filled = filled_as fine.topology (Reduction ReduceScatter) (length row) 0 (first_of row) kind (fine.with.each 0 (omega arith)).fit in
      let below : rank < length counts = omega (arith, a_count_each kind) in
      record {
        at = λ nums. rw (f, e) (sym (block_at-part ty counts nums rank below));
        within = rw (f, e) (block_within ty counts (numbers_of (first_of row)) rank below (ap (λ (list : List ℕ). sum list * item_len ty) (sym (append-nil counts)) ∙ eqb-true _ _ filled));
      }
