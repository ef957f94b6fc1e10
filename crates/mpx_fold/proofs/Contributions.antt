-- What the posts of a fine row of a reduction give: as many items of one type, for an operation that fits it.
use Rattle.std.proofs.Common.{◌≡◌, ℕ, ◌*◌, ◌<◌, true, List, [], ◌∷◌, length, Some, refl, sym, subst, ap, ◌∙◌, eqb-true, arith, sum}
use Rattle.mpx_num.specs.declared.types.Ty.{Ty}
use Rattle.mpx_num.specs.declared.operations.Op.{Op}
use Rattle.mpx_num.specs.declared.own.Operation.{Operation}
use Rattle.mpx_num.specs.Operations.{is_for}
use Rattle.mpx_num.specs.Types.{item_len}
use Rattle.mpx_num.specs.ItemList.{AreItems, is_whole}
use Rattle.mpx_kind.specs.declared.kinds.Kind.{Kind}
use Rattle.mpx_kind.specs.declared.kinds.Kind.TheVariants as K
use Rattle.mpx_kind.specs.declared.kinds.Exchange.TheVariants as E
use Rattle.mpx_kind.specs.declared.kinds.Reduction.{Reduction}
use Rattle.mpx_kind.specs.declared.kinds.Reduction.TheVariants as R
use Rattle.mpx_kind.specs.declared.kinds.NewCommunicator.TheVariants as N
use Rattle.mpx_kind.specs.declared.kinds.Neighbourhood.TheVariants as H
use Rattle.mpx_kind.specs.Kinds.{fields_of}
use Rattle.mpx_post.specs.Posts.{Given, type_of, numbers_of, count_of, suits}
use Rattle.mpx_post.specs.Rows.{RowView}
use Rattle.mpx_post.specs.Blocks.{repeated}
use Rattle.mpx_post.specs.Agreement.{post_at, first_of, fill, count_at, Agrees, AllSuit, AmountsAgree, IsFine}
use Rattle.mpx_fold.specs.Folds.{reduces}
use Rattle.mpx_post.proofs.Blocks.{count_alone, rcounts_as, filled_as}
use Rattle.mpx_post.proofs.Agreement.{same_type}

-- lists of one count are equal by it
same_alone : (xs ys : List ℕ) → length xs ≡ 1 → length ys ≡ 1 → count_at xs 0 ≡ count_at ys 0 → xs ≡ ys
same_alone xs ys m n e = count_alone xs m ∙ ap (λ (count : ℕ). count ∷ []) e ∙ sym (count_alone ys n)

abbrev IsWhole : Given → Type 0
IsWhole given = is_whole (type_of given) (numbers_of given) ≡ true

-- as many items are as many numbers
same_by_count : (given first : Given) → type_of given ≡ type_of first → IsWhole given → IsWhole first → count_of given ≡ count_of first → length (numbers_of given) ≡ length (numbers_of first)
same_by_count given first t w v e =
    sym (eqb-true (count_of given * item_len (type_of given)) _ w)
    ∙ ap (λ (n : ℕ). n * item_len (type_of given)) e
    ∙ ap (λ (ty : Ty). count_of first * item_len ty) t
    ∙ eqb-true (count_of first * item_len (type_of first)) _ v

-- equal blocks are as many numbers
same_by_blocks : (given first : Given) (size n : ℕ) → type_of given ≡ type_of first → given.rcounts ≡ first.rcounts → fill (Some (repeated n given.rcounts)) given ≡ true → fill (Some (repeated n first.rcounts)) first ≡ true → length (numbers_of given) ≡ length (numbers_of first)
same_by_blocks given first size n t e f g =
    sym (eqb-true (sum (repeated n given.rcounts) * item_len (type_of given)) _ f)
    ∙ ap (λ (counts : List ℕ). sum (repeated n counts) * item_len (type_of given)) e
    ∙ ap (λ (ty : Ty). sum (repeated n first.rcounts) * item_len ty) t
    ∙ eqb-true (sum (repeated n first.rcounts) * item_len (type_of first)) _ g

module _ (row : RowView) (rank : ℕ) (fine : IsFine row) (l : rank < length row) where
  here : Agrees fine.topology row rank
  here = fine.with.each rank l

  start : Agrees fine.topology row 0
  start = fine.with.each 0 (omega arith)

  by_count : IsWhole (post_at row rank) → IsWhole (first_of row) → count_of (post_at row rank) ≡ count_of (first_of row) → length (numbers_of (post_at row rank)) ≡ length (numbers_of (first_of row))
  by_count w v e = same_by_count (post_at row rank) (first_of row) (same_type row rank fine l) w v e

  as_many_by : (kind : Kind) → (first_of row).kind ≡ kind → AmountsAgree fine.topology kind row rank (post_at row rank) → (fields_of kind).op ≡ true → IsWhole (post_at row rank) → IsWhole (first_of row) → length (numbers_of (post_at row rank)) ≡ length (numbers_of (first_of row))
  as_many_by (K.Reduction R.Reduce) is e op w v = by_count w v e
  as_many_by (K.Reduction R.Allreduce) is e op w v = by_count w v e
  as_many_by (K.Reduction R.Scan) is e op w v = by_count w v e
  as_many_by (K.Reduction R.Exscan) is e op w v = by_count w v e
  as_many_by (K.Reduction R.ReduceScatterBlock) is e op w v =
      let size = length row in
      let one = rcounts_as fine.topology (K.Reduction R.ReduceScatterBlock) size rank (post_at row rank) (here.kind ∙ is) here.fit in
      let alone = rcounts_as fine.topology (K.Reduction R.ReduceScatterBlock) size 0 (first_of row) is start.fit in
      same_by_blocks (post_at row rank) (first_of row) size size (same_type row rank fine l) (same_alone _ _ one alone e) (filled_as fine.topology (K.Reduction R.ReduceScatterBlock) size rank (post_at row rank) (here.kind ∙ is) here.fit) (filled_as fine.topology (K.Reduction R.ReduceScatterBlock) size 0 (first_of row) is start.fit)
  as_many_by (K.Reduction R.ReduceScatter) is e op w v =
      let size = length row in
      same_by_blocks (post_at row rank) (first_of row) size 1 (same_type row rank fine l) e (filled_as fine.topology (K.Reduction R.ReduceScatter) size rank (post_at row rank) (here.kind ∙ is) here.fit) (filled_as fine.topology (K.Reduction R.ReduceScatter) size 0 (first_of row) is start.fit)
  as_many_by (K.Exchange E.Barrier) is e op w v = cc op
  as_many_by (K.Exchange E.Bcast) is e op w v = cc op
  as_many_by (K.Exchange E.Gather) is e op w v = cc op
  as_many_by (K.Exchange E.Gatherv) is e op w v = cc op
  as_many_by (K.Exchange E.Scatter) is e op w v = cc op
  as_many_by (K.Exchange E.Scatterv) is e op w v = cc op
  as_many_by (K.Exchange E.Allgather) is e op w v = cc op
  as_many_by (K.Exchange E.Allgatherv) is e op w v = cc op
  as_many_by (K.Exchange E.Alltoall) is e op w v = cc op
  as_many_by (K.Exchange E.Alltoallv) is e op w v = cc op
  as_many_by (K.NewCommunicator N.Dup) is e op w v = cc op
  as_many_by (K.NewCommunicator N.Split) is e op w v = cc op
  as_many_by (K.NewCommunicator N.Create) is e op w v = cc op
  as_many_by (K.NewCommunicator N.CreateGroup) is e op w v = cc op
  as_many_by (K.NewCommunicator N.DistGraph) is e op w v = cc op
  as_many_by (K.NewCommunicator N.DistGraphAdjacent) is e op w v = cc op
  as_many_by (K.Neighbourhood H.Allgather) is e op w v = cc op
  as_many_by (K.Neighbourhood H.Allgatherv) is e op w v = cc op
  as_many_by (K.Neighbourhood H.Alltoall) is e op w v = cc op
  as_many_by (K.Neighbourhood H.Alltoallv) is e op w v = cc op
  as_many_by K.Free is e op w v = cc op

  -- each gives as many numbers as rank 0
  pub as_many : reduces row ≡ true → AreItems (type_of (first_of row)) (numbers_of (post_at row rank)) → AreItems (type_of (first_of row)) (numbers_of (first_of row)) → length (numbers_of (post_at row rank)) ≡ length (numbers_of (first_of row))
  as_many op given first = as_many_by (first_of row).kind refl here.amounts op (subst (λ (ty : Ty). is_whole ty (numbers_of (post_at row rank)) ≡ true) (sym (same_type row rank fine l)) given.whole) first.whole

-- the operation is for the type
pub suits_first : (ops : List Operation) (row : RowView) (op : Op) (ty : Ty) → AllSuit ops row → 0 < length row → (first_of row).op ≡ Some op → ty ≡ type_of (first_of row) → is_for ops op ty ≡ true
suits_first ops row op ty all l e t =
    let first : suits ops (first_of row) ≡ true = all.each 0 l in
    ap (λ (u : Ty). is_for ops op u) t ∙ rw e at first

-- a reduction has an operation
pub reduction_has_op : (reduction : Reduction) → (fields_of (K.Reduction reduction)).op ≡ true
reduction_has_op R.Reduce = refl
reduction_has_op R.Allreduce = refl
reduction_has_op R.ReduceScatterBlock = refl
reduction_has_op R.ReduceScatter = refl
reduction_has_op R.Scan = refl
reduction_has_op R.Exscan = refl

-- a reduction's posts have items
pub has_items : (kind : Kind) → (fields_of kind).op ≡ true → (fields_of kind).items ≡ true
has_items (K.Exchange E.Barrier) op = cc op
has_items (K.Exchange E.Bcast) op = refl
has_items (K.Exchange E.Gather) op = refl
has_items (K.Exchange E.Gatherv) op = refl
has_items (K.Exchange E.Scatter) op = refl
has_items (K.Exchange E.Scatterv) op = refl
has_items (K.Exchange E.Allgather) op = refl
has_items (K.Exchange E.Allgatherv) op = refl
has_items (K.Exchange E.Alltoall) op = refl
has_items (K.Exchange E.Alltoallv) op = refl
has_items (K.Reduction R.Reduce) op = refl
has_items (K.Reduction R.Allreduce) op = refl
has_items (K.Reduction R.ReduceScatterBlock) op = refl
has_items (K.Reduction R.ReduceScatter) op = refl
has_items (K.Reduction R.Scan) op = refl
has_items (K.Reduction R.Exscan) op = refl
has_items (K.NewCommunicator N.Dup) op = cc op
has_items (K.NewCommunicator N.Split) op = cc op
has_items (K.NewCommunicator N.Create) op = cc op
has_items (K.NewCommunicator N.CreateGroup) op = cc op
has_items (K.NewCommunicator N.DistGraph) op = cc op
has_items (K.NewCommunicator N.DistGraphAdjacent) op = cc op
has_items (K.Neighbourhood H.Allgather) op = refl
has_items (K.Neighbourhood H.Allgatherv) op = refl
has_items (K.Neighbourhood H.Alltoall) op = refl
has_items (K.Neighbourhood H.Alltoallv) op = refl
has_items K.Free op = cc op
