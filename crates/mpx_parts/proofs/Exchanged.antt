-- An exchange's parts give, put together block by block, what one call of whole blocks gives.
use Rattle.std.proofs.Common.{◌≡◌, ◌==◌, ℕ, ◌+◌, ◌*◌, ◌/◌, ◌<◌, Bool, true, false, ◌∷◌, [], List, ℤ, Option, Some, None, length, map, cond, unwrap_or, refl, ap, ap₂, sym, subst, ◌∙◌, eq-eqb, eqb-true, mul_assoc, arith}
use Rattle.std.specs.List.{flat_map, sum}
use Rattle.std.specs.Option.{option_map_or}
use Rattle.std.specs.Prelude.{take, drop, nat_lt}
use Rattle.std.proofs.lemmas.Bool.Decides.{nat_tests}
use Rattle.std.proofs.lemmas.List.Folds.{flat_map-map, sum_by-replicate}
use Rattle.std.proofs.lemmas.Nat.{div-mul-add}
use Rattle.std.proofs.Math.Nat.{mul_comm}
use Rattle.std.proofs.lemmas.List.{nil_from_length}
use Rattle.mpx_num.specs.declared.types.Ty.{Ty}
use Rattle.mpx_num.specs.Types.{item_len}
use Rattle.mpx_num.specs.ItemList.{AreItems, item_count}
use Rattle.mpx_kind.specs.declared.kinds.Kind.{Kind}
use Rattle.mpx_kind.specs.declared.kinds.Kind.TheVariants as K
use Rattle.mpx_kind.specs.declared.kinds.Exchange.{Exchange}
use Rattle.mpx_kind.specs.declared.kinds.Exchange.TheVariants.{Barrier, Bcast, Gather, Gatherv, Scatter, Scatterv, Allgather, Allgatherv, Alltoall, Alltoallv}
use Rattle.mpx_birth.specs.Births.{upto}
use Rattle.mpx_post.specs.declared.value.Value.TheVariants.{Nothing}
use Rattle.mpx_post.specs.Posts.{Given, count_of, nothing_given, numbers_of, root_of, type_of}
use Rattle.mpx_post.specs.Rows.{RowView}
use Rattle.mpx_post.specs.Blocks.{block_at, repeated}
use Rattle.mpx_post.specs.Agreement.{AmountsAgree, IsFine, fill, first_of, is_root, post_at, received, root_post}
use Rattle.mpx_post.specs.Values.{as_items}
use Rattle.mpx_post.proofs.Agreement.{fits_parts, same_type}
use Rattle.mpx_post.proofs.Blocks.{block_at-repeated, count_alone, filled_as, rcounts_as, repeated-replicate}
use Rattle.mpx_call.specs.Parts.{block_in, put_together}
use Rattle.mpx_move.specs.Moves.{block_for, blocks_for, joined, move_of}
use Rattle.mpx_move.proofs.Places.{sent_as}
use Rattle.mpx_parts.specs.Rows.{value_numbers}
use Rattle.mpx_parts.specs.Exchanges.{HasEqualBlocks, IsPart, IsPutTogether, blocks_given, blocks_got}
use Rattle.mpx_parts.proofs.Equal.{block_in_none, block_in_put, by_places, length-block_in, put_none, put_one, put_ranks, put_same, same_of_each}

-- THE POSTS OF A FINE ROW

pub kind_at : (row : RowView) (kind : Kind) (rank : ℕ) → IsFine row → (first_of row).kind ≡ kind → rank < length row → (post_at row rank).kind ≡ kind
kind_at row kind rank fine is below = (fine.with.each rank below).kind ∙ is

pub amounts_at : (row : RowView) (kind : Kind) (rank : ℕ) (fine : IsFine row) → (first_of row).kind ≡ kind → rank < length row → AmountsAgree fine.topology kind row rank (post_at row rank)
amounts_at row kind rank fine is below = subst (λ (k : Kind). AmountsAgree fine.topology k row rank (post_at row rank)) is (fine.with.each rank below).amounts

-- as many numbers as the items have
pub whole_at : (row : RowView) (ty : Ty) (rank : ℕ) → IsFine row → type_of (first_of row) ≡ ty → rank < length row → AreItems ty (numbers_of (post_at row rank)) → length (numbers_of (post_at row rank)) ≡ count_of (post_at row rank) * item_len ty
whole_at row ty rank fine is below items =
    sym (eqb-true _ _ items.whole) ∙ ap (λ t. item_count t (numbers_of (post_at row rank)) * item_len ty) (sym (same_type row rank fine below ∙ is))

-- BLOCKS FOR EACH MEMBER

pub so_many : (each size all : ℕ) → all ≡ each * size → 0 < size → all / size ≡ each
so_many each size all is some =
    let sum : all ≡ each * size + 0 = omega (arith, is) in
    ap (λ n. n / size) sum ∙ div-mul-add each size 0 some

-- of a sender of one block for each member: its numbers are so many blocks of its one count
all_sent : (ty : Ty) (size count : ℕ) (counts : List ℕ) (given : Given) → counts ≡ count ∷ [] → type_of given ≡ ty → fill (Some (repeated size counts)) given ≡ true → length (numbers_of given) ≡ count * item_len ty * size
all_sent ty size count counts given alone is filled =
    let total : sum (repeated size counts) ≡ size * count = ap (λ c. sum (repeated size c)) alone ∙ ap sum (repeated-replicate size count) ∙ sum_by-replicate (λ n. n) size count in
    sym (eqb-true _ _ filled) ∙ ap₂ (λ n t. n * item_len t) total is ∙ mul_assoc size count (item_len ty) ∙ mul_comm size (count * item_len ty)

block_sent : (ty : Ty) (size count receiver : ℕ) (counts : List ℕ) (nums : List ℤ) → counts ≡ count ∷ [] → length nums ≡ count * item_len ty * size → receiver < size → block_at ty (repeated size counts) nums receiver ≡ block_in size receiver nums
block_sent ty size count receiver counts nums alone all below =
    let each : length nums / size ≡ count * item_len ty = so_many (count * item_len ty) size (length nums) all (omega (arith, below)) in
    ap (λ c. block_at ty (repeated size c) nums receiver) alone ∙ block_at-repeated ty size count nums receiver below
    ∙ ap (λ n. take (count * item_len ty) (drop n nums)) (mul_assoc receiver count (item_len ty)) ∙ ap (λ e. take e (drop (receiver * e) nums)) (sym each)

-- so it is of a fine row's sender
record Sends (row : RowView) (sender : ℕ) : Type 0 where
  blocks : (receiver : ℕ) → receiver < length row → block_for row receiver sender ≡ block_in (length row) receiver (numbers_of (post_at row sender))
  long : length (numbers_of (post_at row sender)) ≡ received (post_at row sender) * item_len (type_of (post_at row sender)) * length row

sends_by : (row : RowView) (kind : Kind) (sender : ℕ) → (post_at row sender).kind ≡ kind → length (post_at row sender).rcounts ≡ 1 → sent_as kind (length row) sender (post_at row sender) ≡ repeated (length row) (post_at row sender).rcounts → fill (Some (repeated (length row) (post_at row sender).rcounts)) (post_at row sender) ≡ true → Sends row sender
sends_by row kind sender is one sent filled =
    let given = post_at row sender in
    let size = length row in
    let alone : given.rcounts ≡ received given ∷ [] = count_alone given.rcounts one in
    let long = all_sent (type_of given) size (received given) given.rcounts given alone refl filled in
    record {
      blocks = λ receiver below.
          ap (λ counts. block_at (type_of given) counts (numbers_of given) receiver) (ap (λ k. sent_as k size sender given) is ∙ sent)
          ∙ block_sent (type_of given) size (received given) receiver given.rcounts (numbers_of given) alone long below;
      long = long;
    }

each_sends : (row : RowView) (sender : ℕ) → IsFine row → (first_of row).kind ≡ K.Exchange Alltoall → sender < length row → Sends row sender
each_sends row sender fine is below =
    let given = post_at row sender in
    let kind = kind_at row (K.Exchange Alltoall) sender fine is below in
    let fit = (fine.with.each sender below).fit in
    sends_by row (K.Exchange Alltoall) sender kind (rcounts_as fine.topology (K.Exchange Alltoall) (length row) sender given kind fit) refl (filled_as fine.topology (K.Exchange Alltoall) (length row) sender given kind fit)

if_root : (root : Bool) (size : ℕ) (counts : List ℕ) → root ≡ true → repeated (cond root size 0) counts ≡ repeated size counts
if_root root size counts is = ap (λ b. repeated (cond b size 0) counts) is

root_sends : (row : RowView) (root : ℕ) → IsFine row → (first_of row).kind ≡ K.Exchange Scatter → (first_of row).root ≡ Some root → root < length row → Sends row root
root_sends row root fine is named below =
    let given = post_at row root in
    let kind = kind_at row (K.Exchange Scatter) root fine is below in
    let fit = (fine.with.each root below).fit in
    let at_root : is_root root given ≡ true = ap (λ (o : Option ℕ). option_map_or (λ r. r == root) o false) ((fine.with.each root below).root ∙ named) ∙ eq-eqb root root refl in
    let all = if_root (is_root root given) (length row) given.rcounts at_root in
    sends_by row (K.Exchange Scatter) root kind (rcounts_as fine.topology (K.Exchange Scatter) (length row) root given kind fit) all
    (subst (λ counts. fill (Some counts) given ≡ true) all (filled_as fine.topology (K.Exchange Scatter) (length row) root given kind fit))

-- without a root nothing is sent
none_sent : (row : RowView) → IsFine row → (first_of row).kind ≡ K.Exchange Scatter → (first_of row).root ≡ None → (receiver : ℕ) → receiver < length row → block_for row receiver 0 ≡ block_in (length row) receiver (numbers_of (first_of row))
none_sent row fine is named receiver below =
    let given = first_of row in
    let fit = (fine.with.each 0 (omega (arith, below))).fit in
    let not_root : is_root 0 given ≡ false = ap (λ (o : Option ℕ). option_map_or (λ r. r == 0) o false) named in
    let none : repeated (cond (is_root 0 given) (length row) 0) given.rcounts ≡ [] = ap (λ b. repeated (cond b (length row) 0) given.rcounts) not_root in
    let filled : fill (Some []) given ≡ true = subst (λ counts. fill (Some counts) given ≡ true) none (filled_as fine.topology (K.Exchange Scatter) (length row) 0 given is fit) in
    let nothing : numbers_of given ≡ [] = nil_from_length (numbers_of given) (sym (eqb-true _ _ filled) ∙ omega arith) in
    ap (λ counts. block_at (type_of given) counts (numbers_of given) receiver) (ap (λ k. sent_as k (length row) 0 given) is ∙ none)
    ∙ sym (block_in_none (length row) receiver) ∙ ap (block_in (length row) receiver) (sym nothing)

-- the root of a row that has one, and of one that has none
pub root_below : (row : RowView) → IsFine row → 0 < length row → root_of (first_of row) < length row
root_below row fine some = root_by (first_of row).root (length row) some (fits_parts fine.topology (length row) 0 (first_of row) (fine.with.each 0 some).fit).root
  where
    root_by : (root : Option ℕ) (size : ℕ) → 0 < size → option_map_or (λ r. nat_lt r size) root true ≡ true → unwrap_or root 0 < size
    root_by (Some root) size some fits = grind (arith, nat_tests)
    root_by None size some fits = some

root_block : (row : RowView) → IsFine row → (first_of row).kind ≡ K.Exchange Scatter → (receiver : ℕ) → receiver < length row
    → block_for row receiver (root_of (first_of row)) ≡ block_in (length row) receiver (numbers_of (root_post row))
root_block row fine is receiver below = by_root (first_of row).root refl
  where
    by_root : (root : Option ℕ) → (first_of row).root ≡ root → block_for row receiver (root_of (first_of row)) ≡ block_in (length row) receiver (numbers_of (root_post row))
    by_root (Some root) named =
        let at : root ≡ root_of (first_of row) = ap (λ (o : Option ℕ). unwrap_or o 0) (sym named) in
        subst (λ n. block_for row receiver n ≡ block_in (length row) receiver (numbers_of (post_at row n))) at
        ((root_sends row root fine is named (omega (arith, at, root_below row fine (omega (arith, below))))).blocks receiver below)
    by_root None named =
        let at : 0 ≡ root_of (first_of row) = ap (λ (o : Option ℕ). unwrap_or o 0) (sym named) in
        subst (λ n. block_for row receiver n ≡ block_in (length row) receiver (numbers_of (post_at row n))) at (none_sent row fine is named receiver below)

-- VALUES

-- how many numbers each sender's block of an alltoall has
pub each_block : (row part : RowView) (rank sender : ℕ) → IsPart Alltoall row part → rank < length row → sender < length row → length (block_for part rank sender) ≡ received (first_of part) * item_len (type_of (first_of row))
each_block row part rank sender is below l =
    let here : sender < length part = omega (arith, is.ranks, l) in
    let there : rank < length part = omega (arith, is.ranks, below) in
    let sends = each_sends part sender is.fine is.kind here in
    let count : received (post_at part sender) ≡ received (first_of part) = amounts_at part (K.Exchange Alltoall) sender is.fine is.kind here in
    let given = post_at part sender in
    let each : length (numbers_of given) / length part ≡ received given * item_len (type_of given) = so_many (received given * item_len (type_of given)) (length part) (length (numbers_of given)) sends.long (omega (arith, here)) in
    ap length (sends.blocks rank there) ∙ length-block_in (length part) rank (numbers_of given) there ∙ each
    ∙ ap₂ (λ n t. n * item_len t) count (same_type part sender is.fine here ∙ is.ty)

module _ (exchange : Exchange) (row : RowView) (parts : List RowView) (made : IsPutTogether exchange row parts) where
  given_as : (blocks rank : ℕ) → rank < length row → blocks_given exchange (length row) (rank == root_of (first_of row)) ≡ blocks → numbers_of (post_at row rank) ≡ put_together blocks (map (λ (part : RowView). numbers_of (post_at part rank)) parts)
  given_as blocks rank below is = sym (made.given rank below) ∙ ap (λ n. put_together n (map (λ (part : RowView). numbers_of (post_at part rank)) parts)) is

  -- all that is given, where each rank gives one block
  all_joined : (count : RowView → ℕ) → ((rank : ℕ) → blocks_given exchange (length row) (rank == root_of (first_of row)) ≡ 1) → ((part : RowView) → IsPart exchange row part → (rank : ℕ) → rank < length row → count_of (post_at part rank) ≡ count part)
      → joined row ≡ put_together (length row) (map joined parts)
  all_joined count one even =
      let ty = type_of (first_of row) in
      by_places numbers_of nothing_given row
      ∙ put_ranks (λ rank. numbers_of (post_at row rank)) (λ (part : RowView) rank. numbers_of (post_at part rank)) (λ part. count part * item_len ty) (length row) (IsPart exchange row) parts
      (λ part is rank below. whole_at part ty rank is.fine is.ty (omega (arith, is.ranks, below)) (is.items rank below) ∙ ap (λ n. n * item_len ty) (even part is rank below)) made.all
      (λ rank below. given_as 1 rank below (one rank) ∙ put_one (λ (part : RowView). numbers_of (post_at part rank)) parts)
      ∙ put_same (length row) (λ (part : RowView). flat_map (λ rank. numbers_of (post_at part rank)) (upto (length row))) joined (IsPart exchange row)
      (λ part is. ap (λ n. flat_map (λ rank. numbers_of (post_at part rank)) (upto n)) (sym is.ranks) ∙ sym (by_places numbers_of nothing_given part)) parts made.all

-- where it is so all that is put together, and else nothing
where_put : (b : Bool) (f : RowView → List ℤ) (xs : List ℤ) (n : ℕ) (parts : List RowView) → xs ≡ put_together n (map f parts) → cond b xs [] ≡ put_together n (map (λ part. cond b (f part) []) parts)
where_put true f xs n parts is = is
where_put false f xs n parts is = sym (put_none n parts)

pub where_so : (b : Bool) (row : RowView) (xs : List ℤ) → cond b xs [] ≡ value_numbers (cond b (as_items row xs) Nothing)
where_so true row xs = refl
where_so false row xs = refl

at_root : (root : ℕ) (n : ℕ) → cond (root == root) n 0 ≡ n
at_root root n = ap (λ b. cond b n 0) (eq-eqb root root refl)

pub values : (exchange : Exchange) (row : RowView) (parts : List RowView) (rank : ℕ) → HasEqualBlocks exchange → IsPutTogether exchange row parts → rank < length row
    → value_numbers (move_of exchange row rank) ≡ put_together (blocks_got exchange (length row)) (map (λ (part : RowView). value_numbers (move_of exchange part rank)) parts)
values Barrier row parts rank equal made below = absurd equal
values Gatherv row parts rank equal made below = absurd equal
values Scatterv row parts rank equal made below = absurd equal
values Allgatherv row parts rank equal made below = absurd equal
values Alltoallv row parts rank equal made below = absurd equal
values Bcast row parts rank equal made below =
    let root = root_of (first_of row) in
    given_as Bcast row parts made 1 root (root_below row made.fine (omega (arith, below))) (at_root root 1)
    ∙ put_same 1 (λ (part : RowView). numbers_of (post_at part root)) (λ part. numbers_of (root_post part)) (IsPart Bcast row) (λ part is. ap (λ n. numbers_of (post_at part n)) (sym is.root)) parts made.all
values Gather row parts rank equal made below =
    let is_root = rank == root_of (first_of row) in
    let all = all_joined Gather row parts made (λ part. count_of (root_post part)) (λ rank. refl) (λ part is rank l. amounts_at part (K.Exchange Gather) rank is.fine is.kind (omega (arith, is.ranks, l))) in
    sym (where_so is_root row (joined row)) ∙ where_put is_root joined (joined row) (length row) parts all
    ∙ put_same (length row) (λ part. cond is_root (joined part) []) (λ part. value_numbers (move_of Gather part rank)) (IsPart Gather row)
    (λ part is. where_so is_root part (joined part) ∙ ap (λ root. value_numbers (cond (rank == root) (as_items part (joined part)) Nothing)) (sym is.root)) parts made.all
values Allgather row parts rank equal made below =
    all_joined Allgather row parts made (λ part. count_of (first_of part)) (λ rank. refl) (λ part is rank l. amounts_at part (K.Exchange Allgather) rank is.fine is.kind (omega (arith, is.ranks, l)))
values Scatter row parts rank equal made below =
    let root = root_of (first_of row) in
    let size = length row in
    let whole = λ (part : RowView). numbers_of (post_at part root) in
    root_block row made.fine made.kind rank below
    ∙ ap (block_in size rank) (given_as Scatter row parts made size root (root_below row made.fine (omega (arith, below))) (at_root root size))
    ∙ block_in_put size rank (map whole parts) below ∙ flat_map-map (block_in size rank) whole parts
    ∙ same_of_each (λ part. block_in size rank (whole part)) (λ part. block_for part rank (root_of (first_of part))) (IsPart Scatter row)
    (λ part is. ap₂ (λ n r. block_in n rank (numbers_of (post_at part r))) (sym is.ranks) (sym is.root) ∙ sym (root_block part is.fine is.kind rank (omega (arith, is.ranks, below)))) parts made.all
    ∙ sym (put_one (λ (part : RowView). block_for part rank (root_of (first_of part))) parts)
values Alltoall row parts rank equal made below =
    let size = length row in
    put_ranks (block_for row rank) (λ part. block_for part rank) (λ part. received (first_of part) * item_len (type_of (first_of row))) size (IsPart Alltoall row) parts
    (λ part is sender l. each_block row part rank sender is below l) made.all
    (λ sender l.
    let whole = λ (part : RowView). numbers_of (post_at part sender) in
    (each_sends row sender made.fine made.kind l).blocks rank below
    ∙ ap (block_in size rank) (given_as Alltoall row parts made size sender l refl)
    ∙ block_in_put size rank (map whole parts) below ∙ flat_map-map (block_in size rank) whole parts
    ∙ same_of_each (λ part. block_in size rank (whole part)) (λ part. block_for part rank sender) (IsPart Alltoall row)
    (λ part is. ap (λ n. block_in n rank (whole part)) (sym is.ranks) ∙ sym ((each_sends part sender is.fine is.kind (omega (arith, is.ranks, l))).blocks rank (omega (arith, is.ranks, below)))) parts made.all)
    ∙ put_same size (λ part. flat_map (block_for part rank) (upto size)) (λ part. blocks_for part rank) (IsPart Alltoall row) (λ part is. ap (λ n. flat_map (block_for part rank) (upto n)) (sym is.ranks)) parts made.all
