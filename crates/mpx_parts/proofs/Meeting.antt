-- What ranks' longer calls in parts give is what one call gives.
use Rattle.std.proofs.Common.{◌≡◌, ◌==◌, ℕ, ℤ, ◌*◌, ◌<◌, ◌∷◌, [], List, length, map, inl, inr, refl, ap, sym, ◌∙◌, mul_assoc, mul_comm, arith}
use Rattle.std.specs.List.{All}
use Rattle.std.specs.Prelude.{drop, get_or}
use Rattle.std.proofs.lemmas.Bool.{cases_Bool, cond-false, cond-true}
use Rattle.std.proofs.lemmas.List.Elements.{All-cons, All-head, All-map, All-nil, All-tail, All-weaker}
use Rattle.mpx_num.specs.declared.own.Operation.{Operation}
use Rattle.mpx_num.specs.Types.{item_len}
use Rattle.mpx_num.proofs.Parts.{item_len-positive}
use Rattle.mpx_kind.specs.declared.kinds.Kind.TheVariants as K
use Rattle.mpx_kind.specs.declared.kinds.Exchange.{Exchange}
use Rattle.mpx_kind.specs.declared.kinds.Reduction.{Reduction}
use Rattle.mpx_kind.specs.declared.kinds.Exchange.TheVariants.{Barrier, Bcast, Gather, Gatherv, Scatter, Scatterv, Allgather, Allgatherv, Alltoall, Alltoallv}
use Rattle.mpx_post.specs.declared.value.Value.{Value}
use Rattle.mpx_post.specs.Posts.{count_of, nothing_given, numbers_of, root_of, type_of}
use Rattle.mpx_post.specs.Rows.{RowView}
use Rattle.mpx_post.specs.Agreement.{first_of, post_at, received, root_post}
use Rattle.mpx_call.specs.Parts.{Part, put_together}
use Rattle.mpx_move.specs.Moves.{block_for, joined, move_of}
use Rattle.mpx_fold.specs.Folds.{fold_of}
use Rattle.mpx_parts.specs.Exchanges.{HasEqualBlocks, IsPart, IsPutTogether, blocks_given, blocks_got}
use Rattle.mpx_parts.specs.Meeting.{MeetInExchange, MeetInReduction, MeetInRows}
use Rattle.mpx_parts.specs.Numbers.{AreOfEach, IsOfBlocks}
use Rattle.mpx_parts.specs.Rows.{GivesOfEach, IsCutInto, value_numbers}
use Rattle.mpx_parts.proofs.Equal.{by_places, length_upto, put_one}
use Rattle.mpx_parts.proofs.Exchanged.{amounts_at, each_block, so_many, values, where_so, whole_at}
use Rattle.mpx_parts.proofs.Numbers.{put}
use Rattle.mpx_parts.proofs.Rows.{values as reductions}

-- HOW MANY NUMBERS A VALUE HAS

-- what all ranks give to a part, where each gives one block
length_joined : (exchange : Exchange) (row part : RowView) (count : ℕ) → IsPart exchange row part → ((rank : ℕ) → rank < length part → count_of (post_at part rank) ≡ count) → length (joined part) ≡ length row * (count * item_len (type_of (first_of row)))
length_joined exchange row part count is even =
    let ty = type_of (first_of row) in
    ap length (by_places numbers_of nothing_given part)
    ∙ length_upto (λ rank. numbers_of (post_at part rank)) (count * item_len ty) (length part)
    (λ rank below. whole_at part ty rank is.fine is.ty below (is.items rank (omega (arith, is.ranks, below))) ∙ ap (λ n. n * item_len ty) (even rank below))
    ∙ ap (λ n. n * (count * item_len ty)) is.ranks

module _ {T : Type 0} (each : ℕ) (numbers : List T → List ℤ) (are : AreOfEach each numbers) (some : 0 < each) where
  of_blocks : (size count : ℕ) (list : List T) → length (numbers list) ≡ size * (count * each) → IsOfBlocks size list
  of_blocks size count list long =
      let all : length list * each ≡ count * size * each = sym (are.long list) ∙ long ∙ sym (mul_assoc size count each) ∙ ap (λ n. n * each) (mul_comm size count) in
      (count, sym (so_many (length list) each (length list * each) refl some) ∙ so_many (count * size) each (length list * each) all some)

of_one : {T : Type 0} (list : List T) → IsOfBlocks 1 list
of_one list = (length list, omega arith)

of_value : {T : Type 0} (numbers : List T → List ℤ) (exchange : Exchange) (row part : RowView) (rank : ℕ) (list : List T) → HasEqualBlocks exchange → IsPart exchange row part → rank < length row → AreOfEach (item_len (type_of (first_of row))) numbers
    → value_numbers (move_of exchange part rank) ≡ numbers list → IsOfBlocks (blocks_got exchange (length row)) list
of_value numbers Barrier row part rank list equal is below are same = absurd equal
of_value numbers Gatherv row part rank list equal is below are same = absurd equal
of_value numbers Scatterv row part rank list equal is below are same = absurd equal
of_value numbers Allgatherv row part rank list equal is below are same = absurd equal
of_value numbers Alltoallv row part rank list equal is below are same = absurd equal
of_value numbers Bcast row part rank list equal is below are same = of_one list
of_value numbers Scatter row part rank list equal is below are same = of_one list
of_value numbers Allgather row part rank list equal is below are same =
    of_blocks (item_len (type_of (first_of row))) numbers are (item_len-positive (type_of (first_of row))) (length row) (count_of (first_of part)) list
    (ap length (sym same) ∙ length_joined Allgather row part (count_of (first_of part)) is (λ n l. amounts_at part (K.Exchange Allgather) n is.fine is.kind l))
of_value numbers Alltoall row part rank list equal is below are same =
    let each = received (first_of part) * item_len (type_of (first_of row)) in
    of_blocks (item_len (type_of (first_of row))) numbers are (item_len-positive (type_of (first_of row))) (length row) (received (first_of part)) list
    (ap length (sym same) ∙ length_upto (block_for part rank) each (length part) (λ sender l. each_block row part rank sender is below (omega (arith, is.ranks, l))) ∙ ap (λ n. n * each) is.ranks)
of_value numbers Gather row part rank list equal is below are same =
    let at_root = rank == root_of (first_of part) in
    let il = item_len (type_of (first_of row)) in
    let so = of_blocks il numbers are (item_len-positive (type_of (first_of row))) (length row) in
    elim (cases_Bool at_root) as (λ _. IsOfBlocks (length row) list) [
      | inl here ↦ so (count_of (root_post part)) list
          (ap length (sym same ∙ sym (where_so at_root part (joined part)) ∙ cond-true _ (joined part) [] here) ∙ length_joined Gather row part (count_of (root_post part)) is (λ n l. amounts_at part (K.Exchange Gather) n is.fine is.kind l))
      | inr away ↦
          let none : 0 ≡ length row * (0 * il) = omega arith in
          so 0 list (ap length (sym same ∙ sym (where_so at_root part (joined part)) ∙ cond-false _ (joined part) [] away) ∙ none)
    ]

-- ALL PARTS

all_parts : {X Y T : Type 0} (f : X → List ℤ) (g : Y → List ℤ) (h : Y → List T) (P : X → Type 0) (Q : List T → Type 0) → ((x : X) (y : Y) → P x → f x ≡ g y → Q (h y)) → (xs : List X) (ys : List Y) → map f xs ≡ map g ys → All P xs → All Q (map h ys)
all_parts f g h P Q through [] [] same all = All-nil Q
all_parts f g h P Q through [] (y ∷ ys) same all = absurd (omega (arith, ap length same))
all_parts f g h P Q through (x ∷ xs) [] same all = absurd (omega (arith, ap length same))
all_parts f g h P Q through (x ∷ xs) (y ∷ ys) same all =
    All-cons Q (h y) (map h ys) (through x y (All-head P x xs all) (ap (λ l. get_or l 0 []) same)) (all_parts f g h P Q through xs ys (ap (drop 1) same) (All-tail P x xs all))

map_twice : {Y T : Type 0} (h : Y → List T) (numbers : List T → List ℤ) (ys : List Y) → map numbers (map h ys) ≡ map (λ y. numbers (h y)) ys
map_twice h numbers [] = refl
map_twice h numbers (y ∷ ys) = ap (λ l. numbers (h y) ∷ l) (map_twice h numbers ys)

-- what each rank gives, and what it gets, by numbers
module _ {T : Type 0} (each : ℕ) (numbers : List T → List ℤ) (are : AreOfEach each numbers) (value : RowView → ℕ → Value) (most count : ℕ) (gives : ℕ → ℕ) (gets : ℕ) (row : RowView) (rows : List RowView) (items list : ℕ → List T) (parts : ℕ → List (Part T))
    (met : MeetInRows numbers value most count gives gets row rows items list parts) (rank : ℕ) (below : rank < length row) where
  given : put_together (gives rank) (map (λ (at : RowView). numbers_of (post_at at rank)) rows) ≡ numbers_of (post_at row rank)
  given =
      let cut = met.cut rank below in
      let f = λ (part : Part T). part.given in
      let whole = All-map (IsOfBlocks (gives rank)) f (parts rank) (All-weaker (λ (part : Part T). length part.given ≡ gives rank * part.count) (λ (part : Part T). IsOfBlocks (gives rank) part.given) (λ part long. (part.count, long ∙ mul_comm (gives rank) part.count)) (parts rank) cut.lengths) in
      ap (put_together (gives rank)) (met.given rank below ∙ sym (map_twice f numbers (parts rank)))
      ∙ sym (put each numbers are (gives rank) (map f (parts rank)) whole) ∙ ap numbers cut.given ∙ sym (met.whole rank below)

  got : All (IsOfBlocks gets) (map (λ (part : Part T). part.got) (parts rank)) → numbers (list rank) ≡ put_together gets (map (λ (at : RowView). value_numbers (value at rank)) rows)
  got whole =
      let f = λ (part : Part T). part.got in
      ap numbers (sym (met.cut rank below).got) ∙ put each numbers are gets (map f (parts rank)) whole
      ∙ ap (put_together gets) (map_twice f numbers (parts rank) ∙ sym (met.got rank below))

pub exchanged : {T : Type 0} (numbers : List T → List ℤ) (most count : ℕ) (exchange : Exchange) (row : RowView) (rows : List RowView) (items list : ℕ → List T) (parts : ℕ → List (Part T)) (rank : ℕ)
    → HasEqualBlocks exchange → AreOfEach (item_len (type_of (first_of row))) numbers → MeetInExchange numbers most count exchange row rows items list parts → rank < length row → numbers (list rank) ≡ value_numbers (move_of exchange row rank)
exchanged {T} numbers most count exchange row rows items list parts rank equal are meet below =
    let each = item_len (type_of (first_of row)) in
    let gives = λ (rank : ℕ). blocks_given exchange (length row) (rank == root_of (first_of row)) in
    let gets = blocks_got exchange (length row) in
    let whole = all_parts (λ (at : RowView). value_numbers (move_of exchange at rank)) (λ (part : Part T). numbers part.got) (λ (part : Part T). part.got) (IsPart exchange row) (IsOfBlocks gets)
    (λ at part is same. of_value numbers exchange row at rank part.got equal is below are same) rows (parts rank) (meet.met.got rank below) meet.all in
    let made : IsPutTogether exchange row rows = record { fine = meet.fine; kind = meet.kind; all = meet.all; given = λ other l. given each numbers are (move_of exchange) most count gives gets row rows items list parts meet.met other l } in
    got each numbers are (move_of exchange) most count gives gets row rows items list parts meet.met rank below whole ∙ sym (values exchange row rows rank equal made below)

pub reduced : {T : Type 0} (each : ℕ) (numbers : List T → List ℤ) (most count : ℕ) (ops : List Operation) (reduction : Reduction) (row : RowView) (rows : List RowView) (items list : ℕ → List T) (parts : ℕ → List (Part T)) (rank : ℕ)
    → GivesOfEach reduction → AreOfEach each numbers → MeetInReduction numbers most count ops reduction row rows items list parts → rank < length row → numbers (list rank) ≡ value_numbers (fold_of ops reduction row rank)
reduced {T} each numbers most count ops reduction row rows items list parts rank of_each are meet below =
    let f = λ (part : Part T). part.got in
    let one : ℕ → ℕ = λ (rank : ℕ). 1 in
    let value = fold_of ops reduction in
    let whole = All-map (IsOfBlocks 1) f (parts rank) (All-weaker (λ (part : Part T). length part.given ≡ 1 * part.count) (λ (part : Part T). IsOfBlocks 1 part.got) (λ part long. of_one part.got) (parts rank) (meet.met.cut rank below).lengths) in
    let made : IsCutInto row rows = record { all = meet.all; given = λ other l. sym (given each numbers are value most count one 1 row rows items list parts meet.met other l) ∙ put_one (λ (at : RowView). numbers_of (post_at at other)) rows } in
    got each numbers are value most count one 1 row rows items list parts meet.met rank below whole
    ∙ put_one (λ (at : RowView). value_numbers (value at rank)) rows ∙ sym (reductions ops reduction row rows rank of_each made below)
