-- A reduction's parts give, one after the other, what one call of all items gives.
use Rattle.std.proofs.Common.{◌≡◌, ℕ, zero, suc, ◌+◌, ◌*◌, ◌/◌, ◌<◌, ◌≤◌, ◌==◌, Bool, true, false, ◌++◌, ◌∷◌, [], List, ℤ, length, inl, inr, cond, refl, ap, ap₂, sym, subst, ◌∙◌, add-one, arith}
use Rattle.std.specs.List.{All, flat_map}
use Rattle.std.proofs.lemmas.Bool.{cases_Bool}
use Rattle.std.proofs.lemmas.List.Elements.{All-head, All-tail}
use Rattle.mpx_num.specs.declared.types.Ty.{Ty}
use Rattle.mpx_num.specs.declared.operations.Op.{Op}
use Rattle.mpx_num.specs.declared.operations.Op.TheVariants.{Own}
use Rattle.mpx_num.specs.declared.own.Operation.{Operation}
use Rattle.mpx_num.specs.Types.{is_paired}
use Rattle.mpx_num.specs.Own.{own_at}
use Rattle.mpx_num.specs.ItemList.{AreItems}
use Rattle.mpx_num.specs.Operations.{combined, combined_pair, elementwise, own_elementwise, own_number, own_pair, predefined, zip_pairs, zip_with}
use Rattle.mpx_num.proofs.Elementwise.{elementwise-none, own_elementwise-numbers, own_elementwise-pairs, paired_whole, predefined-numbers, predefined-pairs}
use Rattle.mpx_num.proofs.Folds.{AreItems-elementwise, length-elementwise}
use Rattle.mpx_kind.specs.declared.kinds.Reduction.{Reduction}
use Rattle.mpx_kind.specs.declared.kinds.Reduction.TheVariants.{Reduce, Allreduce, ReduceScatterBlock, ReduceScatter, Scan, Exscan}
use Rattle.mpx_post.specs.declared.value.Value.TheVariants.{Absent, Nothing}
use Rattle.mpx_post.specs.Posts.{operation_given, root_of, type_of, numbers_of}
use Rattle.mpx_post.specs.Rows.{RowView}
use Rattle.mpx_post.specs.Agreement.{first_of, post_at}
use Rattle.mpx_post.specs.Values.{as_items}
use Rattle.mpx_fold.specs.Folds.{fold_of, folded}
use Rattle.mpx_fold.proofs.Folding.{folded_one, folded_step}
use Rattle.mpx_parts.specs.Rows.{GivesOfEach, IsCutInto, IsPartOf, value_numbers}

-- ITEM BY ITEM

zip_with-append : (f : ℤ → ℤ → ℤ) (xs ys us vs : List ℤ) → length xs ≡ length us → zip_with f (xs ++ ys) (us ++ vs) ≡ zip_with f xs us ++ zip_with f ys vs
zip_with-append f [] ys [] vs e = refl
zip_with-append f [] ys (u ∷ us) vs e = absurd (omega (arith, e))
zip_with-append f (x ∷ xs) ys [] vs e = absurd (omega (arith, e))
zip_with-append f (x ∷ xs) ys (u ∷ us) vs e = ap (λ l. f x u ∷ l) (zip_with-append f xs ys us vs (omega (arith, e)))

zip_pairs-append : (f : _) (xs ys us vs : List ℤ) → length xs / 2 * 2 ≡ length xs → length xs ≡ length us → zip_pairs f (xs ++ ys) (us ++ vs) ≡ zip_pairs f xs us ++ zip_pairs f ys vs
zip_pairs-append f [] ys [] vs w e = refl
zip_pairs-append f [] ys (u ∷ us) vs w e = absurd (omega (arith, e))
zip_pairs-append f (x ∷ []) ys us vs w e = absurd (omega (arith, w))
zip_pairs-append f (x ∷ i ∷ xs) ys [] vs w e = absurd (omega (arith, e))
zip_pairs-append f (x ∷ i ∷ xs) ys (u ∷ []) vs w e = absurd (omega (arith, e))
zip_pairs-append f (x ∷ i ∷ xs) ys (u ∷ j ∷ us) vs w e =
    let found = f (record { value = x; index = i }) (record { value = u; index = j }) in
    ap (λ l. found.value ∷ found.index ∷ l) (zip_pairs-append f xs ys us vs (omega (arith, w)) (omega (arith, e)))

predefined-append : (op : Op) (ty : Ty) (xs ys us vs : List ℤ) → AreItems ty xs → length xs ≡ length us → predefined op ty (xs ++ ys) (us ++ vs) ≡ predefined op ty xs us ++ predefined op ty ys vs
predefined-append op ty xs ys us vs h e = elim (cases_Bool (is_paired ty)) as (λ _. predefined op ty (xs ++ ys) (us ++ vs) ≡ predefined op ty xs us ++ predefined op ty ys vs) [
  | inl paired ↦ predefined-pairs op ty (xs ++ ys) (us ++ vs) paired ∙ zip_pairs-append (combined_pair op ty) xs ys us vs (paired_whole ty xs paired h.whole) e ∙ ap₂ (λ a b. a ++ b) (sym (predefined-pairs op ty xs us paired)) (sym (predefined-pairs op ty ys vs paired))
  | inr single ↦ predefined-numbers op ty (xs ++ ys) (us ++ vs) single ∙ zip_with-append (combined op ty) xs ys us vs e ∙ ap₂ (λ a b. a ++ b) (sym (predefined-numbers op ty xs us single)) (sym (predefined-numbers op ty ys vs single))
]

own-append : (op : Operation) (ty : Ty) (xs ys us vs : List ℤ) → AreItems ty xs → length xs ≡ length us → own_elementwise op ty (xs ++ ys) (us ++ vs) ≡ own_elementwise op ty xs us ++ own_elementwise op ty ys vs
own-append op ty xs ys us vs h e = elim (cases_Bool (is_paired ty)) as (λ _. own_elementwise op ty (xs ++ ys) (us ++ vs) ≡ own_elementwise op ty xs us ++ own_elementwise op ty ys vs) [
  | inl paired ↦ own_elementwise-pairs op ty (xs ++ ys) (us ++ vs) paired ∙ zip_pairs-append (own_pair op ty) xs ys us vs (paired_whole ty xs paired h.whole) e ∙ ap₂ (λ a b. a ++ b) (sym (own_elementwise-pairs op ty xs us paired)) (sym (own_elementwise-pairs op ty ys vs paired))
  | inr single ↦ own_elementwise-numbers op ty (xs ++ ys) (us ++ vs) single ∙ zip_with-append (own_number op ty) xs ys us vs e ∙ ap₂ (λ a b. a ++ b) (sym (own_elementwise-numbers op ty xs us single)) (sym (own_elementwise-numbers op ty ys vs single))
]

elementwise-append : (ops : List Operation) (op : Op) (ty : Ty) (xs ys us vs : List ℤ) → AreItems ty xs → length xs ≡ length us → elementwise ops op ty (xs ++ ys) (us ++ vs) ≡ elementwise ops op ty xs us ++ elementwise ops op ty ys vs
unfolding elementwise
elementwise-append ops (Own place) ty xs ys us vs h e = own-append (own_at ops place) ty xs ys us vs h e
elementwise-append ops op ty xs ys us vs h e = predefined-append op ty xs ys us vs h e

-- PART BY PART

-- equal lists of each part, one after the other
flat_same : {X A : Type 0} (f h : X → List A) (P : X → Type 0) → ((x : X) → P x → f x ≡ h x) → (xs : List X) → All P xs → flat_map f xs ≡ flat_map h xs
flat_same f h P same [] all = refl
flat_same f h P same (x ∷ xs) all = ap₂ (λ a b. a ++ b) (same x (All-head P x xs all)) (flat_same f h P same xs (All-tail P x xs all))

-- two lists of each part have as many items
record AreEven (ty : Ty) (xs ys : List ℤ) : Type 0 where
  left : AreItems ty xs
  right : AreItems ty ys
  even : length xs ≡ length ys

combine_parts : (ops : List Operation) (op : Op) (ty : Ty) (F G : RowView → List ℤ) (P : RowView → Type 0) → ((part : RowView) → P part → AreEven ty (F part) (G part)) → (parts : List RowView) → All P parts
    → elementwise ops op ty (flat_map F parts) (flat_map G parts) ≡ flat_map (λ part. elementwise ops op ty (F part) (G part)) parts
combine_parts ops op ty F G P even [] all = elementwise-none ops op ty []
combine_parts ops op ty F G P even (part ∷ parts) all =
    let here = even part (All-head P part parts all) in
    elementwise-append ops op ty (F part) (flat_map F parts) (G part) (flat_map G parts) here.left here.even
    ∙ ap (λ l. elementwise ops op ty (F part) (G part) ++ l) (combine_parts ops op ty F G P even parts (All-tail P part parts all))

-- what the first ranks' items of a part are folded to has as many items
folded_items : (ops : List Operation) (row part : RowView) (n : ℕ) → IsPartOf row part → suc n ≤ length row → AreEven (type_of (first_of row)) (folded ops part (suc n)) (numbers_of (first_of part))
folded_items ops row part zero is below =
    let one : folded ops part (suc zero) ≡ numbers_of (first_of part) = folded_one ops part (omega (arith, is.ranks)) in
    let first : AreItems (type_of (first_of row)) (numbers_of (first_of part)) = is.items 0 (omega (arith, below)) in
    record { left = subst (AreItems (type_of (first_of row))) (sym one) first; right = first; even = ap length one }
folded_items ops row part (suc n) is below =
    let ty = type_of (first_of row) in
    let so_far = folded_items ops row part n is (omega (arith, below)) in
    let op = operation_given (first_of part) in
    let more = numbers_of (post_at part (suc n)) in
    let more_items : AreItems ty more = is.items (suc n) (omega (arith, below)) in
    let even : length (folded ops part (suc n)) ≡ length more = so_far.even ∙ sym (is.even (suc n) (omega (arith, below))) in
    let step : elementwise ops op ty (folded ops part (suc n)) more ≡ folded ops part (suc (suc n)) =
    folded_step ops part (suc n) op ty (folded ops part (suc n)) more (omega arith) (omega (arith, below, is.ranks)) refl (sym is.ty) refl refl ∙ ap (folded ops part) (add-one (suc n)) in
    record {
      left = subst (AreItems ty) step (AreItems-elementwise ops op ty _ _ so_far.left more_items even);
      right = so_far.right;
      even = ap length (sym step) ∙ length-elementwise ops op ty _ _ so_far.left more_items even ∙ so_far.even;
    }

pub folded_parts : (ops : List Operation) (row : RowView) (parts : List RowView) (n : ℕ) → IsCutInto row parts → suc n ≤ length row → folded ops row (suc n) ≡ flat_map (λ (part : RowView). folded ops part (suc n)) parts
folded_parts ops row parts zero cut below =
    folded_one ops row (omega (arith, below)) ∙ cut.given 0 (omega (arith, below))
    ∙ flat_same (λ part. numbers_of (first_of part)) (λ part. folded ops part (suc zero)) (IsPartOf row) (λ part is. sym (folded_one ops part (omega (arith, below, is.ranks)))) parts cut.all
folded_parts ops row parts (suc n) cut below =
    let ty = type_of (first_of row) in
    let op = operation_given (first_of row) in
    let F = λ (part : RowView). folded ops part (suc n) in
    let G = λ (part : RowView). numbers_of (post_at part (suc n)) in
    ap (folded ops row) (sym (add-one (suc n)))
    ∙ sym (folded_step ops row (suc n) op ty (folded ops row (suc n)) (numbers_of (post_at row (suc n))) (omega arith) (omega (arith, below)) refl refl refl refl)
    ∙ ap₂ (elementwise ops op ty) (folded_parts ops row parts n cut (omega (arith, below))) (cut.given (suc n) (omega (arith, below)))
    ∙ combine_parts ops op ty F G (IsPartOf row) (λ part is.
    let so_far = folded_items ops row part n is (omega (arith, below)) in
    record { left = so_far.left; right = is.items (suc n) (omega (arith, below)); even = so_far.even ∙ sym (is.even (suc n) (omega (arith, below))) }) parts cut.all
    ∙ flat_same (λ part. elementwise ops op ty (F part) (G part)) (λ part. folded ops part (suc (suc n))) (IsPartOf row)
    (λ part is. folded_step ops part (suc n) op ty (F part) (G part) (omega arith) (omega (arith, below, is.ranks)) (sym is.operation) (sym is.ty) refl refl ∙ ap (folded ops part) (add-one (suc n))) parts cut.all

-- VALUES

nothing_of_each : (f : RowView → List ℤ) (row : RowView) (parts : List RowView) → All (IsPartOf row) parts → ((part : RowView) → IsPartOf row part → f part ≡ []) → [] ≡ flat_map f parts
nothing_of_each f row [] all none = refl
nothing_of_each f row (part ∷ parts) all none =
    nothing_of_each f row parts (All-tail (IsPartOf row) part parts all) none ∙ ap (λ l. l ++ flat_map f parts) (sym (none part (All-head (IsPartOf row) part parts all)))

folded_some : (ops : List Operation) (row : RowView) (parts : List RowView) (n : ℕ) → IsCutInto row parts → 0 < n → n ≤ length row → folded ops row n ≡ flat_map (λ (part : RowView). folded ops part n) parts
folded_some ops row parts zero cut some below = absurd (omega (arith, some))
folded_some ops row parts (suc n) cut some below = folded_parts ops row parts n cut below

all_ranks : (ops : List Operation) (row : RowView) (parts : List RowView) → IsCutInto row parts → 0 < length row → folded ops row (length row) ≡ flat_map (λ (part : RowView). folded ops part (length part)) parts
all_ranks ops row parts cut some =
    folded_some ops row parts (length row) cut some (omega arith)
    ∙ flat_same (λ part. folded ops part (length row)) (λ part. folded ops part (length part)) (IsPartOf row) (λ part is. ap (folded ops part) (sym is.ranks)) parts cut.all

-- a list where it is so, and else none
where_so : (b : Bool) (row : RowView) (xs : List ℤ) → cond b xs [] ≡ value_numbers (cond b (as_items row xs) Nothing)
where_so true row xs = refl
where_so false row xs = refl

where_not : (b : Bool) (row : RowView) (xs : List ℤ) → cond b [] xs ≡ value_numbers (cond b Absent (as_items row xs))
where_not true row xs = refl
where_not false row xs = refl

none_or : (b : Bool) (f : RowView → List ℤ) (xs : List ℤ) (row : RowView) (parts : List RowView) → All (IsPartOf row) parts → xs ≡ flat_map f parts → cond b xs [] ≡ flat_map (λ part. cond b (f part) []) parts
none_or true f xs row parts all is = is
none_or false f xs row parts all is = nothing_of_each (λ part. []) row parts all (λ part is. refl)

or_none : (b : Bool) (f : RowView → List ℤ) (xs : List ℤ) (row : RowView) (parts : List RowView) → All (IsPartOf row) parts → (b ≡ false → xs ≡ flat_map f parts) → cond b [] xs ≡ flat_map (λ part. cond b [] (f part)) parts
or_none true f xs row parts all is = nothing_of_each (λ part. []) row parts all (λ part is. refl)
or_none false f xs row parts all is = is refl

not_first : (n : ℕ) → (n == 0) ≡ false → 0 < n
not_first n e = grind (arith, e)

pub values : (ops : List Operation) (reduction : Reduction) (row : RowView) (parts : List RowView) (rank : ℕ) → GivesOfEach reduction → IsCutInto row parts → rank < length row
    → value_numbers (fold_of ops reduction row rank) ≡ flat_map (λ (part : RowView). value_numbers (fold_of ops reduction part rank)) parts
values ops Reduce row parts rank each cut below =
    let is_root = rank == root_of (first_of row) in
    sym (where_so is_root row (folded ops row (length row)))
    ∙ none_or is_root (λ part. folded ops part (length part)) (folded ops row (length row)) row parts cut.all (all_ranks ops row parts cut (omega (arith, below)))
    ∙ flat_same (λ part. cond is_root (folded ops part (length part)) []) (λ part. value_numbers (fold_of ops Reduce part rank)) (IsPartOf row)
    (λ part is. where_so is_root part (folded ops part (length part)) ∙ ap (λ root. value_numbers (cond (rank == root) (as_items part (folded ops part (length part))) Nothing)) (sym is.root)) parts cut.all
values ops Allreduce row parts rank each cut below = all_ranks ops row parts cut (omega (arith, below))
values ops ReduceScatterBlock row parts rank each cut below = absurd each
values ops ReduceScatter row parts rank each cut below = absurd each
values ops Scan row parts rank each cut below = folded_some ops row parts (rank + 1) cut (omega arith) (omega (arith, below))
values ops Exscan row parts rank each cut below =
    sym (where_not (rank == 0) row (folded ops row rank))
    ∙ or_none (rank == 0) (λ part. folded ops part rank) (folded ops row rank) row parts cut.all (λ e. folded_some ops row parts rank cut (not_first rank e) (omega (arith, below)))
    ∙ flat_same (λ part. cond (rank == 0) [] (folded ops part rank)) (λ part. value_numbers (fold_of ops Exscan part rank)) (IsPartOf row) (λ part is. where_not (rank == 0) part (folded ops part rank)) parts cut.all
