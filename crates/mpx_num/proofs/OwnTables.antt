-- An operation of a job's own means, on items, what its object says, and gives items of the type.
use Rattle.std.proofs.Common.{◌≡◌, ℕ, ◌+◌, ◌*◌, ◌/◌, ◌%◌, ◌^◌, ◌<◌, ◌≤◌, Bool, true, false, if◌then◌else◌, List, [], map, get_or, length, drop, ltb, ℤ, pos, refl, sym, ◌∙◌, ap, arith}
use Rattle.std.specs.List.{range_with_len}
use Rattle.std.proofs.lemmas.Bool.{ltb-true, ltb-false}
use Rattle.std.proofs.lemmas.List.{drop_more, get_or-map, get_or_past, length-map}
use Rattle.std.proofs.lemmas.Simd.{map-map}
use Rattle.std.proofs.lemmas.Nat.{pow_pos}
use Rattle.std.proofs.lemmas.List.FromFn.{get_or-map-range_with_len}
use Rattle.mpx_num.specs.declared.types.Ty.{Ty}
use Rattle.mpx_num.specs.declared.types.Ty.TheVariants.{I8, I16, I32, I64, U8, U16, U32, U64, TwoInt}
use Rattle.mpx_num.specs.declared.own.Operation.{Operation}
use Rattle.mpx_num.specs.Types.{IsInRange, width, is_paired}
use Rattle.mpx_num.specs.Wrapping.{into_range}
use Rattle.mpx_num.specs.Bits.{bits_of}
use Rattle.mpx_num.specs.TypeCodes.{code_of_type, type_at}
use Rattle.mpx_num.specs.Own.{IsItem, IsSecond, item_bits, item_with, most_bits, most_bits_is, operation_of, own_at, own_fits, own_combined}
use Rattle.mpx_num.specs.OwnWords.{place_named, place_of_word}
use Rattle.mpx_num.proofs.Codes.{type_forth}
use Rattle.mpx_num.proofs.Ranges.{into_range-in_range, into_range-same, span_small}
use Rattle.mpx_num.proofs.Congruences.{IsRemainder, rem-is, into_range-agree}

-- what stands where there is none
abbrev no_operation : Operation
no_operation = record { word = []; types = []; results = [] }

bits_of-is_remainder : (ty : Ty) (z : ℤ) → IsRemainder (2 ^ width ty) z (bits_of ty z)
bits_of-is_remainder ty z = rem-is z (2 ^ width ty) (pow_pos (width ty))

bits_of-below : (ty : Ty) (z : ℤ) → bits_of ty z < 2 ^ 64
bits_of-below ty z = let small : bits_of ty z < 2 ^ width ty = (bits_of-is_remainder ty z).below in omega (arith, span_small ty)

-- the number of the type that has the bits of one of its numbers is that one
from_bits : (ty : Ty) (z : ℤ) → IsInRange ty z → into_range ty (pos (bits_of ty z)) ≡ z
from_bits ty z h = into_range-agree ty (pos (bits_of ty z)) z (bits_of-is_remainder ty z).same ∙ into_range-same ty z h

high_part : (a b : ℕ) → b < 2 ^ 64 → (a * 2 ^ 64 + b) / 2 ^ 64 ≡ a
high_part a b h = omega arith

low_part : (a b : ℕ) → b < 2 ^ 64 → (a * 2 ^ 64 + b) % 2 ^ 64 ≡ b
low_part a b h = omega arith

item_bits-below : (ty : Ty) (a : ℤ × ℤ) → item_bits ty a < most_bits
item_bits-below ty a =
    let first : bits_of ty a.0 < 2 ^ 64 = bits_of-below ty a.0 in
    let second : bits_of ty a.1 < 2 ^ 64 = bits_of-below ty a.1 in
    rw most_bits_is (omega arith)

second-is : (b : Bool) (ty : Ty) (n : ℕ) (z : ℤ) → into_range ty (pos (bits_of ty z)) ≡ into_range ty (pos n) → IsSecond b ty z → (if b then into_range ty (pos n) else pos 0) ≡ z
second-is true ty n z e h = sym e ∙ from_bits ty z h
second-is false ty n z e h = sym h

-- an item is the one that has its bits
item_with-bits : (ty : Ty) (a : ℤ × ℤ) → IsItem ty a → item_with ty (item_bits ty a) ≡ a
item_with-bits ty a h =
    let high : item_bits ty a / 2 ^ 64 ≡ bits_of ty a.0 = high_part (bits_of ty a.0) (bits_of ty a.1) (bits_of-below ty a.1) in
    let low : item_bits ty a % 2 ^ 64 ≡ bits_of ty a.1 = low_part (bits_of ty a.0) (bits_of ty a.1) (bits_of-below ty a.1) in
    let first : into_range ty (pos (item_bits ty a / 2 ^ 64)) ≡ a.0 = ap (λ (n : ℕ). into_range ty (pos n)) high ∙ from_bits ty a.0 h.first in
    let second = second-is (is_paired ty) ty (item_bits ty a % 2 ^ 64) a.1 (ap (λ (n : ℕ). into_range ty (pos n)) (sym low)) h.second in
    λ i. (first i, second i)

second-item : (b : Bool) (ty : Ty) (n : ℕ) → IsSecond b ty (if b then into_range ty (pos n) else pos 0)
second-item true ty n = into_range-in_range ty (pos n)
second-item false ty n = refl

-- what has bits is an item
item_with-is_item : (ty : Ty) (n : ℕ) → IsItem ty (item_with ty n)
item_with-is_item ty n = record { first = into_range-in_range ty (pos (n / 2 ^ 64)); second = second-item (is_paired ty) ty (n % 2 ^ 64) }

code_below : (ty : Ty) → code_of_type ty < 10
code_below I8 = omega arith
code_below I16 = omega arith
code_below I32 = omega arith
code_below I64 = omega arith
code_below U8 = omega arith
code_below U16 = omega arith
code_below U32 = omega arith
code_below U64 = omega arith
code_below TwoInt = omega arith

-- every table gives items
pub own_combined-is_item : (op : Operation) (ty : Ty) (a b : ℤ × ℤ) → IsItem ty (own_combined op ty a b)
unfolding own_combined
own_combined-is_item op ty a b = item_with-is_item ty _

-- the operation of an object is for the types that the object says
pub own_fits-of : (word : List ℕ) (fits : Ty → Bool) (f : Ty → ℤ × ℤ → ℤ × ℤ → ℤ × ℤ) (ty : Ty) → own_fits (operation_of word fits f) ty ≡ fits ty
unfolding own_fits operation_of
own_fits-of word fits f ty = get_or-map-range_with_len (λ c. fits (type_at c)) 0 10 (code_of_type ty) (code_of_type ty) false (code_below ty) (omega arith) ∙ ap fits (type_forth ty)

-- and gives for items what the object says, where that is an item
pub own_combined-of : (word : List ℕ) (fits : Ty → Bool) (f : Ty → ℤ × ℤ → ℤ × ℤ → ℤ × ℤ) (ty : Ty) (a b : ℤ × ℤ) → IsItem ty a → IsItem ty b → IsItem ty (f ty a b) → own_combined (operation_of word fits f) ty a b ≡ f ty a b
unfolding own_combined operation_of
own_combined-of word fits f ty a b h k made =
    let t : Ty = type_at (code_of_type ty) in
    let by_type = get_or-map-range_with_len (λ c. map (λ m. map (λ n. item_bits (type_at c) (f (type_at c) (item_with (type_at c) m) (item_with (type_at c) n))) (range_with_len 0 most_bits)) (range_with_len 0 most_bits)) 0 10 (code_of_type ty) (code_of_type ty) [] (code_below ty) (omega arith) in
    let by_left = get_or-map-range_with_len (λ m. map (λ n. item_bits t (f t (item_with t m) (item_with t n))) (range_with_len 0 most_bits)) 0 most_bits (item_bits ty a) (item_bits ty a) [] (item_bits-below ty a) (omega arith) in
    let by_right = get_or-map-range_with_len (λ n. item_bits t (f t (item_with t (item_bits ty a)) (item_with t n))) 0 most_bits (item_bits ty b) (item_bits ty b) 0 (item_bits-below ty b) (omega arith) in
    ap (λ results. item_with ty (get_or (get_or results (item_bits ty a) []) (item_bits ty b) 0)) by_type
    ∙ ap (λ results. item_with ty (get_or results (item_bits ty b) 0)) by_left
    ∙ ap (λ n. item_with ty n) by_right
    ∙ ap (λ (u : Ty). item_with ty (item_bits u (f u (item_with u (item_bits ty a)) (item_with u (item_bits ty b))))) (type_forth ty)
    ∙ ap (λ (x : ℤ × ℤ). item_with ty (item_bits ty (f ty x (item_with ty (item_bits ty b))))) (item_with-bits ty a h)
    ∙ ap (λ (y : ℤ × ℤ). item_with ty (item_bits ty (f ty a y))) (item_with-bits ty b k)
    ∙ item_with-bits ty (f ty a b) made

-- the operation at the place of an object
module _ {X : Type 0} (W : X → List ℕ) (P : X → Ty → Bool) (C : X → Ty → ℤ × ℤ → ℤ × ℤ → ℤ × ℤ) (xs ys : List X) (place : ℕ) (n : ℕ) where
  own_at-some : (x : X) → ys ≡ xs → n ≡ place → true ≡ ltb n (length ys) → x ≡ get_or ys n x →
      own_at (map (λ b. operation_of (W b) (P b) (C b)) xs) place ≡ operation_of (W x) (P x) (C x)
  unfolding own_at
  own_at-some x e p inside is =
      let within : n < length ys = ltb-true _ _ (sym inside) in
      let short : place < length xs = rw (← p, ← e) within in
      let there : x ≡ get_or xs (place) x = rw (← p, ← e) is in
      get_or-map (λ b. operation_of (W b) (P b) (C b)) xs (place) x no_operation short
      ∙ ap (λ b. operation_of (W b) (P b) (C b)) (sym there)

  pub own_fits-at : (x : X) (ty : Ty) → ys ≡ xs → n ≡ place → true ≡ ltb n (length ys) → x ≡ get_or ys n x →
      own_fits (own_at (map (λ b. operation_of (W b) (P b) (C b)) xs) place) ty ≡ P x ty
  own_fits-at x ty e p inside is = ap (λ o. own_fits o ty) (own_at-some x e p inside is) ∙ own_fits-of (W x) (P x) (C x) ty

  pub own_combined-at : (x : X) (ty : Ty) (a b : ℤ × ℤ) → ys ≡ xs → n ≡ place → true ≡ ltb n (length ys) → x ≡ get_or ys n x →
      IsItem ty a → IsItem ty b → IsItem ty (C x ty a b) → own_combined (own_at (map (λ b. operation_of (W b) (P b) (C b)) xs) place) ty a b ≡ C x ty a b
  own_combined-at x ty a b e p inside is h k made = ap (λ o. own_combined o ty a b) (own_at-some x e p inside is) ∙ own_combined-of (W x) (P x) (C x) ty a b h k made

  -- where no object has it, no type fits
  pub own_fits-none : (ty : Ty) → ys ≡ xs → n ≡ place → false ≡ ltb n (length ys) → own_fits (own_at (map (λ b. operation_of (W b) (P b) (C b)) xs) place) ty ≡ false
  unfolding own_at own_fits
  own_fits-none ty e p outside =
      let past : length ys ≤ n = ltb-false _ _ (sym outside) in
      let beyond : length (map (λ b. operation_of (W b) (P b) (C b)) xs) ≤ place = rw (length-map xs (λ b. operation_of (W b) (P b) (C b)), ← p, ← e) past in
      ap (λ (o : Operation). get_or o.types (code_of_type ty) false) (get_or_past (map (λ b. operation_of (W b) (P b) (C b)) xs) (place) no_operation beyond) ∙ get_or_past [] (code_of_type ty) false (omega arith)

-- the place of a word is that of the object that has it
module _ {X : Type 0} (W : X → List ℕ) (P : X → Ty → Bool) (C : X → Ty → ℤ × ℤ → ℤ × ℤ → ℤ × ℤ) (xs ys : List X) (word : List ℕ) where
  pub place_named-of : ys ≡ xs → place_of_word 0 (map W ys) word ≡ place_named (map (λ b. operation_of (W b) (P b) (C b)) xs) word
  unfolding place_named operation_of
  place_named-of e =
      ap (λ (zs : List X). place_of_word 0 (map W zs) word) e
      ∙ ap (λ words. place_of_word 0 words word) (sym (map-map (λ (op : Operation). op.word) (λ b. operation_of (W b) (P b) (C b)) xs))

-- lists that are the same from a place on
pub same_at : (xs ys : List ℤ) (i : ℕ) → drop i xs ≡ drop i ys → i < length xs → i < length ys → get_or xs i (pos 0) ≡ get_or ys i (pos 0)
same_at xs ys i e p q = ap (λ (zs : List ℤ). get_or zs 0 (pos 0)) (sym (drop_more xs i (pos 0) p) ∙ e ∙ drop_more ys i (pos 0) q)

pub same_after : (xs ys : List ℤ) (i : ℕ) → drop i xs ≡ drop i ys → i < length xs → i < length ys → drop (i + 1) xs ≡ drop (i + 1) ys
same_after xs ys i e p q = ap (λ (zs : List ℤ). drop 1 zs) (sym (drop_more xs i (pos 0) p) ∙ e ∙ drop_more ys i (pos 0) q)
