-- Numbers of a type, and the bytes that spell them.
use Rattle.std.proofs.Common.{◌≡◌, ℕ, zero, suc, ◌+◌, ◌-◌, ◌*◌, ◌/◌, ◌%◌, ◌^◌, ◌<◌, ◌≤◌, ℤ, pos, negsuc, neg_ℤ, ◌≤ℤ◌, Bool, true, false, List, [], ◌∷◌, ◌++◌, length, get_or, take, drop, FitsSigned, Result, Ok, Err, IfOk, refl, sym, ap, subst, ◌∙◌, append_assoc, arith, ltb}
use Rattle.std.specs.Int.{Width, w8, w16, w32, w64, byte_len, cast_signed, cast_unsigned, from_be_bytes, to_be_bytes}
use Rattle.std.specs.List.{All, flat_map}
use Rattle.std.proofs.lemmas.Bool.{eq-eqb, eqb-true, ltb-true, ltb-false}
use Rattle.std.proofs.lemmas.Int.{ints, of_z-to_z, to_z-of_z}
use Rattle.std.proofs.lemmas.List.{length-append, length-take, length-drop, take_at, drop_at, drop-drop, take-append-drop, get_or-take, get_or-drop, get_or_past, take_more, append-nil, get_or_default}
use Rattle.std.proofs.lemmas.Grind.{flat_map-append}
use Rattle.std.proofs.lemmas.Nat.{mul-le, be_bytes_2, be_bytes_4, be_bytes_8, from_be_bytes-to_be_bytes_2, from_be_bytes-to_be_bytes_4, from_be_bytes-to_be_bytes_8}
use Rattle.std.proofs.Math.Nat.{mul-div_cancel, mul_assoc}
use native.Mathlib.Nat.{mul-pos}
use mir.Val.{bits, hbits}
use mir.ValLaws.{of_z_fits}
use Rattle.mpx_num.specs.declared.types.Ty.{Ty}
use Rattle.mpx_num.specs.declared.types.Ty.TheVariants.{I8, I16, I32, I64, U8, U16, U32, U64, TwoInt}
use Rattle.mpx_num.specs.Types.{IsInRange, depth, item_len, width}
use Rattle.std.proofs.lemmas.List.Elements.{All-nil}
use Rattle.mpx_num.specs.ItemList.{AreItems, ItemList}
use Rattle.mpx_num.specs.KeptSpelled.{AreKept}
use Rattle.mpx_num.specs.declared.spelled.KeptBytes.TheVariants.{Few}
use Rattle.mpx_num.specs.Spelling.{are_whole, bytes_of, number_in, number_len, numbers_from, numbers_in, width_of}
use Rattle.mpx_num.proofs.Parts.{whole_from_multiple, multiple_from_whole, item_len-positive}

abbrev pub IsBytes : List ℕ → Type 0
IsBytes bytes = (i : ℕ) → get_or bytes i 0 < 256

pub IsBytes-take : (n : ℕ) (bytes : List ℕ) → IsBytes bytes → IsBytes (take n bytes)
IsBytes-take n bytes h i = by (ltb i n) refl
  where
    by : (t : Bool) → ltb i n ≡ t → get_or (take n bytes) i 0 < 256
    by true e = rw (get_or-take n bytes i 0 (ltb-true _ _ e)) (h i)
    by false e = let far : n ≤ i = ltb-false _ _ e in rw (get_or_past (take n bytes) i 0 (omega (arith, length-take n bytes))) (omega arith)

pub IsBytes-drop : (n : ℕ) (bytes : List ℕ) → IsBytes bytes → IsBytes (drop n bytes)
IsBytes-drop n bytes h i = rw (get_or-drop n bytes i 0) (h (n + i))

-- UNSIGNED NUMBERS

record IsWide (w : Width) : Type 0 where
  len : (n : ℕ) → length (to_be_bytes w n) ≡ byte_len w
  back : (bytes : List ℕ) → length bytes ≡ byte_len w → IsBytes bytes → to_be_bytes w (from_be_bytes w bytes) ≡ bytes
  again : (n : ℕ) → n < 2 ^ bits w → from_be_bytes w (to_be_bytes w n) ≡ n
  below : (bytes : List ℕ) → IsBytes bytes → from_be_bytes w bytes < 2 ^ bits w

byte_back : (b : ℕ) → b < 256 → to_be_bytes w8 b ≡ b ∷ []
byte_back b lt = let is : b % 256 ≡ b = omega (arith, lt) in ap (λ (x : ℕ). x ∷ []) is

one_back : (bytes : List ℕ) → length bytes ≡ 1 → IsBytes bytes → to_be_bytes w8 (from_be_bytes w8 bytes) ≡ bytes
one_back [] len h = absurd (omega (arith, len))
one_back (b ∷ []) len h = byte_back b (h 0)
one_back (b ∷ c ∷ bytes) len h = absurd (omega (arith, len))

wide8 : IsWide w8
wide8 = record {
  len = λ n. refl;
  back = one_back;
  again = λ n lt. omega (arith, lt);
  below = λ bytes h. h 0;
}

wide16 : IsWide w16
wide16 = record {
  len = λ n. refl;
  back = λ bytes len h. be_bytes_2 bytes _ len h refl;
  again = λ n lt. from_be_bytes-to_be_bytes_2 n lt;
  below = λ bytes h. omega (arith, h 0, h 1);
}

wide32 : IsWide w32
wide32 = record {
  len = λ n. refl;
  back = λ bytes len h. be_bytes_4 bytes _ len h refl;
  again = λ n lt. from_be_bytes-to_be_bytes_4 n lt;
  below = λ bytes h. omega (arith, h 0, h 1, h 2, h 3);
}

wide64 : IsWide w64
wide64 = record {
  len = λ n. refl;
  back = λ bytes len h. be_bytes_8 bytes _ len h refl;
  again = λ n lt. from_be_bytes-to_be_bytes_8 n lt;
  below = λ bytes h. omega (arith, h 0, h 1, h 2, h 3, h 4, h 5, h 6, h 7);
}

-- NUMBERS OF A TYPE

pub record Spells (ty : Ty) : Type 0 where
  pub some : 0 < number_len ty
  pub len : (z : ℤ) → length (bytes_of ty z) ≡ number_len ty
  pub back : (bytes : List ℕ) → length bytes ≡ number_len ty → IsBytes bytes → bytes_of ty (number_in ty bytes) ≡ bytes
  pub again : (z : ℤ) → IsInRange ty z → number_in ty (bytes_of ty z) ≡ z
  pub within : (bytes : List ℕ) → IsBytes bytes → IsInRange ty (number_in ty bytes)

fits : (half : ℕ) (w : Width) (z : ℤ) → half ≡ 2 ^ hbits w → 0 < half → neg_ℤ (pos half) ≤ℤ z → z ≤ℤ pos (half + half - 1 - half) → FitsSigned w z
fits half w (pos n) is some low high = let lt : n < half = omega (arith, ints, low, high, some) in record { sfits = subst (λ (k : ℕ). n < k) is lt }
fits half w (negsuc n) is some low high = let lt : n < half = omega (arith, ints, low, high, some) in record { sfits = subst (λ (k : ℕ). n < k) is lt }

module _ (w : Width) (wide : IsWide w) (half : ℕ) (is : half ≡ 2 ^ hbits w) (twice : 2 ^ bits w ≡ half + half) (some : 0 < half) where
  signed_back : (bytes : List ℕ) → length bytes ≡ byte_len w → IsBytes bytes → to_be_bytes w (cast_unsigned w (cast_signed w (from_be_bytes w bytes))) ≡ bytes
  signed_back bytes len h = ap (to_be_bytes w) (of_z-to_z w (from_be_bytes w bytes) (wide.below bytes h)) ∙ wide.back bytes len h

  signed_again : (z : ℤ) → neg_ℤ (pos half) ≤ℤ z → z ≤ℤ pos (half + half - 1 - half) → cast_signed w (from_be_bytes w (to_be_bytes w (cast_unsigned w z))) ≡ z
  signed_again z low high =
      let f : FitsSigned w z = fits half w z is some low high in
      ap (cast_signed w) (wide.again (cast_unsigned w z) (of_z_fits w z f).fits) ∙ to_z-of_z w z f

  signed_within : (n : ℕ) → n < 2 ^ bits w → (neg_ℤ (pos half) ≤ℤ cast_signed w n) × (cast_signed w n ≤ℤ pos (half + half - 1 - half))
  signed_within n lt = by (ltb n (2 ^ hbits w)) refl
    where
      by : (t : Bool) → ltb n (2 ^ hbits w) ≡ t → (neg_ℤ (pos half) ≤ℤ cast_signed w n) × (cast_signed w n ≤ℤ pos (half + half - 1 - half))
      by true e = let low : n < 2 ^ hbits w = ltb-true _ _ e in rw e (omega (arith, ints, low, is), omega (arith, ints, low, is))
      by false e = let high : 2 ^ hbits w ≤ n = ltb-false _ _ e in rw e (omega (arith, ints, high, is, twice, lt), omega (arith, ints, high, is, twice, lt))

module _ (w : Width) (wide : IsWide w) where
  wide_some : 0 < 2 ^ bits w
  wide_some = let lt : from_be_bytes w [] < 2 ^ bits w = wide.below [] (λ i. omega arith) in omega (arith, lt)

  unsigned_again : (z : ℤ) → neg_ℤ (pos 0) ≤ℤ z → z ≤ℤ pos (2 ^ bits w - 1 - 0) → pos (from_be_bytes w (to_be_bytes w (cast_unsigned w z))) ≡ z
  unsigned_again (pos n) low high = let lt : n < 2 ^ bits w = omega (arith, ints, high, wide_some) in ap pos (wide.again n lt)
  unsigned_again (negsuc n) low high = absurd (omega (arith, ints, low))

  unsigned_within : (n : ℕ) → n < 2 ^ bits w → (neg_ℤ (pos 0) ≤ℤ pos n) × (pos n ≤ℤ pos (2 ^ bits w - 1 - 0))
  unsigned_within n lt = (omega (arith, ints), omega (arith, ints, lt))

-- a signed type
signed_spells : (ty : Ty) (w : Width) (half : ℕ) → width_of ty ≡ w → IsWide w → half ≡ 2 ^ hbits w → 2 ^ bits w ≡ half + half → 0 < half → 0 < byte_len w → depth ty ≡ half → 2 ^ width ty ≡ half + half
    → ((bytes : List ℕ) → number_in ty bytes ≡ cast_signed w (from_be_bytes w bytes)) → Spells ty
signed_spells ty w half is_w wide is twice some long deep broad reads = record {
  some = rw is_w long;
  len = λ z. ap (λ (v : Width). length (to_be_bytes v (cast_unsigned v z))) is_w ∙ wide.len (cast_unsigned w z) ∙ ap byte_len (sym is_w);
  back = λ bytes len h. ap (bytes_of ty) (reads bytes) ∙ ap (λ (v : Width). to_be_bytes v (cast_unsigned v (cast_signed w (from_be_bytes w bytes)))) is_w ∙ signed_back w wide half is twice some bytes (len ∙ ap byte_len is_w) h;
  again = λ z r. reads (bytes_of ty z) ∙ ap (λ (v : Width). cast_signed w (from_be_bytes w (to_be_bytes v (cast_unsigned v z)))) is_w ∙ signed_again w wide half is twice some z (low_of z r) (high_of z r);
  within = λ bytes h. let r = signed_within w wide half is twice some (from_be_bytes w bytes) (wide.below bytes h) in rw (reads bytes) (record { low = rw deep r.0; high = rw (deep, broad) r.1 });
}
  where
    low_of : (z : ℤ) → IsInRange ty z → neg_ℤ (pos half) ≤ℤ z
    low_of z r = subst (λ (k : ℕ). neg_ℤ (pos k) ≤ℤ z) deep r.low

    high_of : (z : ℤ) → IsInRange ty z → z ≤ℤ pos (half + half - 1 - half)
    high_of z r = subst (λ (k : ℕ). z ≤ℤ pos (half + half - 1 - k)) deep (subst (λ (k : ℕ). z ≤ℤ pos (k - 1 - depth ty)) broad r.high)

-- an unsigned type
unsigned_spells : (ty : Ty) (w : Width) → width_of ty ≡ w → IsWide w → 0 < byte_len w → depth ty ≡ 0 → 2 ^ width ty ≡ 2 ^ bits w → ((bytes : List ℕ) → number_in ty bytes ≡ pos (from_be_bytes w bytes)) → Spells ty
unsigned_spells ty w is_w wide long deep broad reads = record {
  some = rw is_w long;
  len = λ z. ap (λ (v : Width). length (to_be_bytes v (cast_unsigned v z))) is_w ∙ wide.len (cast_unsigned w z) ∙ ap byte_len (sym is_w);
  back = λ bytes len h. ap (bytes_of ty) (reads bytes) ∙ ap (λ (v : Width). to_be_bytes v (from_be_bytes w bytes)) is_w ∙ wide.back bytes (len ∙ ap byte_len is_w) h;
  again = λ z r. reads (bytes_of ty z) ∙ ap (λ (v : Width). pos (from_be_bytes w (to_be_bytes v (cast_unsigned v z)))) is_w ∙ unsigned_again w wide z (low_of z r) (high_of z r);
  within = λ bytes h. let r = unsigned_within w wide (from_be_bytes w bytes) (wide.below bytes h) in rw (reads bytes) (record { low = rw deep r.0; high = rw (deep, broad) r.1 });
}
  where
    low_of : (z : ℤ) → IsInRange ty z → neg_ℤ (pos 0) ≤ℤ z
    low_of z r = subst (λ (k : ℕ). neg_ℤ (pos k) ≤ℤ z) deep r.low

    high_of : (z : ℤ) → IsInRange ty z → z ≤ℤ pos (2 ^ bits w - 1 - 0)
    high_of z r = subst (λ (k : ℕ). z ≤ℤ pos (2 ^ bits w - 1 - k)) deep (subst (λ (k : ℕ). z ≤ℤ pos (k - 1 - depth ty)) broad r.high)

pub spells : (ty : Ty) → Spells ty
spells I8 = signed_spells I8 w8 (2 ^ 7) refl wide8 refl (omega arith) (omega arith) (omega arith) refl (omega arith) (λ bytes. refl)
spells I16 = signed_spells I16 w16 (2 ^ 15) refl wide16 refl (omega arith) (omega arith) (omega arith) refl (omega arith) (λ bytes. refl)
spells I32 = signed_spells I32 w32 (2 ^ 31) refl wide32 refl (omega arith) (omega arith) (omega arith) refl (omega arith) (λ bytes. refl)
spells I64 = signed_spells I64 w64 (2 ^ 63) refl wide64 refl (omega arith) (omega arith) (omega arith) refl (omega arith) (λ bytes. refl)
spells U8 = unsigned_spells U8 w8 refl wide8 (omega arith) refl refl (λ bytes. refl)
spells U16 = unsigned_spells U16 w16 refl wide16 (omega arith) refl refl (λ bytes. refl)
spells U32 = unsigned_spells U32 w32 refl wide32 (omega arith) refl refl (λ bytes. refl)
spells U64 = unsigned_spells U64 w64 refl wide64 (omega arith) refl refl (λ bytes. refl)
spells TwoInt = signed_spells TwoInt w32 (2 ^ 31) refl wide32 refl (omega arith) (omega arith) (omega arith) refl (omega arith) (λ bytes. refl)

-- LISTS OF THEM

module _ (ty : Ty) where
  abbrev each : ℕ
  each = number_len ty

  pub length-numbers : (n : ℕ) (bytes : List ℕ) → length (numbers_from n ty bytes) ≡ n
  length-numbers zero bytes = refl
  length-numbers (suc n) bytes = ap suc (length-numbers n (drop each bytes))

  -- bytes of whole numbers are what spells these
  pub spelled_back : (n : ℕ) (bytes : List ℕ) → length bytes ≡ n * number_len ty → IsBytes bytes → flat_map (bytes_of ty) (numbers_from n ty bytes) ≡ bytes
  spelled_back zero [] len h = refl
  spelled_back zero (b ∷ bytes) len h = absurd (omega (arith, len))
  spelled_back (suc n) bytes len h =
      let front : length (take each bytes) ≡ each = omega (arith, len, length-take each bytes) in
      let first = (spells ty).back (take each bytes) front (IsBytes-take each bytes h) in
      let rest = spelled_back n (drop each bytes) (omega (arith, len, length-drop each bytes)) (IsBytes-drop each bytes h) in
      (λ i. first i ++ rest i) ∙ take-append-drop each bytes

  -- what is spelled is read back
  pub read_back : (nums : List ℤ) → All (IsInRange ty) nums → numbers_from (length nums) ty (flat_map (bytes_of ty) nums) ≡ nums
  read_back [] h = refl
  read_back (z ∷ nums) h =
      let len = (spells ty).len z in
      let rest = flat_map (bytes_of ty) nums in
      let first : number_in ty (take each (bytes_of ty z ++ rest)) ≡ z = ap (number_in ty) (take_at (bytes_of ty z) rest each len) ∙ (spells ty).again z (h 0 z (omega arith)) in
      let later : numbers_from (length nums) ty (drop each (bytes_of ty z ++ rest)) ≡ nums = ap (numbers_from (length nums) ty) (drop_at (bytes_of ty z) rest each len) ∙ read_back nums (λ k d lt. h (suc k) d (omega (arith, lt))) in
      (λ i. first i ∷ later i)

  pub length-spelled : (nums : List ℤ) → length (flat_map (bytes_of ty) nums) ≡ length nums * number_len ty
  length-spelled [] = omega arith
  length-spelled (z ∷ nums) = length-append (bytes_of ty z) (flat_map (bytes_of ty) nums) ∙ omega (arith, (spells ty).len z, length-spelled nums)

  -- all numbers that bytes spell are in range
  pub all_within : (n : ℕ) (bytes : List ℕ) → IsBytes bytes → All (IsInRange ty) (numbers_from n ty bytes)
  all_within zero bytes h k d lt = absurd (omega (arith, lt))
  all_within (suc n) bytes h zero d lt = (spells ty).within (take each bytes) (IsBytes-take each bytes h)
  all_within (suc n) bytes h (suc k) d lt = all_within n (drop each bytes) (IsBytes-drop each bytes h) k d (omega (arith, lt))

  -- the number at a place
  pub number_there : (n : ℕ) (bytes : List ℕ) (place : ℕ) (d : ℤ) → place < n → get_or (numbers_from n ty bytes) place d ≡ number_in ty (take (number_len ty) (drop (place * number_len ty) bytes))
  number_there zero bytes place d lt = absurd (omega (arith, lt))
  number_there (suc n) bytes zero d lt = let none : zero * number_len ty ≡ 0 = omega arith in ap (λ (k : ℕ). number_in ty (take each (drop k bytes))) (sym none)
  number_there (suc n) bytes (suc place) d lt =
      let far : each + place * each ≡ suc place * each = omega arith in
      number_there n (drop each bytes) place d (omega (arith, lt)) ∙ ap (λ (l : List ℕ). number_in ty (take each l)) (drop-drop (place * each) each bytes ∙ ap (λ (k : ℕ). drop k bytes) far)

-- WHOLE ITEMS

-- so many items' bytes
pub whole_count : (ty : Ty) (bytes : List ℕ) → are_whole ty bytes ≡ true → (n : ℕ) × (length bytes ≡ n * item_len ty * number_len ty)
whole_count ty bytes e =
    let len = item_len ty * number_len ty in
    let is : length bytes / len * len ≡ length bytes = eqb-true _ _ e in
    let n = length bytes / len in
    (n, sym is ∙ sym (times n (item_len ty) (number_len ty)))
  where
    times : (a b c : ℕ) → a * b * c ≡ a * (b * c)
    times a b c = mul_assoc a b c

pub whole_from_count : (ty : Ty) (bytes : List ℕ) (n : ℕ) → length bytes ≡ n * item_len ty * number_len ty → are_whole ty bytes ≡ true
whole_from_count ty bytes n is =
    let len = item_len ty * number_len ty in
    let some : 0 < len = mul-pos (item_len-positive ty) (spells ty).some in
    let all : length bytes ≡ n * len = is ∙ mul_assoc n (item_len ty) (number_len ty) in
    let count : length bytes / len ≡ n = ap (λ (k : ℕ). k / len) all ∙ mul-div_cancel n some in
    eq-eqb _ _ (rw (count, all) refl)

-- what whole items' bytes spell
pub record AreSpelled (ty : Ty) (bytes : List ℕ) (nums : List ℤ) : Type 0 where
  pub len : length bytes ≡ length nums * number_len ty
  pub items : AreItems ty nums
  pub spelling : flat_map (bytes_of ty) nums ≡ bytes

pub are_spelled : (ty : Ty) (bytes : List ℕ) → are_whole ty bytes ≡ true → IsBytes bytes → AreSpelled ty bytes (numbers_in ty bytes)
unfolding numbers_in
are_spelled ty bytes whole h =
    let n = whole_count ty bytes whole in
    let k = n.0 * item_len ty in
    let count : length bytes / number_len ty ≡ k = ap (λ (l : ℕ). l / number_len ty) n.1 ∙ mul-div_cancel k (spells ty).some in
    subst (λ (m : ℕ). AreSpelled ty bytes (numbers_from m ty bytes)) (sym count) (record {
      len = n.1 ∙ ap (λ (l : ℕ). l * number_len ty) (sym (length-numbers ty k bytes));
      items = record { whole = whole_from_multiple ty (numbers_from k ty bytes) n.0 (length-numbers ty k bytes); in_range = all_within ty k bytes h };
      spelling = spelled_back ty k bytes n.1 h;
    })

-- the bytes of items are whole, and they spell these items
pub spelled_items_back : (ty : Ty) (nums : List ℤ) → AreItems ty nums → (are_whole ty (flat_map (bytes_of ty) nums) ≡ true) × (numbers_in ty (flat_map (bytes_of ty) nums) ≡ nums)
unfolding numbers_in
spelled_items_back ty nums are =
    let items : length nums / item_len ty * item_len ty ≡ length nums = multiple_from_whole ty nums are.whole in
    let len = length-spelled ty nums in
    let count : length (flat_map (bytes_of ty) nums) / number_len ty ≡ length nums = ap (λ (l : ℕ). l / number_len ty) len ∙ mul-div_cancel (length nums) (spells ty).some in
    (whole_from_count ty (flat_map (bytes_of ty) nums) (length nums / item_len ty) (len ∙ ap (λ (l : ℕ). l * number_len ty) (sym items)), rw count (read_back ty nums are.in_range))

pub no_numbers : (ty : Ty) → numbers_in ty [] ≡ []
unfolding numbers_in
no_numbers ty = let none : 0 / number_len ty ≡ 0 = omega arith in rw none refl

pub nothing_kept : (ty : Ty) (place : List ℕ) → AreKept (Few ty 0 place)
nothing_kept ty place = record {
  items = subst (AreItems ty) (sym (no_numbers ty)) (record { whole = whole_from_multiple ty [] 0 (omega arith); in_range = All-nil (IsInRange ty) });
  spelling = ap (flat_map (bytes_of ty)) (no_numbers ty);
  few = omega arith;
}

-- there are no more numbers than bytes
pub most_numbers : (ty : Ty) (nums : List ℤ) (bytes : List ℕ) → length bytes ≡ length nums * number_len ty → length nums ≤ length bytes
most_numbers ty nums bytes len =
    let le : length nums * 1 ≤ length nums * number_len ty = mul-le (length nums) 1 (length nums) (number_len ty) (omega arith) (omega (arith, (spells ty).some)) in
    omega (arith, le, len)

-- the number at a place of whole items
pub number_of_items : (ty : Ty) (bytes : List ℕ) (place : ℕ) (d : ℤ) → place < length (numbers_in ty bytes) → get_or (numbers_in ty bytes) place d ≡ number_in ty (take (number_len ty) (drop (place * number_len ty) bytes))
unfolding numbers_in
number_of_items ty bytes place d lt = let n = length bytes / number_len ty in number_there ty n bytes place d (omega (arith, lt, length-numbers ty n bytes))

-- one number more is written
module _ (s : ℤ → List ℕ) (nums : List ℤ) (i : ℕ) (z : ℤ) where
  spelled_more : i < length nums → z ≡ get_or nums i z → flat_map s (take (i + 1) nums) ≡ flat_map s (take i nums) ++ s z
  spelled_more lt is =
      ap (flat_map s) (take_more nums i z lt ∙ ap (λ y. take i nums ++ y ∷ []) (sym is)) ∙ flat_map-append s (take i nums) (z ∷ []) ∙ ap (λ l. flat_map s (take i nums) ++ l) (append-nil (s z))

  pub written_at : (d : ℤ) (old out new : List ℕ) → i < length nums → z ≡ get_or nums i d → out ≡ old ++ flat_map s (take i nums) → new ≡ out ++ s z → new ≡ old ++ flat_map s (take (i + 1) nums)
  written_at d old out new lt is so_far e =
      e ∙ ap (λ l. l ++ s z) so_far ∙ append_assoc old (flat_map s (take i nums)) (s z) ∙ ap (λ l. old ++ l) (sym (spelled_more lt (is ∙ get_or_default nums i d z lt)))

-- what is made of bytes is spelled by them
pub if_ok_spelled : {E : Type 0} (made : Result ItemList E) (ty : Ty) (given bytes : List ℕ) → IfOk made (λ spelled. spelled ≡ record { ty = ty; nums = numbers_in ty given }) → given ≡ bytes → flat_map (bytes_of ty) (numbers_in ty bytes) ≡ bytes
    → IfOk made (λ spelled. flat_map (bytes_of ty) spelled.nums ≡ bytes)
if_ok_spelled (Ok spelled) ty given bytes is same spelling = ap (λ (items : ItemList). flat_map (bytes_of ty) items.nums) is ∙ ap (λ (l : List ℕ). flat_map (bytes_of ty) (numbers_in ty l)) same ∙ spelling
if_ok_spelled (Err e) ty given bytes is same spelling = tt

pub if_ok_len : {E : Type 0} (made : Result ItemList E) (ty : Ty) (given bytes : List ℕ) → IfOk made (λ spelled. spelled ≡ record { ty = ty; nums = numbers_in ty given }) → given ≡ bytes → length bytes ≡ length (numbers_in ty bytes) * number_len ty
    → IfOk made (λ spelled. length spelled.nums * number_len ty ≡ length bytes)
if_ok_len (Ok spelled) ty given bytes is same len = ap (λ (items : ItemList). length items.nums * number_len ty) is ∙ ap (λ (l : List ℕ). length (numbers_in ty l) * number_len ty) same ∙ sym len
if_ok_len (Err e) ty given bytes is same len = tt

-- what is made of the bytes of items is these items
pub if_ok_read : {E : Type 0} (made : Result ItemList E) (items : ItemList) (ty : Ty) (bytes : List ℕ) → IfOk made (λ spelled. spelled ≡ record { ty = ty; nums = numbers_in ty bytes }) → ty ≡ items.ty → numbers_in ty bytes ≡ items.nums
    → IfOk made (λ spelled. spelled ≡ items)
if_ok_read (Ok spelled) items ty bytes is ty_is nums_are = is ∙ (λ i. record { ty = ty_is i; nums = nums_are i })
if_ok_read (Err e) items ty bytes is ty_is nums_are = tt
