-- The ranks that a triplet stands for, one step at a time.
use Rattle.std.proofs.Common.{◌≡◌, ℕ, suc, zero, ◌+◌, ◌/◌, ◌<◌, Bool, true, false, List, [], ◌∷◌, map, ℤ, pos, negsuc, neg_ℤ, ◌+ℤ◌, ◌-ℤ◌, ◌*ℤ◌, ◌<ℤ◌, ◌≤ℤ◌, refl, ap, ◌∙◌, arith, add-one, Some, None, if◌then◌else◌}
use Rattle.std.specs.Prelude.{unsigned_abs}
use Rattle.std.specs.List.{range_with_len}
use Rattle.std.specs.Ordering.{int_eq}
use Rattle.std.proofs.Math.Nat.{add-div_right}
use Rattle.std.proofs.lemmas.Bool.{or_parts, true≢false}
use Rattle.std.proofs.lemmas.Int.{ints, by_lt_z}
use Rattle.std.proofs.lemmas.Nat.{div_below}
use Rattle.mpx_group.specs.declared.triplets.Triplet.{Triplet}
use Rattle.mpx_group.specs.Triplet.{is_past, is_bad, strides_in, triplet_ranks}

-- r, r + s, .., n of them
abbrev pub strides : ℤ → ℤ → ℕ → List ℤ
strides r s zero = []
strides r s (suc n) = r ∷ strides (r +ℤ s) s n

next_multiple : (r s : ℤ) (k : ℕ) → r +ℤ (pos (k + 1) *ℤ s) ≡ (r +ℤ (pos k *ℤ s)) +ℤ s
next_multiple r (pos m) k = omega (arith, ints)
next_multiple r (negsuc m) k = omega (arith, ints)

zero_multiple : (r s : ℤ) → r +ℤ (pos 0 *ℤ s) ≡ r
zero_multiple r (pos m) = omega (arith, ints)
zero_multiple r (negsuc m) = omega (arith, ints)

map-range : (r s : ℤ) (k n : ℕ) → map (λ i. r +ℤ (pos i *ℤ s)) (range_with_len k n) ≡ strides (r +ℤ (pos k *ℤ s)) s n
map-range r s k zero = refl
map-range r s k (suc n) =
    ap (λ zs. (r +ℤ (pos k *ℤ s)) ∷ zs) (map-range r s (k + 1) n ∙ ap (λ z. strides z s n) (next_multiple r s k))

-- the ranks from r on
abbrev pub rest : Triplet → ℤ → List ℤ
rest t r = strides r t.stride (unsigned_abs (t.last -ℤ r) / unsigned_abs t.stride + 1)

pub triplet_ranks-rest : (t : Triplet) → triplet_ranks t ≡ rest t t.first
triplet_ranks-rest t =
    map-range t.first t.stride 0 (strides_in t + 1) ∙ ap (λ z. strides z t.stride (strides_in t + 1)) (zero_multiple t.first t.stride)

up_within : (t : Triplet) (r : ℤ) → is_past t r ≡ false → pos 0 <ℤ t.stride → r ≤ℤ t.last
up_within t r p up = grind (arith, ints)

down_within : (t : Triplet) (r : ℤ) → is_past t r ≡ false → t.stride <ℤ pos 0 → t.last ≤ℤ r
down_within t r p down = grind (arith, ints)

up_past : (t : Triplet) (r : ℤ) → is_past t r ≡ true → pos 0 <ℤ t.stride → t.last <ℤ r
up_past t r p up = grind (arith, ints)

down_past : (t : Triplet) (r : ℤ) → is_past t r ≡ true → t.stride <ℤ pos 0 → r <ℤ t.last
down_past t r p down = grind (arith, ints)

nonzero : (z : ℤ) → int_eq z (pos 0) ≡ false → 0 < unsigned_abs z
nonzero (pos zero) e = absurd (true≢false e)
nonzero (pos (suc n)) e = omega arith
nonzero (negsuc n) e = omega arith

pub has_stride : (t : Triplet) → is_bad t ≡ false → 0 < unsigned_abs t.stride
has_stride t good = nonzero t.stride (or_parts _ _ good).0

pub starts_within : (t : Triplet) → is_bad t ≡ false → is_past t t.first ≡ false
starts_within t good = (or_parts _ _ good).1

abs_natural : (z : ℤ) → pos 0 ≤ℤ z → pos (unsigned_abs z) ≡ z
abs_natural (pos n) h = refl
abs_natural (negsuc n) h = absurd (omega (arith, ints))

abs_negative : (z : ℤ) → z ≤ℤ pos 0 → pos (unsigned_abs z) ≡ neg_ℤ z
abs_negative (pos n) h = omega (arith, ints)
abs_negative (negsuc n) h = refl

pub distance_on : (t : Triplet) (r : ℤ) → 0 < unsigned_abs t.stride → is_past t r ≡ false → is_past t (r +ℤ t.stride) ≡ false → unsigned_abs (t.last -ℤ r) ≡ unsigned_abs (t.last -ℤ (r +ℤ t.stride)) + unsigned_abs t.stride
distance_on t r s p q =
    by_lt_z (pos 0) t.stride
    (λ up.
    let here = up_within t r p up in
    let there = up_within t (r +ℤ t.stride) q up in
    omega (arith, ints, abs_natural t.stride (omega (arith, ints)), abs_natural (t.last -ℤ r) (omega (arith, ints)), abs_natural (t.last -ℤ (r +ℤ t.stride)) (omega (arith, ints))))
    (λ le.
    by_lt_z t.stride (pos 0)
    (λ down.
    let here = down_within t r p down in
    let there = down_within t (r +ℤ t.stride) q down in
    omega (arith, ints, abs_negative t.stride (omega (arith, ints)), abs_negative (t.last -ℤ r) (omega (arith, ints)), abs_negative (t.last -ℤ (r +ℤ t.stride)) (omega (arith, ints))))
    (λ ge. absurd (omega (arith, ints, abs_natural t.stride ge))))

distance_last : (t : Triplet) (r : ℤ) → 0 < unsigned_abs t.stride → is_past t r ≡ false → is_past t (r +ℤ t.stride) ≡ true → unsigned_abs (t.last -ℤ r) < unsigned_abs t.stride
distance_last t r s p q =
    by_lt_z (pos 0) t.stride
    (λ up.
    let here = up_within t r p up in
    let there = up_past t (r +ℤ t.stride) q up in
    omega (arith, ints, abs_natural t.stride (omega (arith, ints)), abs_natural (t.last -ℤ r) (omega (arith, ints))))
    (λ le.
    by_lt_z t.stride (pos 0)
    (λ down.
    let here = down_within t r p down in
    let there = down_past t (r +ℤ t.stride) q down in
    omega (arith, ints, abs_negative t.stride (omega (arith, ints)), abs_negative (t.last -ℤ r) (omega (arith, ints))))
    (λ ge. absurd (omega (arith, ints, abs_natural t.stride ge))))

pub rest_head : (t : Triplet) (r : ℤ) → rest t r ≡ r ∷ strides (r +ℤ t.stride) t.stride (unsigned_abs (t.last -ℤ r) / unsigned_abs t.stride)
rest_head t r = ap (strides r t.stride) (add-one _)

pub rest_more : (t : Triplet) (r : ℤ) → 0 < unsigned_abs t.stride → is_past t r ≡ false → is_past t (r +ℤ t.stride) ≡ false → rest t r ≡ r ∷ rest t (r +ℤ t.stride)
rest_more t r s p q =
    let next = distance_on t r s p q in
    rest_head t r ∙ ap (λ d. r ∷ strides (r +ℤ t.stride) t.stride (d / unsigned_abs t.stride)) next
    ∙ ap (λ n. r ∷ strides (r +ℤ t.stride) t.stride n) (add-div_right _ s)

pub rest_end : (t : Triplet) (r : ℤ) → 0 < unsigned_abs t.stride → is_past t r ≡ false → is_past t (r +ℤ t.stride) ≡ true → rest t r ≡ r ∷ []
rest_end t r s p q =
    let near = distance_last t r s p q in
    let none : unsigned_abs (t.last -ℤ r) / unsigned_abs t.stride ≡ 0 = omega (arith, div_below (unsigned_abs (t.last -ℤ r)) (unsigned_abs t.stride) 1 s (omega arith)) in
    rest_head t r ∙ ap (λ n. r ∷ strides (r +ℤ t.stride) t.stride n) none

pub up_not_past : (t : Triplet) (r : ℤ) → pos 0 <ℤ t.stride → r ≤ℤ t.last → is_past t r ≡ false
up_not_past t r up l = grind (arith, ints)

pub ended_there : (b : Bool) (n : ℤ) → None ≡ (if b then None else Some n) → b ≡ true
ended_there true n e = refl
ended_there false n e = cc

pub went_on : (b : Bool) (m n : ℤ) → Some m ≡ (if b then None else Some n) → (b ≡ false) × (m ≡ n)
went_on true m n e = cc
went_on false m n e = (refl, cc)
