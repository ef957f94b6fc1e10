-- Which boards are too long, by the room that their frames leave.
use Rattle.std.proofs.Common.{◌≡◌, ℕ, suc, ◌+◌, ◌-◌, ◌≤◌, Bool, true, false, cond, not, ◌&&◌, ◌||◌, ltb, leb, List, [], ◌∷◌, length, Option, Some, None, refl, sym, ap, ◌∙◌, arith}
use Rattle.std.specs.Prelude.{nat_lt, nat_le, IfSome}
use Rattle.std.specs.List.{list_all, list_any}
use Rattle.std.specs.FinMap.{entries, len}
use Rattle.std.proofs.lemmas.Bool.{lt-ltb, le-ltb, leb-true, leb-false}
use Rattle.mpx_board.specs.Parts.{PartsView}
use Rattle.mpx_board.specs.Tidy.{all_entries}
use Rattle.mpx_format.specs.declared.versions.Version.TheVariants.{Two}
use Rattle.mpx_format.specs.Contexts.{frame}
use Rattle.mpx_format.specs.Decoding.{most_bytes}
use Rattle.mpx_format.specs.Encoding.{has_many_names, most_names, is_too_long, length_told}
use Rattle.mpx_encode.specs.Room.{room_left}
use Rattle.mpx_encode.proofs.Rooms.{room_some}

abbrev pub told_room : PartsView → Option ℕ
told_room v = cond (is_too_long v) None (Some (most_bytes - length (frame.spelling (Two, v))))

-- over as not at most
turned : (n most : ℕ) → nat_lt most n ≡ not (nat_le n most)
turned n most = elim (leb n most) as (λ b. leb n most ≡ b → ltb most n ≡ not b) [
  | true ↦ λ e. le-ltb most n (leb-true n most e)
  | false ↦ λ e. lt-ltb most n (omega (arith, leb-false n most e))
] refl

either_turned : (a b : Bool) → (not a || not b) ≡ not (a && b)
either_turned true b = refl
either_turned false b = refl

any_turned : {X : Type 0} (f : X → ℕ) (most : ℕ) (xs : List X) → list_any (λ x. nat_lt most (f x)) xs ≡ not (list_all (λ x. nat_le (f x) most) xs)
any_turned f most [] = refl
any_turned f most (x ∷ xs) =
    ap (λ b. b || list_any (λ y. nat_lt most (f y)) xs) (turned (f x) most) ∙ ap (λ b. not (nat_le (f x) most) || b) (any_turned f most xs) ∙ either_turned (nat_le (f x) most) (list_all (λ y. nat_le (f y) most) xs)

pub many_by_acks : (v : PartsView) → len v.0 ≤ most_names → has_many_names v ≡ not (all_entries (λ p a. nat_le (len a) most_names) v.1)
many_by_acks v le =
    ap (λ b. b || list_any (λ e. nat_lt most_names (len e.1)) (entries v.1)) (le-ltb most_names (len v.0) le) ∙ any_turned (λ e. len e.1) most_names (entries v.1)

pub long_by_names : (v : PartsView) → has_many_names v ≡ true → is_too_long v ≡ true
unfolding is_too_long
long_by_names v h = ap (λ b. b || nat_lt most_bytes (length (frame.spelling (Two, v)))) h

by_length : (v : PartsView) → has_many_names v ≡ false → is_too_long v ≡ nat_lt most_bytes (length (frame.spelling (Two, v)))
unfolding is_too_long
by_length v h = ap (λ b. b || nat_lt most_bytes (length (frame.spelling (Two, v)))) h

-- what is left of the bytes of a frame, where no list has too many names
pub room_told : (v : PartsView) → has_many_names v ≡ false → room_left (length (frame.spelling (Two, v))) most_bytes ≡ told_room v
unfolding room_left
room_told v h =
    let n = length (frame.spelling (Two, v)) in
    elim (leb n most_bytes) as (λ b. leb n most_bytes ≡ b → cond b (Some (most_bytes - n)) None ≡ told_room v) [
      | true ↦ λ e. sym (ap (λ b. cond b None (Some (most_bytes - n))) (by_length v h ∙ le-ltb most_bytes n (leb-true n most_bytes e)))
      | false ↦ λ e. sym (ap (λ b. cond b None (Some (most_bytes - n))) (by_length v h ∙ lt-ltb most_bytes n (omega (arith, leb-false n most_bytes e))))
    ] refl

long : (b : Bool) (n : ℕ) → None ≡ cond b None (Some n) → b ≡ true
long true n e = refl
long false n e = absurd cc

short : (b : Bool) (n left : ℕ) → Some left ≡ cond b None (Some n) → (b ≡ false) × (left ≡ n)
short true n left e = absurd cc
short false n left e = (refl, cc)

pub none_told : (v : PartsView) → None ≡ told_room v → is_too_long v ≡ true
none_told v e = long (is_too_long v) (most_bytes - length (frame.spelling (Two, v))) e

pub some_told : (v : PartsView) (left : ℕ) → Some left ≡ told_room v → (is_too_long v ≡ false) × (left ≡ most_bytes - length (frame.spelling (Two, v)))
some_told v left e = short (is_too_long v) (most_bytes - length (frame.spelling (Two, v))) left e

pub few_left : (n most : ℕ) (o : Option ℕ) → o ≡ room_left n most → IfSome o (λ left. n + left ≡ most)
few_left n most None e = tt
few_left n most (Some left) e = let h = room_some n most left (sym e) in omega (arith, h.0, h.1)

pub length_short : (v : PartsView) → is_too_long v ≡ false → length_told v ≡ length (frame.spelling (Two, v))
length_short v h = ap (λ b. cond b (suc most_bytes) (length (frame.spelling (Two, v)))) h
