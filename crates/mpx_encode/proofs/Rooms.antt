-- Room for spellings, one after the other.
use Rattle.std.proofs.Common.{◌≡◌, ℕ, ◌+◌, ◌-◌, ◌≤◌, ◌<◌, Bool, true, false, cond, leb, List, ◌++◌, length, Some, None, refl, sym, ap, ◌∙◌, arith, length-append}
use Rattle.std.proofs.lemmas.Bool.{leb-true, leb-false, le-leb, lt-leb}
use Rattle.mpx_encode.specs.Room.{room_left}

-- where they fit
pub room_fits : (n room : ℕ) → n ≤ room → room_left n room ≡ Some (room - n)
unfolding room_left
room_fits n room le = rw (le-leb n room le) refl

-- where they don't
pub room_short : (n room : ℕ) → room < n → room_left n room ≡ None
unfolding room_left
room_short n room lt = rw (lt-leb n room lt) refl

some_is : (b : Bool) (x y : ℕ) → cond b (Some x) None ≡ Some y → (b ≡ true) × (x ≡ y)
some_is true x y e = (refl, cc)
some_is false x y e = absurd cc

none_is : (b : Bool) (x : ℕ) → cond b (Some x) None ≡ None → b ≡ false
none_is true x e = absurd cc
none_is false x e = refl

-- what is left says that they fit
pub room_some : (n room left : ℕ) → room_left n room ≡ Some left → (n ≤ room) × (left ≡ room - n)
unfolding room_left
room_some n room left e = let h = some_is (leb n room) (room - n) left e in (leb-true n room h.0, sym h.1)

pub room_none : (n room : ℕ) → room_left n room ≡ None → room < n
unfolding room_left
room_none n room e = let h : leb n room ≡ false = none_is (leb n room) (room - n) e in omega (arith, leb-false n room h)

-- no bytes leave all of it
pub room_nothing : (room : ℕ) → room_left 0 room ≡ Some room
room_nothing room = room_fits 0 room (omega arith) ∙ ap Some (omega arith)

-- where the first don't fit, the whole doesn't
pub room_stops : (m n room : ℕ) → room_left m room ≡ None → room_left (m + n) room ≡ None
room_stops m n room e = let lt = room_none m room e in room_short (m + n) room (omega arith)

-- behind the first, the second have what is left
pub room_goes_on : (m n room left : ℕ) → room_left m room ≡ Some left → room_left (m + n) room ≡ room_left n left
room_goes_on m n room left e =
    let h = room_some m room left e in
    elim (leb n left) as (λ b. leb n left ≡ b → room_left (m + n) room ≡ room_left n left) [
      | true ↦ λ t. let le = leb-true n left t in room_fits (m + n) room (omega (arith, h.0, h.1)) ∙ ap Some (omega (arith, h.0, h.1)) ∙ sym (room_fits n left le)
      | false ↦ λ t. let lt = leb-false n left t in room_short (m + n) room (omega (arith, h.0, h.1, lt)) ∙ sym (room_short n left (omega (arith, lt)))
    ] refl

-- the same of lists of bytes
pub room_stops_at : (xs ys : List ℕ) (room : ℕ) → room_left (length xs) room ≡ None → room_left (length (xs ++ ys)) room ≡ None
room_stops_at xs ys room e = ap (λ n. room_left n room) (length-append xs ys) ∙ room_stops (length xs) (length ys) room e

pub room_behind : (xs ys : List ℕ) (room left : ℕ) → room_left (length xs) room ≡ Some left → room_left (length (xs ++ ys)) room ≡ room_left (length ys) left
room_behind xs ys room left e = ap (λ n. room_left n room) (length-append xs ys) ∙ room_goes_on (length xs) (length ys) room left e

pub ruleset rooms = (room_stops, room_goes_on, room_stops_at, room_behind)
