-- The results that a process stores of a context's calls, of which it may let the first go.
use Rattle.std.specs.Prelude.{ℕ, zero, suc, List, [], ◌∷◌, map, slice_get, Option, Some, None}
use Rattle.std.specs.Option.{option_flatten}

-- the one at a place: none where nothing is there, or where it was let go
abbrev pub stored_at : {A : Type 0} → List (Option A) → (call : ℕ) → Option A
stored_at stored call = option_flatten (slice_get stored call)

-- those at the places below this one are let go, but never the last. There are as many places as before
abbrev pub let_go : {A : Type 0} → (below : ℕ) → List (Option A) → List (Option A)
let_go zero stored = stored
let_go (suc n) [] = []
let_go (suc n) (o ∷ []) = o ∷ []
let_go (suc n) (o ∷ p ∷ stored) = None ∷ let_go n (p ∷ stored)

-- how many of the first are let go
abbrev pub count_gone : {A : Type 0} → List (Option A) → ℕ
count_gone [] = 0
count_gone (None ∷ stored) = suc (count_gone stored)
count_gone (Some x ∷ stored) = 0

-- so many that were let go, and then these
abbrev pub after_gone : {A : Type 0} → (gone : ℕ) → List A → List (Option A)
after_gone zero xs = map Some xs
after_gone (suc n) xs = None ∷ after_gone n xs
