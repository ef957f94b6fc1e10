-- There is a place for each result, let go or not.
use Rattle.std.specs.Prelude.{◌≡◌, ℕ, zero, suc, ◌+◌, List, [], ◌∷◌, length, map, Some}
use Rattle.std.proofs.Common.{refl, ap, arith}
use Rattle.mpx_node.specs.Stored.{after_gone}

length_kept : {A : Type 0} (xs : List A) → length (map (λ (x : A). Some x) xs) ≡ length xs
length_kept [] = refl
length_kept (x ∷ xs) = ap suc (length_kept xs)

pub length_after : {A : Type 0} (gone : ℕ) (xs : List A) → length (after_gone gone xs) ≡ gone + length xs
length_after zero xs = let l = length_kept xs in omega (arith, l)
length_after (suc n) xs = let l = length_after n xs in omega (arith, l)
