-- What all entries of a list say.
use Rattle.std.proofs.Common.{◌≡◌, ℕ, zero, suc, ◌<◌, List, [], ◌∷◌, ◌++◌, length, get_or, Option, Some, None, refl, ap, arith}
use Rattle.std.specs.Option.{option_and_then}
use Rattle.std.proofs.lemmas.Option.{option_and_then_some, same_Some}
use Rattle.mpx_post.specs.Rows.{all_of}

-- one more that says something
pub all_of_push : {A B : Type 0} (f : B → Option A) (ps : List B) (xs : List A) (p : B) (x : A) → all_of f ps ≡ Some xs → f p ≡ Some x → all_of f (ps ++ p ∷ []) ≡ Some (xs ++ x ∷ [])
all_of_push f [] xs p x e g = rw g (ap (λ ys. Some (ys ++ x ∷ [])) (same_Some [] xs e))
all_of_push f (q ∷ ps) xs p x e g =
    option_and_then_some _ (f q) xs e (λ y ey r.
    option_and_then_some _ (all_of f ps) xs r (λ ys es s.
    rw (ey, all_of_push f ps ys p x es g) (ap (λ zs. Some (zs ++ x ∷ [])) (same_Some (y ∷ ys) xs s))))

-- where one has no answer, there is none for all
pub all_of_none : {A B : Type 0} (f : B → Option A) (ps : List B) (k : ℕ) (d : B) → k < length ps → f (get_or ps k d) ≡ None → all_of f ps ≡ None
all_of_none f [] k d h e = absurd (omega arith)
all_of_none f (p ∷ ps) zero d h e = rw e
all_of_none f (p ∷ ps) (suc k) d h e = elim (f p) as (λ o. option_and_then (λ x. option_and_then (λ xs. Some (x ∷ xs)) (all_of f ps)) o ≡ None) [
  | None ↦ refl
  | Some x ↦ rw (all_of_none f ps k d (omega arith) e)
]
