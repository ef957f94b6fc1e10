-- The numbers below one.
use Rattle.std.proofs.Common.{◌≡◌, ℕ, zero, suc, ◌+◌, add-one, ◌<◌, ◌≤◌, ◌==◌, Bool, true, false, [], ◌∷◌, inl, inr, refl, sym, ap, ◌∙◌, arith}
use Rattle.std.specs.Prelude.{◌&&◌}
use Rattle.std.specs.List.{list_all}
use Rattle.std.proofs.lemmas.Bool.{and_from, and_left, and_parts, and_right, cases_eq, ne_eqb, or_from}
use Rattle.std.proofs.lemmas.List.Folds.{list_all-append, list_any-append}
use Rattle.mpx_group.specs.Group.{has, has_twice}
use Rattle.mpx_group.proofs.Members.{has_twice-push}
use Rattle.mpx_birth.specs.Orders.{upto}

-- one number more
one_more : (test : ℕ → Bool) (n : ℕ) → list_all test (upto (suc n)) ≡ (list_all test (upto n) && (test n && true))
one_more test n = list_all-append test (upto n) (n ∷ [])

-- all pass
pub all_below : (test : ℕ → Bool) (n : ℕ) → ((k : ℕ) → k < n → test k ≡ true) → list_all test (upto n) ≡ true
all_below test zero all = refl
all_below test (suc n) all =
    one_more test n ∙ and_from _ _ (all_below test n (λ k l. all k (omega (arith, l)))) (and_from _ _ (all n (omega arith)) refl)

pub each_below : (test : ℕ → Bool) (n : ℕ) → list_all test (upto n) ≡ true → (k : ℕ) → k < n → test k ≡ true
each_below test zero t k l = absurd (omega (arith, l))
each_below test (suc n) t k l =
    let parts = and_parts (list_all test (upto n)) (test n && true) (sym (one_more test n) ∙ t) in
    elim (cases_eq k n) [
      | inl here ↦ ap test here ∙ (and_parts (test n) true parts.1).0
      | inr before ↦ each_below test n parts.0 k (omega (arith, l, before))
    ]

-- one doesn't
pub fails_below : (test : ℕ → Bool) (n k : ℕ) → k < n → test k ≡ false → list_all test (upto n) ≡ false
fails_below test zero k l f = absurd (omega (arith, l))
fails_below test (suc n) k l f = elim (cases_eq k n) [
  | inl here ↦ one_more test n ∙ and_right _ _ (and_left _ _ (ap test (sym here) ∙ f))
  | inr before ↦ one_more test n ∙ and_left _ _ (fails_below test n k (omega (arith, l, before)) f)
]

-- those so far pass, and the next one
pub one_further : (test : ℕ → Bool) (n : ℕ) → list_all test (upto n) ≡ true → test n ≡ true → list_all test (upto (n + 1)) ≡ true
one_further test n t u = ap (λ (m : ℕ). list_all test (upto m)) (add-one n) ∙ one_more test n ∙ and_from _ _ t (and_from _ _ u refl)

-- none of them is as large as the end, and none stands twice

none_there : (n k : ℕ) → n ≤ k → has (upto n) k ≡ false
none_there zero k l = refl
none_there (suc n) k l =
    list_any-append (λ m. m == k) (upto n) (n ∷ [])
    ∙ or_from _ _ (none_there n k (omega (arith, l))) (or_from _ _ (ne_eqb n k (λ e. omega (arith, l, e))) refl)

pub upto-distinct : (n : ℕ) → has_twice (upto n) ≡ false
upto-distinct zero = refl
upto-distinct (suc n) = has_twice-push (upto n) n ∙ or_from _ _ (upto-distinct n) (none_there n n (omega arith))
