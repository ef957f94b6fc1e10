-- Tests of all numbers below one.
use Rattle.std.proofs.Common.{◌≡◌, ℕ, zero, suc, ◌<◌, ◌||◌, Bool, true, false, [], ◌∷◌, inl, inr, refl, sym, ap, ◌∙◌, arith}
use Rattle.std.specs.List.{list_any}
use Rattle.std.proofs.lemmas.Bool.{cases_eq}
use Rattle.std.proofs.lemmas.List.Folds.{list_any-append}
use Rattle.mpx_birth.specs.Births.{upto}

-- one number more
one_more : (test : ℕ → Bool) (n : ℕ) → list_any test (upto (suc n)) ≡ (list_any test (upto n) || (test n || false))
one_more test n = list_any-append test (upto n) (n ∷ [])

or_right : (b c : Bool) → c ≡ true → (b || c) ≡ true
or_right true c t = refl
or_right false c t = t

-- one of them passes
pub some_below : (test : ℕ → Bool) (n k : ℕ) → k < n → test k ≡ true → list_any test (upto n) ≡ true
some_below test zero k l t = absurd (omega (arith, l))
some_below test (suc n) k l t = elim (cases_eq k n) [
  | inl here ↦ one_more test n ∙ or_right (list_any test (upto n)) (test n || false) (ap (λ (m : ℕ). test m || false) (sym here) ∙ ap (λ b. b || false) t)
  | inr before ↦ one_more test n ∙ ap (λ b. b || (test n || false)) (some_below test n k (omega (arith, l, before)) t)
]

-- none of them does
pub none_below : (test : ℕ → Bool) (n : ℕ) → ((k : ℕ) → k < n → test k ≡ false) → list_any test (upto n) ≡ false
none_below test zero none = refl
none_below test (suc n) none = one_more test n ∙ (λ i. none_below test n (λ k l. none k (omega (arith, l))) i || (none n (omega arith) i || false))
