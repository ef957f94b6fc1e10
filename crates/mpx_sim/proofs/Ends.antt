-- Of whom nobody waits.
use Rattle.std.proofs.Common.{◌≡◌, ◌<◌, ℕ, zero, suc, Bool, false, cond, [], ◌∷◌, ◌++◌, refl, arith}
use Rattle.mpx_meaning.specs.Reports.{which}

-- nobody of whom the test isn't true
pub which_none : (test : ℕ → Bool) (n : ℕ) → ((p : ℕ) → p < n → test p ≡ false) → which test n ≡ []
which_none test zero none = refl
which_none test (suc n) none = λ i. which_none test n (λ p l. none p (omega (arith, l))) i ++ cond (none n (omega arith) i) (n ∷ []) []
