-- How far one pass over the posts comes is how far they go without a gap.
use Rattle.std.proofs.Common.{arith, ◌≡◌, ℕ, ◌≤◌, ◌+◌, ◌&&◌, true, false, T, cond, List, [], ◌∷◌, refl, sym, ap, ◌∙◌, subst, nat_le, nat_eq}
use Rattle.std.proofs.lemmas.Bool.Decides.{nat_tests}
use Rattle.std.specs.Ordering.{nat_cmp}
use Rattle.std.specs.declared.cmp.Ordering.TheVariants.{Less}
use Rattle.std.specs.FinMap.{is_sorted}
use Rattle.std.specs.FinMap.Entries.{below_all}
use Rattle.join_core.specs.laws.Cases.{yes, no, answer, both, first, second}
use Rattle.join_nest.specs.Cut.{is_from}
use Rattle.join_nest.specs.laws.Entries.{less}
use Rattle.mpx_board.specs.Parts.{CallView}
use Rattle.mpx_digest.specs.Reach.{is_told_of, next_number, reach}
use Rattle.mpx_digest.proofs.Steps.{true_of}

module _ (p : ℕ) where
  -- the number that one pass over the calls leaves
  abbrev pub passed : (n : ℕ) → List (ℕ × CallView) → ℕ
  passed n [] = n
  passed n (e ∷ es) = passed (next_number e.0 (is_told_of p e.1) n) es

  not_that : (k n : ℕ) → nat_le (n + 1) k ≡ true → nat_eq k n ≡ false
  not_that k n t = grind (arith, nat_tests)

  -- no call past the gap moves it
  stays : (n : ℕ) (es : List (ℕ × CallView)) → T (is_from (n + 1) es) → passed n es ≡ n
  stays n [] h = refl
  stays n (e ∷ es) h = ap (λ b. passed (cond (b && is_told_of p e.1) (n + 1) n) es) (not_that e.0 n (true_of _ (first _ _ h))) ∙ stays n es (second _ _ h)

  -- calls above one that isn't before n are past n
  past_all : (n k : ℕ) (es : List (ℕ × CallView)) → n ≤ k → T (below_all nat_cmp k es) → T (is_from (n + 1) es)
  past_all n k [] le h = tt
  past_all n k (e ∷ es) le h = both _ _ (subst T (sym (past n k e.0 le (less _ (first _ _ h)))) tt) (past_all n k es le (second _ _ h)) where
    past : (n k q : ℕ) → n ≤ k → nat_cmp k q ≡ Less → nat_le (n + 1) q ≡ true
    past n k q le lt = grind (arith, nat_tests, lt)

  pub passed_is_reach : (n : ℕ) (es : List (ℕ × CallView)) → T (is_sorted nat_cmp es) → T (is_from n es) → passed n es ≡ reach p n es
  passed_is_reach n [] sorted from = refl
  passed_is_reach n (e ∷ es) sorted from =
      let later : T (is_from (n + 1) es) = past_all n e.0 es (not_before e.0 n (first _ _ from)) (first _ _ sorted) in
      elim (answer (nat_eq e.0 n && is_told_of p e.1)) [
        | yes t ↦ rw t (passed_is_reach (n + 1) es (second _ _ sorted) later)
        | no f ↦ rw f (stays n es later)
      ]
    where
      not_before : (k n : ℕ) → T (nat_le n k) → n ≤ k
      not_before k n t = elim (answer (nat_le n k)) [
        | yes u ↦ grind (arith, nat_tests)
        | no u ↦ absurd (subst T u t)
      ]
