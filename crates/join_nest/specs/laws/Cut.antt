-- Proofs that the calls below a front are cut off.
use Rattle.std.specs.Prelude.{◌≡◌, ℕ, false, nat_le, List, [], ◌∷◌, Some, None}
use Rattle.std.proofs.Common.{sym, ap, ◌∙◌, subst, cond, T}
use Rattle.std.specs.Ordering.{nat_cmp, eq_by_cmp}
use Rattle.std.specs.Cmp.{nat_cmp_total}
use Rattle.std.specs.FinMap.{FinMap, find, is_sorted, entries, entries_sorted, get, get-entries, get-from_sorted, nat_cmp-IsAntisymmetric}
use Rattle.std.specs.FinMap.Entries.{is_sorted-where_key, find-where_key}
use Rattle.join_core.specs.laws.Cases.{second, both, is_tied, yes, no, answer}
use Rattle.join_nest.specs.Cut.{is_from, cut}
use Rattle.join_nest.specs.laws.Entries.{find_first}

module _ {V : Type 0} where
  pub from_finds : (d : ℕ) (es : List (ℕ × V)) → T (is_sorted nat_cmp es) → ((q : ℕ) → nat_le d q ≡ false → find nat_cmp q es ≡ None) → T (is_from d es)
  from_finds d [] h f = tt
  from_finds d (e ∷ es) h f = elim (answer (nat_le d e.0)) [
    | yes t ↦ both _ _ (subst T (sym t) tt) (from_finds d es (second _ _ h) (λ q n. elim (answer (eq_by_cmp nat_cmp q e.0)) [
      | yes u ↦ absurd (subst T (sym (ap (nat_le d) (nat_cmp-IsAntisymmetric q e.0 (is_tied _ u)) ∙ t) ∙ n) tt)
      | no u ↦ rw u at (f q n)
    ]))
    | no n ↦ let none : Some e.1 ≡ None = sym (find_first nat_cmp_total e es) ∙ f e.0 n in cc
  ]

  pub get_cut : (d : ℕ) (m : FinMap nat_cmp V) (q : ℕ) → get (cut d m) q ≡ cond (nat_le d q) (get m q) None
  get_cut d m q =
      get-from_sorted nat_cmp _ q (is_sorted-where_key nat_cmp (nat_le d) (entries m) (entries_sorted m))
      ∙ find-where_key nat_cmp (nat_le d) q (λ x e. ap (nat_le d) (sym (nat_cmp-IsAntisymmetric q x e))) (entries m)
      ∙ ap (λ o. cond (nat_le d q) o None) (sym (get-entries m q))

  pub above_cut : (d : ℕ) (m : FinMap nat_cmp V) → T (is_from d (entries (cut d m)))
  above_cut d m = from_finds d (entries (cut d m)) (entries_sorted (cut d m)) (λ q n. sym (get-entries (cut d m) q) ∙ get_cut d m q ∙ ap (λ b. cond b (get m q) None) n)
