-- Numbers that rise below a bound are few.
use Rattle.std.proofs.Common.{◌≡◌, ◌≤◌, ◌<◌, ◌+◌, ℕ, suc, true, List, [], ◌∷◌, length, sym, arith}
use Rattle.std.specs.Prelude.{All}
use Rattle.std.proofs.lemmas.List.Elements.{All-nil, All-cons, All-head, All-tail}
use Rattle.std.specs.declared.cmp.Ordering.TheVariants.{Less}
use Rattle.std.specs.Ordering.{nat_cmp, is_lt}
use Rattle.std.specs.FinMap.{is_sorted}
use Rattle.std.specs.FinMap.Entries.{below_all}
use Rattle.join_core.specs.laws.Cases.{first_true, second_true}
use Rattle.std.proofs.lemmas.Cmp.{ranked}
use Rattle.mpx_format.proofs.Rows.{is_less}

module _ {X : Type 0} where
  above : (k : ℕ) (es : List (ℕ × X)) → below_all nat_cmp k es ≡ true → All (λ e. suc k ≤ e.0) es
  above k [] h = All-nil (λ e. suc k ≤ e.0)
  above k (e ∷ es) h = All-cons (λ e. suc k ≤ e.0) e es (ranked k e.0 Less (sym (is_less (nat_cmp k e.0) (first_true (is_lt (nat_cmp k e.0)) (below_all nat_cmp k es) h)))) (above k es (second_true (is_lt (nat_cmp k e.0)) (below_all nat_cmp k es) h))

  few_from : (a b : ℕ) (es : List (ℕ × X)) → a ≤ b → is_sorted nat_cmp es ≡ true → All (λ e. a ≤ e.0) es → All (λ e. e.0 < b) es → length es + a ≤ b
  few_from a b [] le sorted low high = omega (arith, le)
  few_from a b (e ∷ es) le sorted low high =
      let here : e.0 < b = All-head (λ e. e.0 < b) e es high in
      let from : a ≤ e.0 = All-head (λ e. a ≤ e.0) e es low in
      let rest : length es + suc e.0 ≤ b = few_from (suc e.0) b es here (second_true (below_all nat_cmp e.0 es) (is_sorted nat_cmp es) sorted) (above e.0 es (first_true (below_all nat_cmp e.0 es) (is_sorted nat_cmp es) sorted)) (All-tail (λ e. e.0 < b) e es high) in
      omega (arith, from, rest)

  pub few_below : (b : ℕ) (es : List (ℕ × X)) → is_sorted nat_cmp es ≡ true → All (λ e. e.0 < b) es → length es ≤ b
  few_below b es sorted high = omega (arith, few_from 0 b es (omega arith) sorted (λ k d lt. omega arith) high)
