-- Moves end, and an evaluation is there.
use Rattle.std.proofs.Common.{◌≡◌, ℕ, zero, suc, ◌<◌, ◌≤◌, cond, List, [], ◌∷◌, length, Option, Some, None, refl, sym, ap, ◌∙◌, subst, arith, inl, inr}
use Rattle.std.proofs.Math.Nat.{eq-or-lt_of_le}
use Rattle.std.proofs.lemmas.Option.{slice_get_past}
use Rattle.std.proofs.lemmas.Bool.Decides.{Decides-eqb}
use Rattle.std.specs.Prelude.{unwrap_or, ◌⊎◌}
use Rattle.mpx_num.specs.declared.own.Operation.{Operation}
use Rattle.mpx_statement.specs.declared.statement.Statement.{Statement}
use Rattle.mpx_value.specs.Histories.{Results}
use Rattle.mpx_meaning.specs.Ranks.{Local, doing, next_by, step_by, step, weights}
use Rattle.mpx_meaning.specs.Evaluation.{State, start_state, known, or_stay, rank_goes_on, move, moves, IsMaximal, IsEvaluation, left, IsQuiet}
use Rattle.mpx_meaning.proofs.Steps.{step-lowers}
use Rattle.mpx_meaning.proofs.Ahead.{goes_on_cases}
use Rattle.std.proofs.lemmas.Bool.{cases_lt}

left-le : (n : ℕ) (s t : State) → ((q : ℕ) → weights (t q).todo ≤ weights (s q).todo) → left n t ≤ left n s
left-le zero s t h = omega arith
left-le (suc n) s t h = omega (arith, left-le n s t h, h n)

left-lt : (n : ℕ) (s t : State) (p : ℕ) → ((q : ℕ) → weights (t q).todo ≤ weights (s q).todo) → p < n → weights (t p).todo < weights (s p).todo → left n t < left n s
left-lt zero s t p h l d = absurd (omega arith)
left-lt (suc n) s t p h l d =
    let below : p ≤ n = omega arith in
    elim (eq-or-lt_of_le below) [
      | inl e ↦ omega (arith, left-le n s t h, subst (λ j. weights (t j).todo < weights (s j).todo) e d)
      | inr less ↦ omega (arith, left-lt n s t p h less d, h n)
    ]

-- one of the first n ranks can move
record Mover (ops : List Operation) (ranks : ℕ) (s : State) (n : ℕ) : Type 0 where
  p : ℕ
  within : p < n
  to : Local
  moves_to : step ops (known ops ranks s p) (s p) ≡ Some to

-- one of them can, or none can
mover : (ops : List Operation) (ranks : ℕ) (s : State) (n : ℕ) → Mover ops ranks s n ⊎ ((p : ℕ) → p < n → step ops (known ops ranks s p) (s p) ≡ None)
mover ops ranks s zero = inr (λ p l. absurd (omega arith))
mover ops ranks s (suc n) = elim (mover ops ranks s n) [
  | inl m ↦ inl (record { p = m.p; within = omega (arith, m.within); to = m.to; moves_to = m.moves_to })
  | inr none ↦ by_last none (step ops (known ops ranks s n) (s n)) refl
] where
  by_last : ((p : ℕ) → p < n → step ops (known ops ranks s p) (s p) ≡ None) → (o : Option Local) → step ops (known ops ranks s n) (s n) ≡ o → Mover ops ranks s (suc n) ⊎ ((p : ℕ) → p < suc n → step ops (known ops ranks s p) (s p) ≡ None)
  by_last none (Some t) e = inl (record { p = n; within = omega arith; to = t; moves_to = e })
  by_last none None e = inr (λ p l.
      let below : p ≤ n = omega arith in
      elim (eq-or-lt_of_le below) [ inl same ↦ subst (λ j. step ops (known ops ranks s j) (s j) ≡ None) (sym same) e | inr less ↦ none p less ])

pub goes_on-at : (ops : List Operation) (s : State) (p : ℕ) (told : Results) (t : Local) → step ops told (s p) ≡ Some t → rank_goes_on ops s p told p ≡ t
goes_on-at ops s p told t e = ap (λ b. cond b (or_stay (s p) (step ops told (s p))) (s p)) ((Decides-eqb p p).1 refl) ∙ ap (or_stay (s p)) e

module _ (ops : List Operation) (n : ℕ) (s : State) (p : ℕ) (within : p < n) (t : Local) (e : step ops (known ops n s p) (s p) ≡ Some t) where
  pub move-left : left n (move ops n s p) < left n s
  move-left =
      let less : weights (move ops n s p p).todo < weights (s p).todo = subst (λ (u : Local). weights u.todo < weights (s p).todo) (sym (goes_on-at ops s p (known ops n s p) t e)) (step-lowers ops (known ops n s p) (s p) t e) in
      let le : (j : ℕ) → weights (move ops n s p j).todo ≤ weights (s j).todo = goes_on_cases ops (λ j u. weights u.todo ≤ weights (s j).todo) s p (known ops n s p) (λ j. omega arith) (λ u f. omega (arith, step-lowers ops (known ops n s p) (s p) u f)) in
      left-lt n s (move ops n s p) p le within less

  pub move-quiet : IsQuiet n s → IsQuiet n (move ops n s p)
  move-quiet q = record { from = goes_on_cases ops (λ j u. n ≤ j → u.todo ≡ []) s p (known ops n s p) q.from (λ u f g. absurd (omega (arith, g, within))) }

quiet_still : (ops : List Operation) (ranks n : ℕ) (s : State) → IsQuiet n s → ((p : ℕ) → p < n → step ops (known ops ranks s p) (s p) ≡ None) → IsMaximal ops ranks s
quiet_still ops ranks n s q none p = elim (cases_lt p n) [ inl l ↦ none p l | inr g ↦ ap (λ todo. step_by (known ops ranks s p) (s p) (next_by ops (s p) todo)) (q.from p g) ]

-- moves that none extends. Only the number that bounds birth_of's world is ranks
pub order_of : (ops : List Operation) (n fuel : ℕ) (s : State) → IsQuiet n s → left n s < fuel → (order : List ℕ) × IsMaximal ops n (moves ops n order s)
order_of ops n zero s q l = absurd (omega arith)
order_of ops n (suc fuel) s q l = elim (mover ops n s n) [
  | inr none ↦ ([], quiet_still ops n n s q none)
  | inl m ↦
      let fewer : left n (move ops n s m.p) < left n s = move-left ops n s m.p m.within m.to m.moves_to in
      let rest = order_of ops n fuel (move ops n s m.p) (move-quiet ops n s m.p m.within m.to m.moves_to q) (omega (arith, fewer, l)) in
      (m.p ∷ rest.0, rest.1)
]

pub start_quiet : (script : List (List Statement)) (ranks : ℕ) → length script ≤ ranks → IsQuiet ranks (start_state script ranks)
start_quiet script ranks h = record { from = λ p g. ap (λ o. doing (unwrap_or o [])) (slice_get_past script p (omega (arith, h, g))) }

-- every script has an evaluation
pub eval_of : (ops : List Operation) (script : List (List Statement)) (ranks : ℕ) → length script ≤ ranks → (end : State) × IsEvaluation ops script ranks end
eval_of ops script ranks h =
    let found = order_of ops ranks (suc (left ranks (start_state script ranks))) (start_state script ranks) (start_quiet script ranks h) (omega arith) in
    (moves ops ranks found.0 (start_state script ranks), record { reached = record { order = found.0; reached = refl }; maximal = found.1 })
