-- Whatever moves reach is on the way to the evaluation's end.
use Rattle.std.proofs.Common.{◌≡◌, ℕ, ◌==◌, List, [], ◌∷◌, Option, Some, None, refl, sym, ap, subst}
use Rattle.std.proofs.lemmas.Bool.{cond_both}
use Rattle.std.proofs.lemmas.Bool.Decides.{Decides-eqb}
use Rattle.mpx_num.specs.declared.own.Operation.{Operation}
use Rattle.mpx_statement.specs.declared.statement.Statement.{Statement}
use Rattle.mpx_value.specs.Histories.{Results, Within}
use Rattle.mpx_meaning.specs.Ranks.{Local, next, next_by, step_by, step}
use Rattle.mpx_meaning.specs.Evaluation.{State, start_state, history, known, or_stay, rank_goes_on, move, moves, IsMaximal, IsPrefixOf, IsReached, IsEvaluation}
use Rattle.mpx_value.proofs.Growth.{results-grow}
use Rattle.mpx_meaning.proofs.Fronts.{prefix_itself, prefix_trans, history-grows}
use Rattle.mpx_meaning.proofs.Ways.{Way, here, on, step-grows, step_by-adds, way-adds, way-step, way-stuck}

-- by the job's own operations
module _ (ops : List Operation) where
  -- each rank of s has a way to where it stands in end, by what end knows
  pub record IsOnWay (ranks : ℕ) (end s : State) : Type 0 where
    pub each : (p : ℕ) → Way ops (known ops ranks end p) (s p) (end p)

  -- whose posts are beginnings of the others' has no other results
  knows_less : (ranks : ℕ) (s end : State) → ((p : ℕ) → IsPrefixOf (s p).made (end p).made) → (me : ℕ) → Within (known ops ranks s me) (known ops ranks end me)
  knows_less ranks s end less me = results-grow (history ops s) (history ops end) ranks (history-grows ops s end less) me

  on_way-knows : (ranks : ℕ) (end s : State) → IsOnWay ranks end s → (me : ℕ) → Within (known ops ranks s me) (known ops ranks end me)
  on_way-knows ranks end s w = knows_less ranks s end (λ p. (way-adds ops (known ops ranks end p) (s p) (end p) (w.each p)).0)

  -- by whether a rank has a step
  or_stay_cases : (P : Local → Type 0) (s : Local) (o : Option Local) → (o ≡ None → P s) → ((t : Local) → o ≡ Some t → P t) → P (or_stay s o)
  or_stay_cases P s None f g = f refl
  or_stay_cases P s (Some t) f g = g t refl

  -- and by which rank goes on
  pub goes_on_cases : (P : ℕ → Local → Type 0) (s : State) (p : ℕ) (told : Results) → ((q : ℕ) → P q (s q)) → ((t : Local) → step ops told (s p) ≡ Some t → P p t) → (q : ℕ) → P q (rank_goes_on ops s p told q)
  goes_on_cases P s p told stays steps q = cond_both (q == p) (or_stay (s q) (step ops told (s q))) (s q) (P q)
      (λ e. let same : q ≡ p = (Decides-eqb q p).0 e in
      subst (λ j. P j (or_stay (s j) (step ops told (s j)))) (sym same) (or_stay_cases (P p) (s p) (step ops told (s p)) (λ _. stays p) steps))
      (λ _. stays q)

  -- a move keeps each rank on its way
  on_way-next : (ranks : ℕ) (end s : State) → IsMaximal ops ranks end → IsOnWay ranks end s → (p : ℕ) → IsOnWay ranks end (move ops ranks s p)
  on_way-next ranks end s stuck w p = record {
    each = goes_on_cases (λ q t. Way ops (known ops ranks end q) t (end q)) s p (known ops ranks s p) w.each
        (λ t e. way-step ops (known ops ranks end p) (s p) t (end p) (w.each p) (stuck p)
        (step-grows ops (known ops ranks s p) (known ops ranks end p) (on_way-knows ranks end s w p) (s p) t e));
  }

  on_way-moved : (ranks : ℕ) (end : State) → IsMaximal ops ranks end → (order : List ℕ) (s : State) → IsOnWay ranks end s → IsOnWay ranks end (moves ops ranks order s)
  on_way-moved ranks end stuck [] s w = w
  on_way-moved ranks end stuck (p ∷ order) s w = on_way-moved ranks end stuck order (move ops ranks s p) (on_way-next ranks end s stuck w p)

  goes_on-adds : (s : State) (p : ℕ) (told : Results) (q : ℕ) → IsPrefixOf (s q).made (rank_goes_on ops s p told q).made
  goes_on-adds s p told = goes_on_cases (λ q t. IsPrefixOf (s q).made t.made) s p told (λ q. prefix_itself (s q).made) (λ t e. (step_by-adds told (s p) (next ops (s p)) t e).0)

  -- one move before the way
  back : (ranks : ℕ) (end s : State) (p : ℕ) → IsOnWay ranks end (move ops ranks s p) → (q : ℕ) → Way ops (known ops ranks end q) (s q) (end q)
  back ranks end s p w q =
      let less : (j : ℕ) → IsPrefixOf (s j).made (end j).made = λ j. prefix_trans (s j).made (move ops ranks s p j).made (end j).made (goes_on-adds s p (known ops ranks s p) j) (way-adds ops (known ops ranks end j) (move ops ranks s p j) (end j) (w.each j)).0 in
      goes_on_cases (λ j t. Way ops (known ops ranks end j) t (end j) → Way ops (known ops ranks end j) (s j) (end j)) s p (known ops ranks s p)
      (λ j v. v)
      (λ t e v. on (step-grows ops (known ops ranks s p) (known ops ranks end p) (knows_less ranks s end less p) (s p) t e) v)
      q (w.each q)

  -- where moves lead is where each rank was on its way to
  on_way-moves : (ranks : ℕ) (order : List ℕ) (s : State) → IsOnWay ranks (moves ops ranks order s) s
  on_way-moves ranks [] s = record { each = λ p. here }
  on_way-moves ranks (p ∷ order) s = record { each = back ranks (moves ops ranks order (move ops ranks s p)) s p (on_way-moves ranks order (move ops ranks s p)) }

  on_way-start : (script : List (List Statement)) (ranks : ℕ) (end : State) → IsReached ops script ranks end → IsOnWay ranks end (start_state script ranks)
  on_way-start script ranks end e = subst (λ u. IsOnWay ranks u (start_state script ranks)) e.reached (on_way-moves ranks e.order (start_state script ranks))

  pub on_way-reached : (script : List (List Statement)) (ranks : ℕ) (end s : State) → IsEvaluation ops script ranks end → IsReached ops script ranks s → IsOnWay ranks end s
  on_way-reached script ranks end s e r = subst (IsOnWay ranks end) r.reached (on_way-moved ranks end e.maximal r.order (start_state script ranks) (on_way-start script ranks end e.reached))

  -- an end that is on its way to another is that
  one_end : (ranks : ℕ) (a b : State) → IsMaximal ops ranks a → IsOnWay ranks b a → IsOnWay ranks a b → (p : ℕ) → a p ≡ b p
  one_end ranks a b stuck to_b to_a p = way-stuck ops (known ops ranks b p) (a p) (b p) (to_b.each p) (no_step (step ops (known ops ranks b p) (a p)) refl) where
    no_step : (o : Option Local) → step ops (known ops ranks b p) (a p) ≡ o → step ops (known ops ranks b p) (a p) ≡ None
    no_step None e = e
    no_step (Some t) e = let f : step ops (known ops ranks a p) (a p) ≡ Some t = step-grows ops (known ops ranks b p) (known ops ranks a p) (on_way-knows ranks a b to_a p) (a p) t e in cc (f, stuck p)

  pub confluent : (script : List (List Statement)) (ranks : ℕ) (a b : State) → IsEvaluation ops script ranks a → IsEvaluation ops script ranks b → a ≡ b
  confluent script ranks a b ea eb =
      λ i p. one_end ranks a b ea.maximal (on_way-reached script ranks b a eb ea.reached) (on_way-reached script ranks a b ea eb.reached) p i

  -- a rank that has nothing left is where it ends
  pub finished : (r : Results) (s u : Local) → Way ops r s u → s.todo ≡ [] → s ≡ u
  finished r s u w e = way-stuck ops r s u w (ap (λ todo. step_by r s (next_by ops s todo)) e)
