-- What the plan of a run has to do with the evaluation of its script.
use Rattle.std.proofs.Common.{◌≡◌, ℕ, zero, suc, ◌<◌, ◌≤◌, ◌⊎◌, List, [], ◌∷◌, ◌++◌, length, map, take, get_or, true, refl, sym, ap, ◌∙◌, subst, inl, inr, arith, length-append}
use Rattle.std.specs.Prelude.{unwrap_or}
use Rattle.std.proofs.Math.Nat.{eq-or-lt_of_le}
use Rattle.std.proofs.lemmas.Option.{slice_get_past}
use Rattle.mpx_num.specs.declared.own.Operation.{Operation}
use Rattle.mpx_name.specs.Name.{Name}
use Rattle.mpx_value.specs.Histories.{Made, Results, birth_of, history_of, results_of}
use Rattle.mpx_bus.specs.declared.act.Setup.{Setup}
use Rattle.mpx_bus.specs.Rule.{made_of, planned_posts}
use Rattle.mpx_shared.specs.LawfulPorts.{plan_history}
use Rattle.mpx_statement.specs.declared.statement.Statement.{Statement}
use Rattle.mpx_statement.specs.declared.statement.Statement.TheVariants.{Post}
use Rattle.mpx_script.specs.ScriptView.{ScriptView}
use Rattle.mpx_meaning.specs.declared.line.Line.{Line}
use Rattle.mpx_meaning.specs.Ranks.{Bindings, Local, Requests}
use Rattle.mpx_meaning.specs.Evaluation.{State, bound_at_start, history, known, statements_of}
use Rattle.mpx_meaning.specs.Told.{CarriesOut, Passes, accepted, asked, none, refused, started, waited}
use Rattle.mpx_meaning.proofs.Ends.{eval_of}
use Rattle.mpx_meaning.proofs.Tells.{each-carries_out}
use Rattle.mpx_threads.specs.Plans.{Plans, as_planned, plan_upto, planned_results, setup_by}
use Rattle.mpx_threads.specs.ToldCalls.{planned_birth}

-- LISTS

get_or-first : {A : Type 0} (xs ys : List A) (p : ℕ) (d : A) → p < length xs → get_or (xs ++ ys) p d ≡ get_or xs p d
get_or-first [] ys p d l = absurd (omega (arith, l))
get_or-first (x ∷ xs) ys zero d l = refl
get_or-first (x ∷ xs) ys (suc p) d l = get_or-first xs ys p d (omega (arith, l))

get_or-last : {A : Type 0} (xs : List A) (y d : A) → get_or (xs ++ y ∷ []) (length xs) d ≡ y
get_or-last [] y d = refl
get_or-last (x ∷ xs) y d = get_or-last xs y d

get_or-past : {A : Type 0} (xs : List A) (p : ℕ) (d : A) → length xs ≤ p → get_or xs p d ≡ d
get_or-past [] p d l = refl
get_or-past (x ∷ xs) zero d l = absurd (omega (arith, l))
get_or-past (x ∷ xs) (suc p) d l = get_or-past xs p d (omega (arith, l))

pub lt_or_ge : (a b : ℕ) → (a < b) ⊎ (b ≤ a)
lt_or_ge a zero = inr (omega arith)
lt_or_ge a (suc b) = elim (lt_or_ge a b) [ inl l ↦ inl (omega arith) | inr g ↦ elim (eq-or-lt_of_le g) [ inl e ↦ inl (omega arith) | inr l ↦ inr (omega arith) ] ]

as_before : (ms : List Made) → map made_of (map as_planned ms) ≡ ms
as_before [] = refl
as_before (m ∷ ms) = ap (λ l. m ∷ l) (as_before ms)

pub statements_at : (script : List (List Statement)) (p : ℕ) → get_or script p [] ≡ statements_of script p
statements_at [] p = refl
statements_at (x ∷ xs) zero = refl
statements_at (x ∷ xs) (suc p) = statements_at xs p

-- THE PLAN

plan_length : (end : State) (n : ℕ) → length (plan_upto end n) ≡ n
plan_length end zero = refl
plan_length end (suc n) = length-append (plan_upto end n) (map as_planned (end n).made ∷ []) ∙ omega (arith, plan_length end n)

plan_at : (end : State) (n p : ℕ) → p < n → get_or (plan_upto end n) p [] ≡ map as_planned (end p).made
plan_at end zero p l = absurd (omega (arith, l))
plan_at end (suc n) p l =
    let below : p ≤ n = omega (arith, l) in
    elim (eq-or-lt_of_le below) [
      | inl e ↦
          let here : p ≡ length (plan_upto end n) = e ∙ sym (plan_length end n) in
          ap (λ k. get_or (plan_upto end n ++ map as_planned (end n).made ∷ []) k []) here ∙ get_or-last (plan_upto end n) (map as_planned (end n).made) [] ∙ ap (λ k. map as_planned (end k).made) (sym e)
      | inr less ↦ get_or-first (plan_upto end n) (map as_planned (end n).made ∷ []) p [] (omega (arith, less, plan_length end n)) ∙ plan_at end n p less
    ]

-- a rank with no statements posts nothing
none_passed : {ops : List Operation} {r : Results} {me : ℕ} {before after : Bindings} {requests left : Requests} {earlier ms : List Made} {xs : List Statement} {lines : List Line} → Passes ops r me before requests earlier xs after left ms lines → xs ≡ [] → ms ≡ []
none_passed none e = refl
none_passed (accepted b a k p) e = cc e
none_passed (started b a p) e = cc e
none_passed (refused a p) e = cc e
none_passed (waited k p) e = cc e
none_passed (asked p) e = cc e

no_first : {A : Type 0} (xs ys : List A) → xs ++ ys ≡ [] → xs ≡ []
no_first [] ys e = refl
no_first (x ∷ xs) ys e = cc e

no_middle : {A : Type 0} (xs : List A) (y : A) (ys : List A) → xs ++ y ∷ ys ≡ [] → ⊥
no_middle [] y ys e = cc e
no_middle (x ∷ xs) y ys e = cc e

posts_none : (ops : List Operation) (r : Results) (first : Bindings) (s : Local) → CarriesOut ops r first [] s → s.made ≡ []
posts_none ops r first s (inl h) = none_passed h.passes (no_first h.passed h.left h.all)
posts_none ops r first s (inr h) = absurd (no_middle h.passed (Post h.posting) h.left h.all)

module _ (script : ScriptView) (relays : ℕ) (setup : Setup) (plan : Plans script relays setup) where
  pub made_none : (p : ℕ) → statements_of script.statements p ≡ [] → (plan.end p).made ≡ []
  made_none p no_statements =
      posts_none setup.operations (known setup.operations script.ranks plan.end p) (bound_at_start script.ranks) (plan.end p)
      (subst (λ xs. CarriesOut setup.operations (known setup.operations script.ranks plan.end p) (bound_at_start script.ranks) xs (plan.end p)) no_statements (each-carries_out setup.operations script.statements script.ranks plan.end plan.evaluation.reached p))

  made_past : (p : ℕ) → script.ranks ≤ p → (plan.end p).made ≡ []
  made_past p past = made_none p (ap (λ o. unwrap_or o []) (slice_get_past script.statements p (omega (arith, plan.counted, past))))

  -- what a process posts by the plan it posts in the evaluation
  posts_by : (p : ℕ) → planned_posts (setup_by setup.operations script.ranks relays plan.end) p ≡ (plan.end p).made
  posts_by p = elim (lt_or_ge p script.ranks) [
    | inl l ↦ ap (map made_of) (plan_at plan.end script.ranks p l) ∙ as_before (plan.end p).made
    | inr past ↦ ap (map made_of) (get_or-past (plan_upto plan.end script.ranks) p [] (omega (arith, plan_length plan.end script.ranks, past))) ∙ sym (made_past p past)
  ]

  pub posts_are : (p : ℕ) → planned_posts setup p ≡ (plan.end p).made
  posts_are p = ap (λ (u : Setup). planned_posts u p) plan.setup_is ∙ posts_by p

  pub history_is : plan_history setup ≡ history setup.operations plan.end
  history_is = λ i. history_of setup.operations (λ p. posts_are p i)

  pub ranks_are : setup.ranks ≡ script.ranks
  ranks_are = ap (λ (u : Setup). u.ranks) plan.setup_is

  pub planned_is : setup.planned ≡ true
  planned_is = ap (λ (u : Setup). u.planned) plan.setup_is

  -- what the plan's posts give it the evaluation gives it
  pub results_are : (p : ℕ) → planned_results setup p ≡ known setup.operations script.ranks plan.end p
  results_are p = λ i. results_of (history_is i) (ranks_are i) p

  pub births_are : (name : Name) → planned_birth setup name ≡ birth_of (history setup.operations plan.end) script.ranks name
  births_are name = λ i. birth_of (history_is i) (ranks_are i) name

-- THE END OF THE EVALUATION

pub take_few : {A : Type 0} (n : ℕ) (xs : List A) → length (take n xs) ≤ n
take_few zero xs = omega arith
take_few (suc n) [] = omega arith
take_few (suc n) (x ∷ xs) = omega (arith, take_few n xs)

take_whole : {A : Type 0} (n : ℕ) (xs : List A) → length xs ≡ n → take n xs ≡ xs
take_whole zero [] e = refl
take_whole (suc n) [] e = refl
take_whole zero (x ∷ xs) e = absurd (omega (arith, e))
take_whole (suc n) (x ∷ xs) e = ap (λ l. x ∷ l) (take_whole n xs (omega (arith, e)))

abbrev pub end_of : List Operation → ScriptView → State
end_of ops script = (eval_of ops (take script.ranks script.statements) script.ranks (take_few script.ranks script.statements)).0
