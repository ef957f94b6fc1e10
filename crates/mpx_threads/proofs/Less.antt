-- A rank that has carried out its statements by some answers has so by those alone that its lines tell.
use Rattle.std.proofs.Common.{◌≡◌, ℕ, suc, List, [], ◌∷◌, ◌++◌, Option, Some, None, refl, sym, ap, ◌∙◌, inl, inr}
use Rattle.std.specs.Prelude.{slice_get, option_and_then}
use Rattle.std.proofs.lemmas.Option.{option_and_then_some}
use Rattle.mpx_num.specs.declared.own.Operation.{Operation}
use Rattle.mpx_name.specs.Name.{Name}
use Rattle.mpx_value.specs.declared.outcomes.Outcome.{Outcome}
use Rattle.mpx_value.specs.Histories.{Answer, Made, Results, Within}
use Rattle.mpx_statement.specs.declared.statement.Statement.{Statement}
use Rattle.mpx_statement.specs.Lookups.{named}
use Rattle.mpx_meaning.specs.declared.line.Line.{Line}
use Rattle.mpx_meaning.specs.declared.line.Line.TheVariants.{Told}
use Rattle.mpx_meaning.specs.Ranks.{Bindings, Local, Requests, answers, awaited_by, awaited_then, line_then, next_call, waited_lines, without}
use Rattle.mpx_meaning.specs.Told.{CarriesOut, Passes, accepted, asked, none, refused, started, waited}
use Rattle.mpx_post.proofs.Lists.{slice_get-append}

-- what follows has a place behind
behind : {A : Type 0} (xs ys : List A) (k : ℕ) (x : A) → slice_get ys k ≡ Some x → (j : ℕ) × (slice_get (xs ++ ys) j ≡ Some x)
behind [] ys k x e = (k, e)
behind (y ∷ xs) ys k x e = let there = behind xs ys k x e in (suc there.0, there.1)

module _ (ops : List Operation) (r less : Results) (within : Within less r) where
  -- the calls that lines tell are known by these
  abbrev pub Have : List Line → Type 0
  Have lines = (i : ℕ) (name : Name) (call : ℕ) (outcome : Outcome) → slice_get lines i ≡ Some (Told name call outcome) → (answer : Answer) × (less name call ≡ Some answer)

  has_same : (name : Name) (call : ℕ) (answer : Answer) → r name call ≡ Some answer → (answer : Answer) × (less name call ≡ Some answer) → less name call ≡ Some answer
  has_same name call answer e x = x.1 ∙ sym (within name call x.0 x.1) ∙ e

  then_less : (place : Option (Name × ℕ)) (calls : List (Name × ℕ)) (told : List Answer) (rest : List Answer → List Line) → ((ts : List Answer) → answers r calls ≡ Some ts → Have (rest ts) → answers less calls ≡ Some ts)
      → answers r (awaited_then place calls) ≡ Some told → Have (line_then place told rest) → answers less (awaited_then place calls) ≡ Some told
  then_less None calls told rest h e have = h told e (λ i. have (suc i))
  then_less (Some place) calls [] rest h e have =
      option_and_then_some (λ (x : Answer). option_and_then (λ xs. Some (x ∷ xs)) (answers r calls)) (r place.0 place.1) [] e (λ first here f.
      option_and_then_some (λ (xs : List Answer). Some (first ∷ xs)) (answers r calls) [] f (λ others there g. cc g))
  then_less (Some place) calls (answer ∷ ts) rest h e have =
      option_and_then_some (λ (x : Answer). option_and_then (λ xs. Some (x ∷ xs)) (answers r calls)) (r place.0 place.1) (answer ∷ ts) e (λ first here f.
      option_and_then_some (λ (xs : List Answer). Some (first ∷ xs)) (answers r calls) (answer ∷ ts) f (λ others there g.
      both (here ∙ ap Some (cc g)) (there ∙ ap Some (cc g)))) where
        both : r place.0 place.1 ≡ Some answer → answers r calls ≡ Some ts → answers less (place ∷ calls) ≡ Some (answer ∷ ts)
        both here there =
            let one : less place.0 place.1 ≡ Some answer = has_same place.0 place.1 answer here (have 0 place.0 place.1 answer.outcome refl) in
            let more : answers less calls ≡ Some ts = h ts there (λ i. have (suc i)) in
            λ i. option_and_then (λ (x : Answer). option_and_then (λ (xs : List Answer). Some (x ∷ xs)) (more i)) (one i)

  waited_less : (words : List (List ℕ)) (requests : Requests) (told : List Answer) → answers r (awaited_by requests words) ≡ Some told → Have (waited_lines requests words told) → answers less (awaited_by requests words) ≡ Some told
  waited_less [] requests told e have = e
  waited_less (word ∷ words) requests told e have = then_less (named requests word) (awaited_by (without word requests) words) told (waited_lines (without word requests) words) (waited_less words (without word requests)) e have

  passes_less : {me : ℕ} {before after : Bindings} {requests left : Requests} {earlier ms : List Made} {xs : List Statement} {lines : List Line} → Passes ops r me before requests earlier xs after left ms lines → Have lines → Passes ops less me before requests earlier xs after left ms lines
  passes_less none have = none
  passes_less (accepted {earlier = earlier} {m = m} {answer = answer} b a k p) have = accepted b a (has_same m.name (next_call m.name earlier) answer k (have 0 m.name (next_call m.name earlier) answer.outcome refl)) (passes_less p (λ i. have (suc i)))
  passes_less (started b a p) have = started b a (passes_less p have)
  passes_less (refused a p) have = refused a (passes_less p (λ i. have (suc i)))
  passes_less (waited {requests = requests} {words = words} {told = told} {lines = lines} k p) have =
      waited (waited_less words requests told k (λ i name call outcome e. have i name call outcome (slice_get-append (waited_lines requests words told) lines i (Told name call outcome) e)))
      (passes_less p (λ i name call outcome e. let there = behind (waited_lines requests words told) lines i (Told name call outcome) e in have there.0 name call outcome there.1))
  passes_less (asked p) have = asked (passes_less p (λ i. have (suc i)))

  pub carries_out_less : (first : Bindings) (xs : List Statement) (s : Local) → CarriesOut ops r first xs s → Have s.lines → CarriesOut ops less first xs s
  carries_out_less first xs s (inl h) have = inl (record { passed = h.passed; left = h.left; all = h.all; todo = h.todo; passes = passes_less h.passes have })
  carries_out_less first xs s (inr h) have = inr (record { passed = h.passed; posting = h.posting; left = h.left; all = h.all; earlier = h.earlier; last = h.last; made = h.made; blocks = h.blocks; accepts = h.accepts; todo = h.todo; passes = passes_less h.passes have })
