-- What a rank was told its port holds, at the end.
use Rattle.std.proofs.Common.{◌≡◌, ℕ, zero, suc, true, List, [], ◌∷◌, length, take, Option, Some, None, refl, sym, ap, ◌∙◌, subst, inl}
use Rattle.std.specs.Prelude.{slice_get, is_some}
use Rattle.std.specs.List.{list_all}
use Rattle.std.specs.Option.{option_map}
use Rattle.std.proofs.lemmas.Option.{same_Some}
use Rattle.atomic_table.specs.Seated.{TableId}
use Rattle.mpx_name.specs.Name.{Name}
use Rattle.mpx_birth.specs.Births.{BirthView}
use Rattle.mpx_value.specs.declared.outcomes.Outcome.{Outcome}
use Rattle.mpx_value.specs.Histories.{Answer, Within, answer_with, posts_on}
use Rattle.mpx_node.specs.declared.finished.Finished.{Finished}
use Rattle.mpx_node.specs.Nodes.{NodeView, result_on}
use Rattle.mpx_world.proofs.Lists.{both_true}
use Rattle.mpx_bus.specs.declared.act.Setup.{Setup}
use Rattle.mpx_bus.specs.Ports.{PortView, node_in}
use Rattle.mpx_bus.specs.Rule.{planned_posts}
use Rattle.mpx_shared.specs.LawfulPorts.{IsLawful, made_in}
use Rattle.mpx_shared.proofs.LawfulPorts.{lawful_mine, lawful_posts, lawful_result}
use Rattle.mpx_shared.proofs.Plans as P
use Rattle.mpx_statement.specs.declared.statement.Statement.{Statement}
use Rattle.mpx_statement.specs.declared.statement.Statement.TheVariants.{Ask, Post, Wait}
use Rattle.mpx_statement.specs.Lookups.{named}
use Rattle.mpx_meaning.specs.Ends.{EndView, waits_with}
use Rattle.mpx_meaning.specs.declared.line.Line.{Line}
use Rattle.mpx_meaning.specs.declared.line.Line.TheVariants.{Told}
use Rattle.mpx_meaning.specs.Ranks.{doing}
use Rattle.mpx_meaning.specs.Evaluation.{IsPrefixOf, bound_at_start, known, start_state, statements_of}
use Rattle.mpx_meaning.specs.Going.{Goes, stays}
use Rattle.mpx_meaning.specs.Told.{CarriesOut, none}
use Rattle.mpx_rank.proofs.Moving.{doing_length}
use Rattle.mpx_meaning.proofs.Fronts.{prefix_itself}
use Rattle.mpx_meaning.proofs.Going.{goes-carries_out}
use Rattle.mpx_meaning.proofs.Tells.{mapped_some}
use Rattle.mpx_system.specs.Systems.{node_tells}
use Rattle.mpx_script.specs.ScriptView.{ScriptView}
use Rattle.mpx_threads.specs.Plans.{Plans, planned_results}
use Rattle.mpx_threads.specs.ThreadRuns.{IsDone}
use Rattle.mpx_threads.specs.ToldCalls.{first_posts, planned_birth}
use Rattle.mpx_threads.specs.Work.{AreHeld, HasCome, HasWorked, end_first, is_held, waits_first}
use Rattle.mpx_threads.proofs.Less.{Have, carries_out_less}
use Rattle.mpx_threads.proofs.Asked.{none_asked}
use Rattle.mpx_threads.proofs.Plans.{births_are, made_none, planned_is, posts_are, results_are}

some_there : {A : Type 0} (o : Option A) → is_some o ≡ true → (x : A) × (o ≡ Some x)
some_there None e = cc e
some_there (Some x) e = (x, refl)

-- where all are held, so is each
held_line : (node : NodeView) (lines : List Line) → AreHeld node lines → (i : ℕ) (line : Line) → slice_get lines i ≡ Some line → is_held node line ≡ true
held_line node [] held i line e = cc e
held_line node (x ∷ xs) held zero line e = ap (is_held node) (sym (same_Some x line e)) ∙ (both_true (is_held node x) (list_all (is_held node) xs) held).0
held_line node (x ∷ xs) held (suc i) line e = held_line node xs (both_true (is_held node x) (list_all (is_held node) xs) held).1 i line e

-- A PORT

module _ (table : TableId) (setup : Setup) (me : ℕ) (port : PortView) (lawful : IsLawful table setup me port) (planned : setup.planned ≡ true) where
  -- a result is what the plan's posts give
  result_is : (name : Name) (call : ℕ) (f : Finished) → result_on (node_in port) name call ≡ Some f → planned_results setup me name call ≡ Some (answer_with (planned_birth setup) f.outcome)
  result_is name call f e = (P.result_is_planned setup me name call f planned (lawful_result table setup me port name call f lawful e)).result

  -- what the node tells the plan's posts give
  tells_planned : Within (node_tells (planned_birth setup) (node_in port)) (planned_results setup me)
  tells_planned name call answer e =
      let found = mapped_some (λ (f : Finished). answer_with (planned_birth setup) f.outcome) (result_on (node_in port) name call) answer e in
      result_is name call found.0 found.1 ∙ ap Some found.2

  module _ (script : ScriptView) (relays : ℕ) (plan : Plans script relays setup) (count : ℕ) (end : EndView) (come : HasCome script setup me count end) (counted : length (made_in port) ≡ count) (held : AreHeld (node_in port) come.to.lines) where
    goes_there : Goes setup.operations (known setup.operations script.ranks plan.end me) (start_state script.statements script.ranks me) come.to
    goes_there = subst (λ r. Goes setup.operations r (start_state script.statements script.ranks me) come.to) (results_are script relays setup plan me) come.goes

    -- the result of a line that tells an outcome
    line_held : (i : ℕ) (name : Name) (call : ℕ) (outcome : Outcome) → slice_get come.to.lines i ≡ Some (Told name call outcome) → (f : Finished) × (result_on (node_in port) name call ≡ Some f) × (f.outcome ≡ outcome)
    line_held i name call outcome e =
        let said = mapped_some (λ (a : Answer). a.outcome) (planned_results setup me name call) outcome (come.tells i name call outcome e) in
        let found = some_there (result_on (node_in port) name call) (held_line (node_in port) come.to.lines held i (Told name call outcome) e) in
        let f : Finished = found.0 in
        let same : answer_with (planned_birth setup) f.outcome ≡ said.0 = same_Some (answer_with (planned_birth setup) f.outcome) said.0 (sym (result_is name call f found.1) ∙ said.1) in
        (f, found.1, ap (λ (a : Answer). a.outcome) same ∙ said.2)

    made_same : made_in port ≡ come.to.made
    made_same = lawful_posts table setup me port planned lawful ∙ ap (first_posts setup me) counted ∙ sym come.made_is

    have : Have setup.operations (planned_results setup me) (node_tells (planned_birth setup) (node_in port)) tells_planned come.to.lines
    have i name call outcome e =
        let there = line_held i name call outcome e in
        (answer_with (planned_birth setup) there.0.outcome, ap (option_map (λ (f : Finished). answer_with (planned_birth setup) f.outcome)) there.1)

    pub is_done : IsDone setup.operations script plan.end me port come.to
    is_done = record {
      goes = goes_there;
      carries_out = subst (λ (born : Name → Option BirthView). CarriesOut setup.operations (node_tells born (node_in port)) (bound_at_start script.ranks) (statements_of script.statements me) come.to) (λ i name. births_are script relays setup plan name i)
          (carries_out_less setup.operations (planned_results setup me) (node_tells (planned_birth setup) (node_in port)) tells_planned (bound_at_start script.ranks) (statements_of script.statements me) come.to
          (subst (λ r. CarriesOut setup.operations r (bound_at_start script.ranks) (statements_of script.statements me) come.to) (sym (results_are script relays setup plan me)) (goes-carries_out setup.operations script.statements script.ranks plan.end me come.to goes_there))
          have);
      told = λ i name call outcome e.
          let there = line_held i name call outcome e in
          record {
            finished = there.0;
            held = there.1;
            is = there.2;
            mine = ap (λ ms. slice_get (posts_on name ms) call) (sym made_same) ∙ lawful_mine table setup me port name call there.0 lawful there.1;
          };
      posts = subst (λ ms. IsPrefixOf come.to.made ms) (sym made_same) (prefix_itself come.to.made);
      no_others = λ e. made_same;
    }

pub has_worked : (table : TableId) (script : ScriptView) (relays : ℕ) (setup : Setup) (me : ℕ) (port : PortView) (count : ℕ) (end : EndView) → IsLawful table setup me port → HasCome script setup me count end
    → length (made_in port) ≡ count → AreHeld (node_in port) end.lines → HasWorked script relays setup me port end
has_worked table script relays setup me port count end lawful come counted held = record {
  to = come.to;
  done = λ plan. is_done table setup me port lawful (planned_is script relays setup plan) script relays plan count end come counted (subst (AreHeld (node_in port)) (ap (λ (e : EndView). e.lines) come.end_is) held);
  end_is = come.end_is;
}

no_statements : (xs : List Statement) → doing xs ≡ [] → xs ≡ []
no_statements [] e = refl
no_statements (x ∷ xs) e = cc e

taken_none : {A : Type 0} (n : ℕ) → (let none : List A = [] in take n none) ≡ []
taken_none zero = refl
taken_none (suc n) = refl

-- how a rank ends before these statements
pub end_before : (xs : List Statement) (requests : List ℕ → Option (Name × ℕ)) → ((word : List ℕ) → requests word ≡ None) → waits_with requests (doing xs) ≡ waits_first xs
end_before [] requests closed = refl
end_before (Post posting ∷ xs) requests closed = λ i. Some (record { left = suc (doing_length xs i); calls = [] })
end_before (Ask question ∷ xs) requests closed = λ i. Some (record { left = suc (doing_length xs i); calls = [] })
end_before (Wait words ∷ xs) requests closed = λ i. Some (record { left = suc (doing_length xs i); calls = none_asked requests closed words i })

-- a rank that has done nothing
pub has_not_worked : (table : TableId) (script : ScriptView) (relays : ℕ) (setup : Setup) (me : ℕ) (port : PortView) (end : EndView) → IsLawful table setup me port → end ≡ end_first (statements_of script.statements me) → HasWorked script relays setup me port end
has_not_worked table script relays setup me port end lawful e = record {
  to = start_state script.statements script.ranks me;
  done = λ plan. record {
    goes = stays;
    carries_out = inl (record { passed = []; left = statements_of script.statements me; all = refl; todo = refl; passes = none });
    told = λ i name call outcome f. cc f;
    posts = (made_in port, refl);
    no_others = λ f.
        let none : planned_posts setup me ≡ [] = posts_are script relays setup plan me ∙ made_none script relays setup plan me (no_statements (statements_of script.statements me) f) in
        lawful_posts table setup me port (planned_is script relays setup plan) lawful ∙ ap (take (length (made_in port))) none ∙ taken_none (length (made_in port));
  };
  end_is = e ∙ λ i. record { lines = []; origins = []; waits = sym (end_before (statements_of script.statements me) (named []) (λ word. refl)) i };
}
