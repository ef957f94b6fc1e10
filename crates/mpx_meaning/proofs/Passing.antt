-- What ranks have passed of their statements, and what their lines tell of that.
use Rattle.std.proofs.Common.{◌≡◌, ℕ, zero, suc, List, [], ◌∷◌, ◌++◌, length, ℤ, Option, Some, None, refl, sym, ap, ◌∙◌, subst, inl, inr, append_assoc}
use Rattle.std.specs.Prelude.{slice_get, Result, Ok, Err}
use Rattle.std.proofs.lemmas.Option.{option_and_then_some, same_Some}
use Rattle.mpx_num.specs.declared.own.Operation.{Operation}
use Rattle.mpx_group.specs.declared.ranks.Rank.{Rank}
use Rattle.mpx_name.specs.Name.{Name}
use Rattle.mpx_post.specs.declared.draft.PostError.{PostError}
use Rattle.mpx_birth.specs.Births.{BirthView, rank_in}
use Rattle.mpx_post.specs.Rows.{all_of}
use Rattle.mpx_birth.specs.Topologies.{TopologyView}
use Rattle.mpx_value.specs.declared.outcomes.Outcome.{Outcome}
use Rattle.mpx_value.specs.Histories.{Answer, Made, Results, Within}
use Rattle.mpx_value.proofs.Growth.{all_of-grows}
use Rattle.mpx_statement.specs.declared.statement.Posting.{Posting}
use Rattle.mpx_statement.specs.declared.statement.Side.{Side}
use Rattle.mpx_statement.specs.declared.statement.Statement.{Statement}
use Rattle.mpx_statement.specs.declared.statement.Question.{Question}
use Rattle.mpx_statement.specs.declared.statement.Question.TheVariants.{Neighbours, Compare, Translate}
use Rattle.mpx_statement.specs.declared.statement.Statement.TheVariants.{Post, Wait, Ask}
use Rattle.mpx_statement.specs.Statements.{bound_to, started_as}
use Rattle.mpx_statement.specs.Lookups.{named}
use Rattle.mpx_meaning.specs.declared.asking.Found.{Found}
use Rattle.mpx_meaning.specs.declared.asking.Found.TheVariants as W
use Rattle.mpx_meaning.specs.Ranks.{Bindings, NullCommunicator, Line, Told, Refused, Requests, Local, answered, answered_by, answers, awaited_by, awaited_then, comparison_in, found_of, line_of, line_of_two, line_then, neighbours_in, rank_asked, told_by, told_to, translated_told, translation_in, attempt, bind, bound_by, done, doing, next_call, step, waited_lines, without, without_all}
use Rattle.mpx_meaning.specs.Told.{Passes, none, accepted, started as opened, refused, waited as passed_by, asked, IsWaiting, CarriesOut}
use Rattle.mpx_meaning.proofs.Fronts.{slice_get-parts}
use Rattle.mpx_meaning.proofs.Steps.{heard, posted, started, told_at_once, turned_down, waited, step_asks, step_ends, step_hears, step_passes, step_stays, step_waits, step_posts, step_starts, step_refused}
use Rattle.std.proofs.lemmas.List.{append-nil}

-- STATEMENTS THAT ARE PASSED

module _ (ops : List Operation) (r : Results) (me : ℕ) where
  -- who knows more passes them so too
  passes-grow : (more : Results) → Within r more → {before after : Bindings} {requests left : Requests} {earlier ms : List Made} {xs : List Statement} {lines : List Line} → Passes ops r me before requests earlier xs after left ms lines → Passes ops more me before requests earlier xs after left ms lines
  passes-grow more w none = none
  passes-grow more w (accepted b a k p) = accepted b a (w _ _ _ k) (passes-grow more w p)
  passes-grow more w (opened b a p) = opened b a (passes-grow more w p)
  passes-grow more w (refused a p) = refused a (passes-grow more w p)
  passes-grow more w (passed_by {requests = requests} {words = words} {told = told} k p) = passed_by (all_of-grows (λ (c : Name × ℕ). r c.0 c.1) (λ (c : Name × ℕ). more c.0 c.1) (λ c answer. w c.0 c.1 answer) (awaited_by requests words) told k) (passes-grow more w p)
  passes-grow more w (asked p) = asked (passes-grow more w p)

  -- some statements, and then others
  passes-append : {between after : Bindings} {still left : Requests} {now further : List Made} {ys : List Statement} {behind : List Line} → Passes ops r me between still now ys after left further behind
      → {before : Bindings} {requests : Requests} {earlier ms : List Made} {xs : List Statement} {lines : List Line} → Passes ops r me before requests earlier xs between still ms lines → now ≡ earlier ++ ms
      → Passes ops r me before requests earlier (xs ++ ys) after left (ms ++ further) (lines ++ behind)
  passes-append {between} {after} {still} {left} {now} {further} {ys} {behind} q {earlier = earlier} none e = subst (λ made. Passes ops r me between still made ys after left further behind) (e ∙ append-nil earlier) q
  passes-append q {earlier = earlier} (accepted {further = ms} {m = m} b a k p) e = accepted b a k (passes-append q p (e ∙ sym (append_assoc earlier (m ∷ []) ms)))
  passes-append q {earlier = earlier} (opened {further = ms} {m = m} b a p) e = opened b a (passes-append q p (e ∙ sym (append_assoc earlier (m ∷ []) ms)))
  passes-append q (refused a p) e = refused a (passes-append q p e)
  passes-append {after = after} {left = left} {further = further} {ys = ys} {behind = behind} q {before} {requests} {earlier} {ms} {xs} (passed_by {words = words} {rest = rest} {told = told} {lines = lines} k p) e =
      subst (Passes ops r me before requests earlier (Wait words ∷ rest ++ ys) after left (ms ++ further)) (sym (append_assoc (waited_lines requests words told) lines behind)) (passed_by k (passes-append q p e))
  passes-append q (asked p) e = asked (passes-append q p e)

-- the answer of a call that a line tells
pub record Tells (r : Results) (name : Name) (call : ℕ) (outcome : Outcome) : Type 0 where
  pub answer : Answer
  pub known_as : r name call ≡ Some answer
  pub is : answer.outcome ≡ outcome

-- the lines that answer questions tell no call
module _ (name : Name) (call : ℕ) (outcome : Outcome) where
  near_by : (side : Side) (topology : Option TopologyView) (rank : ℕ) → told_by side topology rank ≡ Told name call outcome → ⊥
  near_by side None rank e = cc e
  near_by side (Some topology) rank e = cc e

  near_to : (side : Side) (birth : BirthView) (rank : Option ℕ) → told_to side birth rank ≡ Told name call outcome → ⊥
  near_to side birth None e = cc e
  near_to side birth (Some rank) e = near_by side birth.topology rank e

  one_no_call : {A : Type 0} (tell : A → Line) → ((c : A) → tell c ≡ Told name call outcome → ⊥) → (found : Found A) → line_of tell found ≡ Told name call outcome → ⊥
  one_no_call tell never W.Null e = cc e
  one_no_call tell never W.Freed e = cc e
  one_no_call tell never (W.Open c) e = never c e

  two_no_call : {A : Type 0} (tell : A → A → Line) → ((c d : A) → tell c d ≡ Told name call outcome → ⊥) → (first second : Found A) → line_of_two tell first second ≡ Told name call outcome → ⊥
  two_no_call tell never W.Null second e = cc e
  two_no_call tell never W.Freed W.Null e = cc e
  two_no_call tell never W.Freed W.Freed e = cc e
  two_no_call tell never W.Freed (W.Open d) e = cc e
  two_no_call tell never (W.Open c) W.Null e = cc e
  two_no_call tell never (W.Open c) W.Freed e = cc e
  two_no_call tell never (W.Open c) (W.Open d) e = never c d e

  comparison_no_call : (c d : Name × BirthView) → comparison_in c d ≡ Told name call outcome → ⊥
  comparison_no_call c d e = cc e

  ranks_no_call : (from to : List ℕ) (ranks : Option (List Rank)) → translated_told from to ranks ≡ Told name call outcome → ⊥
  ranks_no_call from to None e = cc e
  ranks_no_call from to (Some ranks) e = cc e

  translation_no_call : (ranks : List (Option ℤ)) (from to : Name × BirthView) → translation_in ranks from to ≡ Told name call outcome → ⊥
  translation_no_call ranks from to e = ranks_no_call from.1.members to.1.members (all_of (rank_asked (length from.1.members)) ranks) e

  pub answer_no_call : (me : ℕ) (found : List ℕ → Found (Name × BirthView)) (question : Question) → answered_by me found question ≡ Told name call outcome → ⊥
  answer_no_call me found (Neighbours on side) = one_no_call (neighbours_in me side) (λ c e. near_to side c.1 (rank_in me c.1.members) e) (found on)
  answer_no_call me found (Compare first second) = two_no_call comparison_in comparison_no_call (found first) (found second)
  answer_no_call me found (Translate from to ranks) = two_no_call (translation_in ranks) (translation_no_call ranks) (found from) (found to)

-- the lines of a wait tell the answers that it was given
module _ (ops : List Operation) (r : Results) (name : Name) (call : ℕ) (outcome : Outcome) where
  then-tells : (place : Option (Name × ℕ)) (calls : List (Name × ℕ)) (rest : List Answer → List Line)
      → ((told : List Answer) → answers r calls ≡ Some told → (i : ℕ) → slice_get (rest told) i ≡ Some (Told name call outcome) → Tells r name call outcome)
      → (told : List Answer) → answers r (awaited_then place calls) ≡ Some told → (i : ℕ) → slice_get (line_then place told rest) i ≡ Some (Told name call outcome) → Tells r name call outcome
  then-tells None calls rest h told k zero e = cc e
  then-tells None calls rest h told k (suc i) e = h told k i e
  then-tells (Some place) calls rest h [] k i e = cc e
  then-tells (Some place) calls rest h (answer ∷ told) k i e =
      option_and_then_some _ (r place.0 place.1) (answer ∷ told) k (λ first first_known f.
      option_and_then_some _ (answers r calls) (answer ∷ told) f (λ others others_known g.
      at i e (first_known ∙ ap Some (cc g)) (others_known ∙ ap Some (cc g)))) where
        at : (i : ℕ) → slice_get (line_then (Some place) (answer ∷ told) rest) i ≡ Some (Told name call outcome) → r place.0 place.1 ≡ Some answer → answers r calls ≡ Some told → Tells r name call outcome
        at zero f a b = record { answer = answer; known_as = cc (f, a); is = cc f }
        at (suc i) f a b = h told b i f

  waited-tell : (words : List (List ℕ)) (requests : Requests) (told : List Answer) → answers r (awaited_by requests words) ≡ Some told → (i : ℕ) → slice_get (waited_lines requests words told) i ≡ Some (Told name call outcome) → Tells r name call outcome
  waited-tell [] requests told k i e = cc e
  waited-tell (word ∷ words) requests told k i e = then-tells (named requests word) (awaited_by (without word requests) words) (waited_lines (without word requests) words) (waited-tell words (without word requests)) told k i e

  -- what a line tells is known
  passes-tell : {me : ℕ} {before after : Bindings} {requests left : Requests} {earlier ms : List Made} {xs : List Statement} {lines : List Line} → Passes ops r me before requests earlier xs after left ms lines → (i : ℕ) → slice_get lines i ≡ Some (Told name call outcome) → Tells r name call outcome
  passes-tell none i e = cc e
  passes-tell (accepted {m = m} {answer = answer} b a k p) zero e = record { answer = answer; known_as = cc (e, k); is = cc e }
  passes-tell (accepted b a k p) (suc i) e = passes-tell p i e
  passes-tell (opened b a p) i e = passes-tell p i e
  passes-tell (refused a p) zero e = cc e
  passes-tell (refused a p) (suc i) e = passes-tell p i e
  passes-tell (passed_by {requests = requests} {words = words} {told = told} {lines = lines} k p) i e = elim (slice_get-parts (waited_lines requests words told) lines i (Told name call outcome) e) [
    | inl here ↦ waited-tell words requests told k i here
    | inr behind ↦ passes-tell p behind.0 behind.1
  ]
  passes-tell {me} (asked {bound = bound} {earlier = earlier} {question = question} p) zero e = absurd (answer_no_call name call outcome me (λ word. found_of earlier (named bound word)) question (same_Some (answered me bound earlier question) (Told name call outcome) e))
  passes-tell (asked p) (suc i) e = passes-tell p i e

-- RANKS

pub carries_out-grows : (ops : List Operation) (r more : Results) → Within r more → (first : Bindings) (xs : List Statement) (s : Local) → CarriesOut ops r first xs s → CarriesOut ops more first xs s
carries_out-grows ops r more w first xs s (inl h) = inl (record { passed = h.passed; left = h.left; all = h.all; todo = h.todo; passes = passes-grow ops r s.me more w h.passes })
carries_out-grows ops r more w first xs s (inr h) = inr (record { passed = h.passed; posting = h.posting; left = h.left; all = h.all; earlier = h.earlier; last = h.last; made = h.made; blocks = h.blocks; accepts = h.accepts; todo = h.todo; passes = passes-grow ops r s.me more w h.passes })

module _ (ops : List Operation) (r : Results) (first : Bindings) (xs : List Statement) (s : Local) where
  -- it has passed one statement more
  one_more : (passed : List Statement) (x : Statement) (left : List Statement) → passed ++ x ∷ left ≡ xs → (bound : Bindings) (requests : Requests) (made : List Made) (lines : List Line) → Passes ops r s.me first [] [] (passed ++ x ∷ []) bound requests (s.made ++ made) (s.lines ++ lines)
      → CarriesOut ops r first xs (done s (record { bound = bound; requests = requests; todo = doing left; made = made; lines = lines }))
  one_more passed x left all bound requests made lines passes = inl (record { passed = passed ++ x ∷ []; left = left; all = append_assoc passed (x ∷ []) left ∙ all; todo = refl; passes = passes })

  -- where its step leads
  stepped : (t u : Local) → step ops r s ≡ Some t → step ops r s ≡ Some u → CarriesOut ops r first xs u → CarriesOut ops r first xs t
  stepped t u e f h = subst (CarriesOut ops r first xs) (same_Some u t (sym f ∙ e)) h

  module _ (passed : List Statement) (passes : Passes ops r s.me first [] [] passed s.bound s.requests s.made s.lines) (left : List Statement) (t : Local) (e : step ops r s ≡ Some t) where
    posting-steps : (x : Posting) → passed ++ Post x ∷ left ≡ xs → s.todo ≡ doing (Post x ∷ left) → CarriesOut ops r first xs t
    posting-steps x all todo = by_attempt (attempt ops s.me s.bound s.made x) refl where
      by_request : (m : Made) → attempt ops s.me s.bound s.made x ≡ Ok m → (w : Option (List ℕ)) → started_as x ≡ w → CarriesOut ops r first xs t
      by_request m f None b = stepped t (done s (posted s (bound_to x) (doing left) m)) e (step_posts ops r s x (doing left) m todo b f) (inr (record {
        passed = passed;
        posting = x;
        left = left;
        all = all;
        earlier = s.made;
        last = m;
        made = refl;
        blocks = b;
        accepts = f;
        todo = refl;
        passes = subst (Passes ops r s.me first [] [] passed s.bound s.requests s.made) (sym (append-nil s.lines)) passes;
      }))
      by_request m f (Some word) b = stepped t (done s (started s word (doing left) m)) e (step_starts ops r s x (doing left) word m todo b f)
          (one_more passed (Post x) left all s.bound (s.requests ++ (word, (m.name, next_call m.name s.made)) ∷ []) (m ∷ []) [] (passes-append ops r s.me (opened b f none) passes refl))

      by_attempt : (o : Result Made PostError) → attempt ops s.me s.bound s.made x ≡ o → CarriesOut ops r first xs t
      by_attempt (Ok m) f = by_request m f (started_as x) refl
      by_attempt (Err refusal) f = stepped t (done s (turned_down s (bound_to x) (doing left) refusal)) e (step_refused ops r s x (doing left) refusal todo f)
          (one_more passed (Post x) left all (bind (bound_to x) NullCommunicator s.bound) s.requests [] (Refused refusal ∷ []) (passes-append ops r s.me (refused f none) passes refl))

    waiting_for-steps : (words : List (List ℕ)) → passed ++ Wait words ∷ left ≡ xs → s.todo ≡ doing (Wait words ∷ left) → CarriesOut ops r first xs t
    waiting_for-steps words all todo = by_answers (answers r (awaited_by s.requests words)) refl where
      by_answers : (o : Option (List Answer)) → answers r (awaited_by s.requests words) ≡ o → CarriesOut ops r first xs t
      by_answers None f = cc (e, step_stays ops r s words (doing left) todo f)
      by_answers (Some told) f =
          let lines : List Line = waited_lines s.requests words told in
          let one : Passes ops r s.me s.bound s.requests s.made (Wait words ∷ []) s.bound (without_all words s.requests) [] lines = subst (Passes ops r s.me s.bound s.requests s.made (Wait words ∷ []) s.bound (without_all words s.requests) []) (append-nil lines) (passed_by f none) in
          stepped t (done s (waited s words (doing left) told)) e (step_passes ops r s words (doing left) told todo f)
          (one_more passed (Wait words) left all s.bound (without_all words s.requests) [] lines (passes-append ops r s.me one passes refl))

    asking-steps : (question : Question) → passed ++ Ask question ∷ left ≡ xs → s.todo ≡ doing (Ask question ∷ left) → CarriesOut ops r first xs t
    asking-steps question all todo = stepped t (done s (told_at_once s question (doing left))) e (step_asks ops r s question (doing left) todo)
        (one_more passed (Ask question) left all s.bound s.requests [] (answered s.me s.bound s.made question ∷ []) (passes-append ops r s.me (asked none) passes refl))

  -- it goes on to its next statement
  ready-steps : (passed left : List Statement) → passed ++ left ≡ xs → s.todo ≡ doing left → Passes ops r s.me first [] [] passed s.bound s.requests s.made s.lines → (t : Local) → step ops r s ≡ Some t → CarriesOut ops r first xs t
  ready-steps passed [] all todo passes t e = cc (e, step_ends ops r s todo)
  ready-steps passed (Post x ∷ left) all todo passes t e = posting-steps passed passes left t e x all todo
  ready-steps passed (Wait words ∷ left) all todo passes t e = waiting_for-steps passed passes left t e words all todo
  ready-steps passed (Ask question ∷ left) all todo passes t e = asking-steps passed passes left t e question all todo

  -- it hears what it waits for
  waiting-steps : IsWaiting ops r first xs s → (t : Local) → step ops r s ≡ Some t → CarriesOut ops r first xs t
  waiting-steps h t e = by_answer (r h.last.name (next_call h.last.name h.earlier)) refl where
    by_answer : (o : Option Answer) → r h.last.name (next_call h.last.name h.earlier) ≡ o → CarriesOut ops r first xs t
    by_answer None f = cc (e, step_waits ops r s h.last.name (next_call h.last.name h.earlier) (bound_to h.posting) (doing h.left) h.todo f)
    by_answer (Some answer) f =
        let call : ℕ = next_call h.last.name h.earlier in
        let bound : Bindings = bind (bound_to h.posting) (bound_by answer.outcome answer.born) s.bound in
        let told : List Line = Told h.last.name call answer.outcome ∷ [] in
        stepped t (done s (heard s h.last.name call (bound_to h.posting) (doing h.left) answer)) e (step_hears ops r s h.last.name call (bound_to h.posting) (doing h.left) answer h.todo f)
        (one_more h.passed (Post h.posting) h.left h.all bound s.requests [] told
        (subst (λ ms. Passes ops r s.me first [] [] (h.passed ++ Post h.posting ∷ []) bound s.requests ms (s.lines ++ told)) (sym (append-nil s.made ∙ h.made)) (passes-append ops r s.me (accepted h.blocks h.accepts f none) h.passes refl)))

  pub step-carries_out : (t : Local) → CarriesOut ops r first xs s → step ops r s ≡ Some t → CarriesOut ops r first xs t
  step-carries_out t (inl h) e = ready-steps h.passed h.left h.all h.todo h.passes t e
  step-carries_out t (inr h) e = waiting-steps h t e

  -- what its lines tell is known
  pub carried_out-tell : CarriesOut ops r first xs s → (i : ℕ) (name : Name) (call : ℕ) (outcome : Outcome) → slice_get s.lines i ≡ Some (Told name call outcome) → Tells r name call outcome
  carried_out-tell (inl h) i name call outcome = passes-tell ops r name call outcome h.passes i
  carried_out-tell (inr h) i name call outcome = passes-tell ops r name call outcome h.passes i

  -- who has nothing left has passed all
  pub carried_out-all : CarriesOut ops r first xs s → s.todo ≡ [] → Passes ops r s.me first [] [] xs s.bound s.requests s.made s.lines
  carried_out-all (inr h) e = cc (e, h.todo)
  carried_out-all (inl h) e = by_left h.left h.all (sym h.todo ∙ e) where
    by_left : (left : List Statement) → h.passed ++ left ≡ xs → doing left ≡ [] → Passes ops r s.me first [] [] xs s.bound s.requests s.made s.lines
    by_left [] all f = subst (λ ys. Passes ops r s.me first [] [] ys s.bound s.requests s.made s.lines) (sym (append-nil h.passed) ∙ all) h.passes
    by_left (x ∷ left) all f = cc f
