-- A rank whose communicators are names and births, and whose carrier tells what is known, makes the steps of its script.
use Rattle.std.proofs.Common.{◌≡◌, ℕ, zero, suc, ◌+◌, Bool, true, false, List, [], ◌∷◌, ◌++◌, length, Option, Some, None, refl, sym, ap, ◌∙◌, subst, inl, inr}
use Rattle.std.specs.Prelude.{Ok, Err, is_some, slice_get}
use Rattle.std.specs.Option.{option_map}
use Rattle.std.proofs.lemmas.List.{append-nil}
use Rattle.std.proofs.lemmas.Option.{same_Some}
use Rattle.mpx_num.specs.declared.own.Operation.{Operation}
use Rattle.mpx_name.specs.Name.{Name}
use Rattle.mpx_post.specs.declared.draft.PostError.{PostError}
use Rattle.mpx_post.specs.declared.draft.PostError.TheVariants.{OutOfMemory}
use Rattle.mpx_value.specs.declared.outcomes.Outcome.{Outcome}
use Rattle.mpx_value.specs.Histories.{Answer, Made, Results, has_freed}
use Rattle.mpx_statement.specs.declared.statement.Posting.{Posting}
use Rattle.mpx_statement.specs.declared.statement.Question.{Question}
use Rattle.mpx_statement.specs.declared.statement.Statement.{Statement}
use Rattle.mpx_statement.specs.declared.statement.Statement.TheVariants.{Post, Wait, Ask}
use Rattle.mpx_statement.specs.Statements.{bound_to, communicator_word, started_as}
use Rattle.mpx_statement.specs.Lookups.{named}
use Rattle.mpx_meaning.specs.declared.line.Line.{Line}
use Rattle.mpx_meaning.specs.declared.line.Line.TheVariants.{Refused, Told}
use Rattle.mpx_meaning.specs.Ranks.{Act, Communicator, Do, Local, Todo, answered as answer_line, answered_by, answers, attempt, awaited_by, bind, bound_by, communicator_of, doing, done, found_of, next_call, origins_of, step, waited_lines}
use Rattle.mpx_meaning.specs.Going.{Goes, stays as stays_there, moves}
use Rattle.mpx_meaning.specs.Standing.{WaitView, awaited, binds, todo_of}
use Rattle.mpx_meaning.proofs.Fronts.{slice_get-parts}
use Rattle.mpx_meaning.proofs.Standing.{named_behind, named_without_all}
use Rattle.mpx_meaning.proofs.Steps as S
use Rattle.mpx_meaning.proofs.Passing.{answer_no_call}
use Rattle.mpx_rank.specs.Carriers.{IsToldWithin, Terms, outcomes_of}
use Rattle.mpx_rank.specs.Moves.{GoesOn, Move, Ran, RankView, Still, answered, are_done, asks, communicator_in, found_by, has_ended, heard, hears, is_refused, moved_on, passes, passes_not, posted, posts, posts_not, refused, started, starts, stayed, wait_lines, waited, waits_on}
use Rattle.mpx_rank.specs.Places.{CommunicatorView, StandsInScript, attempt_by, bound_as}
use Rattle.mpx_rank.proofs.Moving.{todo_length, wait_lines-length}
use Rattle.mpx_rank.proofs.Telling.{all_done_later, lines_later, wait_tells}
use Rattle.mpx_rank.proofs.Words.{answers_done, attempt_same, bound_behind, bound_there, communicator_same, found_behind, lines_told}

some_there : {A : Type 0} (o : Option A) → is_some o ≡ true → (x : A) × (o ≡ Some x)
some_there None e = cc e
some_there (Some x) e = (x, refl)

-- WHAT A CARRIER SAYS

-- the communicator on which a statement of the rank is tried is the one that its word is bound to
abbrev pub IsOn : Local → Posting → Option CommunicatorView → Type 0
IsOn s posting on = (c : CommunicatorView) → on ≡ Some c → named s.bound (communicator_word posting) ≡ Some (Communicator c.0 c.1)

-- what is said to the rank `me`, which stands there, by a carrier that fits it there: what it hears of others fits too; what it
-- tells is known; the communicator that a call gave is that of the known answer; a communicator is closed where the rank has
-- freed it, else known; and what is tried of the next statement comes to what the statement comes to. After a step of the rank
-- the carrier fits as After says
pub record GoesBy (ops : List Operation) {C : Type 0} (terms : Terms C CommunicatorView) (known : Results) (me : ℕ) (s : Local) (Fits : C → Type 0) (After : Local → C → Type 0) : Type 0 where
  pub hears : (c d : C) → Fits c → terms.hears c d → Fits d
  pub tells : (c : C) → Fits c → IsToldWithin (terms.tells c me) (outcomes_of known)
  pub gives : (c : C) → Fits c → (name : Name) (call : ℕ) (to : Option CommunicatorView) → terms.gives c me name call to → (answer : Answer) × (known name call ≡ Some answer) × (bound_as to ≡ bound_by answer.outcome answer.born)
  pub closes : (c : C) → Fits c → (communicator : CommunicatorView) → terms.closes c me communicator ≡ has_freed communicator.0 s.made
  pub knows : (c : C) → Fits c → (communicator : CommunicatorView) → terms.closes c me communicator ≡ false → terms.knows c communicator ≡ Some communicator
  pub quiet : (c : C) → Fits c → (t : Local) → step ops known s ≡ Some t → t.made ≡ s.made → After t c
  pub posts : (c d : C) → Fits c → (posting : Posting) (rest : List Todo) → s.todo ≡ Do (Post posting) ∷ rest → (on : Option CommunicatorView) → IsOn s posting on
      → (name : Name) (call : ℕ) → terms.tries c me posting on (Ok (Some (name, call))) d
      → (m : Made) × (attempt_by ops me s.made posting on ≡ Ok m) × (name ≡ m.name) × (call ≡ next_call m.name s.made) × ((t : Local) → step ops known s ≡ Some t → t.made ≡ s.made ++ m ∷ [] → After t d)
  pub refuses : (c d : C) → Fits c → (posting : Posting) (rest : List Todo) → s.todo ≡ Do (Post posting) ∷ rest → (on : Option CommunicatorView) → IsOn s posting on
      → (refusal : PostError) → (refusal ≡ OutOfMemory → ⊥) → terms.tries c me posting on (Err refusal) d
      → (attempt_by ops me s.made posting on ≡ Err refusal) × ((t : Local) → step ops known s ≡ Some t → t.made ≡ s.made → After t d)
  pub not_now : (c d : C) → Fits c → (posting : Posting) (rest : List Todo) → s.todo ≡ Do (Post posting) ∷ rest → (on : Option CommunicatorView) → IsOn s posting on → terms.tries c me posting on (Ok None) d → Fits d

-- what a carrier told a rank it still tells when it has heard of others, and when it has tried a post
pub record StaysTold {C : Type 0} (terms : Terms C CommunicatorView) (me : ℕ) : Type 0 where
  pub heard : (c d : C) → terms.hears c d → IsToldWithin (terms.tells c me) (terms.tells d me)
  pub tried : (c d : C) (posting : Posting) (on : Option CommunicatorView) (result : _) → terms.tries c me posting on result d → IsToldWithin (terms.tells c me) (terms.tells d me)

-- each line of the rank that tells an outcome was told by the carrier
abbrev pub TellsLines : {C : Type 0} → Terms C CommunicatorView → (me : ℕ) → C → Local → Type 0
TellsLines terms me c s = (i : ℕ) (name : Name) (call : ℕ) (outcome : Outcome) → slice_get s.lines i ≡ Some (Told name call outcome) → terms.tells c me name call ≡ Some outcome

-- the rank has made the step of its script, from there and the carrier c, and now stands at r, with the carrier d
pub record Stepped (ops : List Operation) {C : Type 0} (terms : Terms C CommunicatorView) (known : Results) (me : ℕ) (s : Local) (c : C) (After : Local → C → Type 0) (r : RankView CommunicatorView) (d : C) : Type 0 where
  pub to : Local
  pub steps : step ops known s ≡ Some to
  pub stands : StandsInScript r to
  pub fits : After to d
  pub tells : StaysTold terms me → TellsLines terms me c s → TellsLines terms me d to

-- ONE MOVE

module _ (ops : List Operation) {C : Type 0} (terms : Terms C CommunicatorView) (known : Results) (r : RankView CommunicatorView) (s : Local) (stands : StandsInScript r s) (local_me : s.me ≡ r.me) (Fits : C → Type 0) (After : Local → C → Type 0) (by : GoesBy ops terms known r.me s Fits After) where
  todo_is : (waits : Option WaitView) (todo : List Statement) → r.waits ≡ waits → r.todo ≡ todo → s.todo ≡ todo_of waits todo
  todo_is waits todo w e = stands.todo ∙ λ i. todo_of (w i) (e i)

  line_so : (x line : Line) → x ≡ line → r.lines ++ x ∷ [] ≡ s.lines ++ line ∷ []
  line_so x line e = λ i. stands.lines i ++ e i ∷ []

  origins_so : (n m : ℕ) → n ≡ m → r.origins ++ origins_of (awaited r.waits + length r.todo) n ≡ s.origins ++ origins_of (length s.todo) m
  origins_so n m e = λ i. stands.origins i ++ origins_of ((sym (todo_length r.waits r.todo) ∙ ap length (sym stands.todo)) i) (e i)

  -- what the lines of an act tell is told
  abbrev News : Act → C → Type 0
  News a d = (i : ℕ) (name : Name) (call : ℕ) (outcome : Outcome) → slice_get a.lines i ≡ Some (Told name call outcome) → terms.tells d r.me name call ≡ Some outcome

  stepped : (c d : C) (new : RankView CommunicatorView) (a : Act) → step ops known s ≡ Some (done s a) → StandsInScript new (done s a) → After (done s a) d → (StaysTold terms r.me → IsToldWithin (terms.tells c r.me) (terms.tells d r.me)) → (StaysTold terms r.me → News a d) → Stepped ops terms known r.me s c After new d
  stepped c d new a e there fits within news = record {
    to = done s a;
    steps = e;
    stands = there;
    fits = fits;
    tells = λ stay lines i name call outcome told. elim (slice_get-parts s.lines a.lines i (Told name call outcome) told) [
      | inl old ↦ within stay name call outcome (lines i name call outcome old)
      | inr new ↦ news stay new.0 name call outcome new.1
    ];
  }

  no_news : (a : Act) (d : C) → a.lines ≡ [] → News a d
  no_news a d e i name call outcome f = let g : slice_get [] i ≡ Some (Told name call outcome) = ap (λ l. slice_get l i) (sym e) ∙ f in cc g

  one_line : (a : Act) (d : C) (line : Line) → a.lines ≡ line ∷ [] → ((name : Name) (call : ℕ) (outcome : Outcome) → line ≡ Told name call outcome → terms.tells d r.me name call ≡ Some outcome) → News a d
  one_line a d line e tell i name call outcome f = by_place i (ap (λ l. slice_get l i) (sym e) ∙ f) where
    by_place : (i : ℕ) → slice_get (line ∷ []) i ≡ Some (Told name call outcome) → terms.tells d r.me name call ≡ Some outcome
    by_place zero g = tell name call outcome (same_Some line (Told name call outcome) g)
    by_place (suc i) g = cc g

  requests_are : r.requests ≡ named s.requests
  requests_are = λ i word. stands.requests word i

  is_on : (posting : Posting) → IsOn s posting (communicator_in (r.bound (communicator_word posting)))
  is_on posting c e = sym (stands.bound (communicator_word posting)) ∙ bound_there (r.bound (communicator_word posting)) c e

  attempt_is : (posting : Posting) → attempt ops s.me s.bound s.made posting ≡ attempt_by ops r.me s.made posting (communicator_in (r.bound (communicator_word posting)))
  attempt_is posting =
      attempt_same ops s.me s.made posting (named s.bound (communicator_word posting))
      ∙ λ i. attempt_by ops (local_me i) s.made posting ((ap communicator_of (sym (stands.bound (communicator_word posting))) ∙ communicator_same (r.bound (communicator_word posting))) i)

  -- it hears the outcome that it waits for
  hears_steps : (c d : C) → Fits c → (w : WaitView) (outcome : Outcome) (to : Option CommunicatorView) → r.waits ≡ Some w → terms.hears c d → terms.tells d r.me w.name w.call ≡ Some outcome → terms.gives d r.me w.name w.call to
      → Stepped ops terms known r.me s c After (heard r w outcome to) d
  hears_steps c d fits w outcome to waits h tells gives =
      let fits_now = by.hears c d fits h in
      let given = by.gives d fits_now w.name w.call to gives in
      let answer : Answer = given.0 in
      let same : answer.outcome ≡ outcome = same_Some answer.outcome outcome (sym (ap (option_map (λ (a : Answer). a.outcome)) given.1) ∙ by.tells d fits_now w.name w.call outcome tells) in
      let a : Act = S.heard s w.name w.call w.target (doing r.todo) answer in
      let e : step ops known s ≡ Some (done s a) = S.step_hears ops known s w.name w.call w.target (doing r.todo) answer (todo_is (Some w) r.todo waits refl) given.1 in
      stepped c d (heard r w outcome to) a e
      (record { bound = λ word. bound_behind w.target to r.bound s.bound stands.bound word ∙ ap (λ x. named (bind w.target x s.bound) word) given.2; requests = stands.requests; todo = refl; lines = line_so (Told w.name w.call outcome) (Told w.name w.call answer.outcome) (ap (Told w.name w.call) (sym same)); origins = origins_so 1 1 refl })
      (by.quiet d fits_now (done s a) e (append-nil s.made))
      (λ stay. stay.heard c d h)
      (λ stay. one_line a d (Told w.name w.call answer.outcome) refl (λ name call o is. let now : terms.tells d r.me w.name w.call ≡ Some answer.outcome = tells ∙ ap Some (sym same) in cc (is, now)))

  -- its question is answered
  asks_steps : (c : C) → Fits c → (question : Question) (rest : List Statement) → r.waits ≡ None → r.todo ≡ Ask question ∷ rest
      → Stepped ops terms known r.me s c After (answered r rest (answered_by r.me (found_by (terms.closes c r.me) (terms.knows c) r.bound) question)) c
  asks_steps c fits question rest waits todo =
      let there : (word : List ℕ) → found_by (terms.closes c r.me) (terms.knows c) r.bound word ≡ found_of s.made (named s.bound word) = λ word. found_behind s.made (terms.closes c r.me) (terms.knows c) (by.closes c fits) (by.knows c fits) (r.bound word) ∙ ap (found_of s.made) (stands.bound word) in
      let line : answered_by r.me (found_by (terms.closes c r.me) (terms.knows c) r.bound) question ≡ answer_line s.me s.bound s.made question = λ i. answered_by (sym local_me i) (λ word. there word i) question in
      let a : Act = S.told_at_once s question (doing rest) in
      let e : step ops known s ≡ Some (done s a) = S.step_asks ops known s question (doing rest) (todo_is None (Ask question ∷ rest) waits todo) in
      stepped c c (answered r rest (answered_by r.me (found_by (terms.closes c r.me) (terms.knows c) r.bound) question)) a e
      (record { bound = stands.bound; requests = stands.requests; todo = refl; lines = line_so (answered_by r.me (found_by (terms.closes c r.me) (terms.knows c) r.bound) question) (answer_line s.me s.bound s.made question) line; origins = origins_so 1 1 refl })
      (by.quiet c fits (done s a) e (append-nil s.made))
      (λ stay name call outcome told. told)
      (λ stay. one_line a c (answer_line s.me s.bound s.made question) refl (λ name call outcome is. absurd (answer_no_call name call outcome s.me (λ word. found_of s.made (named s.bound word)) question is)))

  -- it passes a wait
  passes_steps : (c mid d : C) → Fits c → (words : List (List ℕ)) (rest : List Statement) → r.waits ≡ None → r.todo ≡ Wait words ∷ rest → terms.hears c mid → are_done (terms.tells mid r.me) r.requests words ≡ true → terms.hears mid d
      → Stepped ops terms known r.me s c After (waited r words rest (terms.tells mid r.me)) d
  passes_steps c mid d fits words rest waits todo before all after =
      let fits_then = by.hears c mid fits before in
      let within = by.tells mid fits_then in
      let all_known : are_done (outcomes_of known) r.requests words ≡ true = all_done_later (terms.tells mid r.me) (outcomes_of known) within r.requests words all in
      let told = some_there (answers known (awaited_by s.requests words)) (answers_done known words s.requests ∙ (λ i. are_done (outcomes_of known) (sym requests_are i) words) ∙ all_known) in
      let lines : wait_lines (terms.tells mid r.me) r.requests words ≡ waited_lines s.requests words told.0 =
      sym (lines_later (terms.tells mid r.me) (outcomes_of known) within r.requests words all)
      ∙ (λ i. wait_lines (outcomes_of known) (requests_are i) words)
      ∙ sym (lines_told known words s.requests told.0 told.1) in
      let a : Act = S.waited s words (doing rest) told.0 in
      let e : step ops known s ≡ Some (done s a) = S.step_passes ops known s words (doing rest) told.0 (todo_is None (Wait words ∷ rest) waits todo) told.1 in
      stepped c d (waited r words rest (terms.tells mid r.me)) a e
      (record { bound = stands.bound; requests = named_without_all words s.requests r.requests stands.requests; todo = refl; lines = λ i. stands.lines i ++ lines i; origins = origins_so (length words) (length (waited_lines s.requests words told.0)) (sym (wait_lines-length (terms.tells mid r.me) r.requests words) ∙ ap length lines) })
      (by.quiet d (by.hears mid d fits_then after) (done s a) e (append-nil s.made))
      (λ stay name call outcome old. stay.heard mid d after name call outcome (stay.heard c mid before name call outcome old))
      (λ stay i name call outcome new. stay.heard mid d after name call outcome (wait_tells (terms.tells mid r.me) name call outcome r.requests words i (ap (λ l. slice_get l i) lines ∙ new)))

  module _ (c d : C) (fits : Fits c) (posting : Posting) (rest : List Statement) (waits : r.waits ≡ None) (todo : r.todo ≡ Post posting ∷ rest) where
    next_is : s.todo ≡ Do (Post posting) ∷ doing rest
    next_is = todo_is None (Post posting ∷ rest) waits todo

    abbrev on : Option CommunicatorView
    on = communicator_in (r.bound (communicator_word posting))

    -- it posts, and waits
    posts_steps : (name : Name) (call : ℕ) → started_as posting ≡ None → terms.tries c r.me posting on (Ok (Some (name, call))) d → Stepped ops terms known r.me s c After (posted r posting rest name call) d
    posts_steps name call none tried =
        let came = by.posts c d fits posting (doing rest) next_is on (is_on posting) name call tried in
        let m : Made = came.0 in
        let a : Act = S.posted s (bound_to posting) (doing rest) m in
        let e : step ops known s ≡ Some (done s a) = S.step_posts ops known s posting (doing rest) m next_is none (attempt_is posting ∙ came.1) in
        stepped c d (posted r posting rest name call) a e
        (record { bound = stands.bound; requests = stands.requests; todo = λ i. todo_of (Some (record { name = sym came.2 i; call = sym came.3 i; target = bound_to posting })) rest; lines = stands.lines ∙ sym (append-nil s.lines); origins = stands.origins ∙ sym (append-nil s.origins) })
        (came.4 (done s a) e refl)
        (λ stay. stay.tried c d posting on (Ok (Some (name, call))) tried)
        (λ stay. no_news a d refl)

    -- it posts, and its request is open
    starts_steps : (word : List ℕ) (name : Name) (call : ℕ) → started_as posting ≡ Some word → terms.tries c r.me posting on (Ok (Some (name, call))) d → Stepped ops terms known r.me s c After (started r word rest name call) d
    starts_steps word name call open_as tried =
        let came = by.posts c d fits posting (doing rest) next_is on (is_on posting) name call tried in
        let m : Made = came.0 in
        let place : (name, call) ≡ (m.name, next_call m.name s.made) = λ i. (came.2 i, came.3 i) in
        let a : Act = S.started s word (doing rest) m in
        let e : step ops known s ≡ Some (done s a) = S.step_starts ops known s posting (doing rest) word m next_is open_as (attempt_is posting ∙ came.1) in
        stepped c d (started r word rest name call) a e
        (record { bound = stands.bound; requests = λ other. (λ i. binds (Some word) (place i) (requests_are i) other) ∙ sym (named_behind s.requests word (m.name, next_call m.name s.made) other); todo = refl; lines = stands.lines ∙ sym (append-nil s.lines); origins = stands.origins ∙ sym (append-nil s.origins) })
        (came.4 (done s a) e refl)
        (λ stay. stay.tried c d posting on (Ok (Some (name, call))) tried)
        (λ stay. no_news a d refl)

    -- it is refused
    refused_steps : (refusal : PostError) → (refusal ≡ OutOfMemory → ⊥) → terms.tries c r.me posting on (Err refusal) d → Stepped ops terms known r.me s c After (refused r posting rest refusal) d
    refused_steps refusal other tried =
        let came = by.refuses c d fits posting (doing rest) next_is on (is_on posting) refusal other tried in
        let a : Act = S.turned_down s (bound_to posting) (doing rest) refusal in
        let e : step ops known s ≡ Some (done s a) = S.step_refused ops known s posting (doing rest) refusal next_is (attempt_is posting ∙ came.0) in
        stepped c d (refused r posting rest refusal) a e
        (record { bound = bound_behind (bound_to posting) None r.bound s.bound stands.bound; requests = stands.requests; todo = refl; lines = line_so (Refused refusal) (Refused refusal) refl; origins = origins_so 1 1 refl })
        (came.1 (done s a) e (append-nil s.made))
        (λ stay. stay.tried c d posting on (Err refusal) tried)
        (λ stay. one_line a d (Refused refusal) refl (λ name call outcome is. cc is))

  -- a move is the step of its script
  pub move_steps : (c : C) (new : RankView CommunicatorView) (d : C) → Fits c → Move terms r c new d → Stepped ops terms known r.me s c After new d
  move_steps c new d fits (hears w outcome to waits h tells gives) = hears_steps c d fits w outcome to waits h tells gives
  move_steps c new d fits (posts posting rest name call waits todo none tried) = posts_steps c d fits posting rest waits todo name call none tried
  move_steps c new d fits (starts posting rest word name call waits todo open_as tried) = starts_steps c d fits posting rest waits todo word name call open_as tried
  move_steps c new d fits (is_refused posting rest refusal waits todo other tried) = refused_steps c d fits posting rest waits todo refusal other tried
  move_steps c new d fits (passes {mid = mid} words rest waits todo before all after) = passes_steps c mid d fits words rest waits todo before all after
  move_steps c new d fits (asks question rest waits todo) = asks_steps c fits question rest waits todo

  -- without a move the carrier still fits
  pub still_fits : (c d : C) → Fits c → Still terms r c d → Fits d × (StaysTold terms r.me → IsToldWithin (terms.tells c r.me) (terms.tells d r.me))
  still_fits c d fits (has_ended waits todo) = (fits, λ stay name call outcome told. told)
  still_fits c d fits (waits_on w waits h none) = (by.hears c d fits h, λ stay. stay.heard c d h)
  still_fits c d fits (passes_not {mid = mid} words rest waits todo before undone after) = (
    by.hears mid d (by.hears c mid fits before) after,
    λ stay name call outcome old. stay.heard mid d after name call outcome (stay.heard c mid before name call outcome old),
  )
  still_fits c d fits (posts_not posting rest waits todo tried) = (
    by.not_now c d fits posting (doing rest) (todo_is None (Post posting ∷ rest) waits todo) (communicator_in (r.bound (communicator_word posting))) (is_on posting) tried,
    λ stay. stay.tried c d posting (communicator_in (r.bound (communicator_word posting))) (Ok None) tried,
  )

-- MANY MOVES

-- who it is doesn't change
pub move_keeps : {C K : Type 0} (terms : Terms C K) (r : RankView K) (c : C) (s : RankView K) (d : C) → Move terms r c s d → s.me ≡ r.me
move_keeps terms r c s d (hears w outcome to waits h tells gives) = refl
move_keeps terms r c s d (posts posting rest name call waits todo none tried) = refl
move_keeps terms r c s d (starts posting rest word name call waits todo open_as tried) = refl
move_keeps terms r c s d (is_refused posting rest refusal waits todo other tried) = refl
move_keeps terms r c s d (passes words rest waits todo before all after) = refl
move_keeps terms r c s d (asks question rest waits todo) = refl

-- the rank has come there by steps of its script, from where it stood with the carrier c, and now stands at r, with the carrier d
pub record Came (ops : List Operation) {C : Type 0} (terms : Terms C CommunicatorView) (known : Results) (me : ℕ) (s : Local) (c : C) (Fits : Local → C → Type 0) (r : RankView CommunicatorView) (d : C) : Type 0 where
  pub to : Local
  pub goes : Goes ops known s to
  pub me_is : r.me ≡ me
  pub local_me : to.me ≡ me
  pub stands : StandsInScript r to
  pub fits : Fits to d
  pub tells : StaysTold terms me → TellsLines terms me c s → TellsLines terms me d to

module _ (ops : List Operation) {C : Type 0} (terms : Terms C CommunicatorView) (known : Results) (me : ℕ) (Fits : Local → C → Type 0) (by : (s : Local) → s.me ≡ me → GoesBy ops terms known me s (Fits s) Fits) where
  module _ (r : RankView CommunicatorView) (s : Local) (me_is : r.me ≡ me) (local_me : s.me ≡ me) (stands : StandsInScript r s) where
    goes_by : GoesBy ops terms known r.me s (Fits s) Fits
    goes_by = subst (λ p. GoesBy ops terms known p s (Fits s) Fits) (sym me_is) (by s local_me)

    pub moves_once : (c : C) (new : RankView CommunicatorView) (d : C) → Fits s c → Move terms r c new d → Stepped ops terms known me s c Fits new d
    moves_once c new d fits move = subst (λ p. Stepped ops terms known p s c Fits new d) me_is (move_steps ops terms known r s stands (local_me ∙ sym me_is) (Fits s) Fits goes_by c new d fits move)

    pub stands_still : (c d : C) → Fits s c → Still terms r c d → Fits s d × (StaysTold terms me → IsToldWithin (terms.tells c me) (terms.tells d me))
    stands_still c d fits still = subst (λ p. Fits s d × (StaysTold terms p → IsToldWithin (terms.tells c p) (terms.tells d p))) me_is (still_fits ops terms known r s stands (local_me ∙ sym me_is) (Fits s) Fits goes_by c d fits still)

  module _ (r : RankView CommunicatorView) (s : Local) (me_is : r.me ≡ me) (local_me : s.me ≡ me) (stands : StandsInScript r s) where
    -- moves, one after the other
    pub ran_goes : (c : C) (new : RankView CommunicatorView) (d : C) (moved : Bool) → Fits s c → Ran terms r c new d moved → Came ops terms known me s c Fits new d
    ran_goes c new d moved fits stayed = record { to = s; goes = stays_there; me_is = me_is; local_me = local_me; stands = stands; fits = fits; tells = λ stay lines. lines }
    ran_goes c new d moved fits (moved_on {s = mid} {d = before} {moved = earlier} ran move) = then (ran_goes c mid before earlier fits ran) where
      then : Came ops terms known me s c Fits mid before → Came ops terms known me s c Fits new d
      then came =
          let one = moves_once mid came.to came.me_is came.local_me came.stands before new d came.fits move in
          record {
            to = one.to;
            goes = moves came.goes one.steps;
            me_is = move_keeps terms mid before new d move ∙ came.me_is;
            local_me = S.step-keeps ops known came.to one.to one.steps ∙ came.local_me;
            stands = one.stands;
            fits = one.fits;
            tells = λ stay lines. one.tells stay (came.tells stay lines);
          }

    -- and until there is none
    pub goes_on_goes : (c : C) (new : RankView CommunicatorView) (d : C) (moved : Bool) → Fits s c → GoesOn terms r c new d moved → Came ops terms known me s c Fits new d
    goes_on_goes c new d moved fits run =
        let came = ran_goes c new run.0 moved fits run.1 in
        let last = stands_still new came.to came.me_is came.local_me came.stands run.0 d came.fits run.2 in
        record {
          to = came.to;
          goes = came.goes;
          me_is = came.me_is;
          local_me = came.local_me;
          stands = came.stands;
          fits = last.0;
          tells = λ stay lines i name call outcome told. last.1 stay name call outcome (came.tells stay lines i name call outcome told);
        }
