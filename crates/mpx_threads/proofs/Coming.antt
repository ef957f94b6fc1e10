-- A rank whose desk is a thread's comes where its script leads by the plan's posts.
use Rattle.std.proofs.Common.{◌≡◌, ℕ, zero, suc, ◌+◌, Bool, true, false, cond, List, [], ◌∷◌, ◌++◌, codes, take, Option, Some, None, refl, sym, ap, ◌∙◌, subst, arith}
use Rattle.std.specs.Prelude.{slice_get, bytes_eq, Ok, if◌then◌else◌}
use Rattle.std.specs.Option.{option_map}
use Rattle.mpx_num.specs.declared.own.Operation.{Operation}
use Rattle.mpx_name.specs.Name.{Name}
use Rattle.mpx_value.specs.declared.outcomes.Outcome.{Outcome}
use Rattle.mpx_value.specs.Histories.{Answer, Made, Results, has_freed}
use Rattle.mpx_statement.specs.declared.statement.Posting.{Posting}
use Rattle.mpx_statement.specs.declared.statement.Statement.{Statement}
use Rattle.mpx_statement.specs.declared.statement.Statement.TheVariants.{Post}
use Rattle.mpx_statement.specs.Statements.{bound_to, communicator_word, started_as}
use Rattle.mpx_statement.specs.Lookups.{named}
use Rattle.mpx_meaning.specs.Ranks.{Communicator, Do, Local, attempt, communicator_of, doing, done, next_call, step}
use Rattle.mpx_meaning.specs.Evaluation.{known, start_state, statements_of, world_of, IsPrefixOf}
use Rattle.mpx_meaning.specs.Going.{Goes, stays, moves}
use Rattle.mpx_meaning.specs.Ends.{EndView}
use Rattle.mpx_meaning.specs.Standing.{todo_of}
use Rattle.mpx_meaning.proofs.Going.{goes-adds, goes-there}
use Rattle.mpx_meaning.proofs.Steps.{posted, started, step_posts, step_starts}
use Rattle.mpx_bus.specs.declared.act.Setup.{Setup}
use Rattle.mpx_bus.specs.Rule.{planned_posts}
use Rattle.mpx_rank.specs.Carriers.{IsToldWithin, Terms, outcomes_of}
use Rattle.mpx_rank.specs.Moves.{GoesOn, MayGo, RankView, bound_first, communicator_in}
use Rattle.mpx_rank.specs.Places.{CommunicatorView, StandsInScript, attempt_by, bound_as, end_of_rank}
use Rattle.mpx_rank.proofs.RankEnds.{end_stands}
use Rattle.mpx_rank.proofs.Stepping.{Came, GoesBy, StaysTold, goes_on_goes, ran_goes}
use Rattle.mpx_rank.proofs.Words.{attempt_same, bound_there, communicator_same}
use Rattle.mpx_script.specs.ScriptView.{ScriptView}
use Rattle.mpx_threads.specs.declared.told.ToldCall.{ToldCall}
use Rattle.mpx_threads.specs.Plans.{Plans, planned_results}
use Rattle.mpx_threads.specs.ToldCalls.{DeskView, MayPost, first_posts, is_among, thread_terms, told_more, told_of}
use Rattle.mpx_threads.specs.Work.{HasCome}
use Rattle.mpx_threads.proofs.Plans.{births_are, planned_is, posts_are, results_are}

-- TOLD

-- what was told is the plan's
planned_told : (known : Results) (ts : List ToldCall) (name : Name) (call : ℕ) (outcome : Outcome) → outcomes_of (told_of known ts) name call ≡ Some outcome → outcomes_of known name call ≡ Some outcome
planned_told known ts name call outcome e = by_test (is_among ts name call) e where
  by_test : (b : Bool) → option_map (λ (a : Answer). a.outcome) (cond b (known name call) None) ≡ Some outcome → option_map (λ (a : Answer). a.outcome) (known name call) ≡ Some outcome
  by_test true f = f
  by_test false f = cc f

-- LISTS

-- where more follows the first of a list and one more, that one is the next
taken_next : {A : Type 0} (n : ℕ) (xs : List A) (x : A) (rest : List A) → (take n xs ++ x ∷ []) ++ rest ≡ xs → slice_get xs n ≡ Some x
taken_next zero xs x rest e = ap (λ l. slice_get l 0) (sym e)
taken_next (suc n) [] x rest e = cc e
taken_next (suc n) (y ∷ xs) x rest e = taken_next n xs x rest (cc e)

taken_more : {A : Type 0} (n : ℕ) (xs : List A) (x : A) → slice_get xs n ≡ Some x → take (suc n) xs ≡ take n xs ++ x ∷ []
taken_more n [] x e = cc e
taken_more zero (y ∷ xs) x e = let same : y ≡ x = cc e in ap (λ z. z ∷ []) same
taken_more (suc n) (y ∷ xs) x e = ap (λ l. y ∷ l) (taken_more n xs x e)

-- WHAT THE DESK SAYS

told_known : (known : Results) (told : List ToldCall) (name : Name) (call : ℕ) (answer : Answer) → told_of known told name call ≡ Some answer → known name call ≡ Some answer
told_known known told name call answer e = by_test (is_among told name call) e where
  by_test : (b : Bool) → cond b (known name call) None ≡ Some answer → known name call ≡ Some answer
  by_test true f = f
  by_test false f = cc f

outcomes_known : (known : Results) (told : List ToldCall) → IsToldWithin (outcomes_of (told_of known told)) (outcomes_of known)
outcomes_known known told name call outcome e = by_test (is_among told name call) e where
  by_test : (b : Bool) → option_map (λ (a : Answer). a.outcome) (cond b (known name call) None) ≡ Some outcome → outcomes_of known name call ≡ Some outcome
  by_test true f = f
  by_test false f = cc f

module _ (script : ScriptView) (relays : ℕ) (setup : Setup) (plan : Plans script relays setup) (me before : ℕ) (ledger : Type 0) (operations : List Operation) (lent : operations ≡ setup.operations) where
  abbrev by : Results
  by = planned_results setup me

  abbrev terms : Terms DeskView CommunicatorView
  terms = thread_terms operations setup me before ledger

  abbrev first : Local
  first = start_state script.statements script.ranks me

  -- the rank has come there, and the desk has made its posts
  record Fits (s : Local) (d : DeskView) : Type 0 where
    made : s.made ≡ first_posts setup me (before + d.1)
    goes : Goes setup.operations by first s

  goes_there : (s : Local) → Goes setup.operations by first s → Goes setup.operations (known setup.operations script.ranks plan.end me) first s
  goes_there s g = subst (λ r. Goes setup.operations r first s) (results_are script relays setup plan me) g

  -- one post more, to which a step leads, is the plan's next
  next_is : (s : Local) (d : DeskView) → Fits s d → (m : Made) (t : Local) → step setup.operations by s ≡ Some t → t.made ≡ s.made ++ m ∷ [] → slice_get (planned_posts setup me) (before + d.1) ≡ Some m
  next_is s d fits m t e made =
      let prefix : IsPrefixOf t.made (plan.end me).made = (goes-adds setup.operations script.statements script.ranks plan.end plan.evaluation me t (goes_there t (moves fits.goes e))).0 in
      taken_next (before + d.1) (planned_posts setup me) m prefix.0 (ap (λ l. (l ++ m ∷ []) ++ prefix.0) (sym fits.made) ∙ ap (λ l. l ++ prefix.0) (sym made) ∙ prefix.1 ∙ sym (posts_are script relays setup plan me))

  fits_more : (s : Local) (c d : DeskView) → Fits s c → (m : Made) (t : Local) → step setup.operations by s ≡ Some t → t.made ≡ s.made ++ m ∷ [] → d.1 ≡ c.1 + 1 → Fits t d
  fits_more s c d fits m t e made count =
      let more : before + d.1 ≡ suc (before + c.1) = omega (arith, count) in
      record {
        made = made ∙ ap (λ l. l ++ m ∷ []) fits.made ∙ sym (taken_more (before + c.1) (planned_posts setup me) m (next_is s c fits m t e made)) ∙ ap (first_posts setup me) (sym more);
        goes = moves fits.goes e;
      }

  fits_same : (s : Local) (c d : DeskView) → Fits s c → d.1 ≡ c.1 → Fits s d
  fits_same s c d fits count = record { made = fits.made ∙ ap (λ n. first_posts setup me (before + n)) (sym count); goes = fits.goes }

  fits_quiet : (s : Local) (c d : DeskView) → Fits s c → (t : Local) → step setup.operations by s ≡ Some t → t.made ≡ s.made → d.1 ≡ c.1 → Fits t d
  fits_quiet s c d fits t e made count = record { made = made ∙ fits.made ∙ ap (λ n. first_posts setup me (before + n)) (sym count); goes = moves fits.goes e }

  goes_by : (s : Local) → s.me ≡ me → GoesBy setup.operations terms by me s (Fits s) Fits
  goes_by s local_me = record {
    hears = λ c d fits h. fits_same s c d fits h.1;
    tells = λ c fits. outcomes_known by c.0;
    gives = λ c fits name call to given. (given.0, told_known by c.0 name call given.0 given.1, given.2);
    closes = λ c fits communicator. ap (has_freed communicator.0) (sym fits.made);
    knows = λ c fits communicator unfreed. refl;
    quiet = λ c fits t e made. fits_quiet s c c fits t e made refl;
    posts = λ c d fits posting rest todo on is_on name call tried.
        let m : Made = tried.1.0 in
        (m, ap (λ l. attempt_by setup.operations me l posting on) fits.made ∙ tried.1.1, tried.1.2, tried.1.3 ∙ ap (next_call m.name) (sym fits.made), λ t e made. fits_more s c d fits m t e made tried.1.4);
    refuses = λ c d fits posting rest todo on is_on refusal other tried.
        let refused = tried.1 other in
        (ap (λ l. attempt_by setup.operations me l posting on) fits.made ∙ refused.0, λ t e made. fits_quiet s c d fits t e made refused.1);
    not_now = λ c d fits posting rest todo on is_on tried. fits_same s c d fits tried.1;
  }

  stay : StaysTold terms me
  stay = record {
    heard = λ c d h. told_more by c.0 d.0 h.0;
    tried = λ c d posting on result tried. subst (λ told. IsToldWithin (outcomes_of (told_of by c.0)) (outcomes_of (told_of by told))) (sym tried.0) (λ name call outcome e. e);
  }

  -- THE NEXT POST

  module _ (s : Local) (d : DeskView) (fits : Fits s d) (r : RankView CommunicatorView) (stands : StandsInScript r s) (local_me : s.me ≡ me) (posting : Posting) (rest : List Statement) (waits : r.waits ≡ None) (todo : r.todo ≡ Post posting ∷ rest) where
    abbrev on : Option CommunicatorView
    on = communicator_in (r.bound (communicator_word posting))

    next_todo : s.todo ≡ Do (Post posting) ∷ doing rest
    next_todo = stands.todo ∙ λ i. todo_of (waits i) (todo i)

    attempt_is : attempt setup.operations s.me s.bound s.made posting ≡ attempt_by setup.operations me s.made posting on
    attempt_is =
        attempt_same setup.operations s.me s.made posting (named s.bound (communicator_word posting))
        ∙ λ i. attempt_by setup.operations (local_me i) s.made posting ((ap communicator_of (sym (stands.bound (communicator_word posting))) ∙ communicator_same (r.bound (communicator_word posting))) i)

    posts_next : (m : Made) → attempt_by setup.operations me s.made posting on ≡ Ok m → (w : Option (List ℕ)) → started_as posting ≡ w → slice_get (planned_posts setup me) (before + d.1) ≡ Some m
    posts_next m e None f = next_is s d fits m (done s (posted s (bound_to posting) (doing rest) m)) (step_posts setup.operations by s posting (doing rest) m next_todo f (attempt_is ∙ e)) refl
    posts_next m e (Some word) f = next_is s d fits m (done s (started s word (doing rest) m)) (step_starts setup.operations by s posting (doing rest) word m next_todo f (attempt_is ∙ e)) refl

    may_post : MayPost setup me (before + d.1) posting on
    may_post = record {
      planned = planned_is script relays setup plan;
      born = λ c e.
          let there = goes-there setup.operations script.statements script.ranks plan.end me s (goes_there s fits.goes) (communicator_word posting) c.0 c.1 (sym (stands.bound (communicator_word posting)) ∙ bound_there (r.bound (communicator_word posting)) c e) in
          births_are script relays setup plan c.0 ∙ there.born;
      next = λ m e. posts_next m (ap (λ l. attempt_by setup.operations me l posting on) fits.made ∙ e) (started_as posting) refl;
    }

  -- ALL MOVES

  module _ (whole : ledger) (none : before ≡ 0) (r : RankView CommunicatorView) (me_is : r.me ≡ me) (stands : StandsInScript r first) (c : DeskView) (new : c.1 ≡ 0) where
    fits_first : Fits first c
    fits_first = record { made = let zero_is : before + c.1 ≡ 0 = omega (arith, none, new) in ap (first_posts setup me) (sym zero_is); goes = stays }

    pub may_go : MayGo terms r c
    may_go s d moved ran posting rest waits todo =
        let came : Came setup.operations terms by me first c Fits s d = ran_goes setup.operations terms by me Fits goes_by r first me_is refl stands c s d moved fits_first ran in
        (whole, (lent, may_post came.to d came.fits s came.stands came.local_me posting rest waits todo))

    pub has_come : (s : RankView CommunicatorView) (d : DeskView) (moved : Bool) → GoesOn terms r c s d moved → (end : EndView) → end ≡ end_of_rank s → HasCome script setup me d.1 end
    has_come s d moved on end is =
        let came : Came setup.operations terms by me first c Fits s d = goes_on_goes setup.operations terms by me Fits goes_by r first me_is refl stands c s d moved fits_first on in
        let count : before + d.1 ≡ d.1 = omega (arith, none) in
        record {
          to = came.to;
          goes = came.fits.goes;
          end_is = is ∙ end_stands s came.to came.stands;
          made_is = came.fits.made ∙ ap (first_posts setup me) count;
          tells = λ i name call outcome e. planned_told (planned_results setup me) d.0 name call outcome (came.tells stay (λ i name call outcome e. cc e) i name call outcome e);
        }

-- THE START

-- before its statements a rank stands at the start of its script
pub stands_first : (script : ScriptView) (me : ℕ) (r : RankView CommunicatorView) → ((word : List ℕ) → r.bound word ≡ bound_first (Some ([], world_of script.ranks)) word) → ((word : List ℕ) → r.requests word ≡ None)
    → r.todo ≡ statements_of script.statements me → r.waits ≡ None → r.lines ≡ [] → r.origins ≡ [] → StandsInScript r (start_state script.statements script.ranks me)
stands_first script me r bound requests todo waits lines origins = record {
  bound = λ word. ap (option_map bound_as) (bound word) ∙ by_test word (bytes_eq word (codes "world"));
  requests = requests;
  todo = ap doing (sym todo) ∙ ap (λ w. todo_of w r.todo) (sym waits);
  lines = lines;
  origins = origins;
} where
  by_test : (word : List ℕ) (b : Bool) → option_map bound_as (cond b (Some (Some ([], world_of script.ranks))) None) ≡ (if b then Some (Communicator [] (world_of script.ranks)) else None)
  by_test word true = refl
  by_test word false = refl
