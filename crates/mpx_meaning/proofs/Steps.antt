-- The steps of one rank, by what it does next.
use Rattle.std.proofs.Common.{◌≡◌, ℕ, ◌<◌, List, [], ◌∷◌, ◌++◌, Option, Some, None, refl, sym, ap, ◌∙◌, subst, arith}
use Rattle.std.specs.Prelude.{Result, Ok, Err, option_and_then}
use Rattle.std.proofs.lemmas.Option.{same_Some}
use Rattle.mpx_num.specs.declared.own.Operation.{Operation}
use Rattle.mpx_name.specs.Name.{Name}
use Rattle.mpx_post.specs.declared.draft.PostError.{PostError}
use Rattle.mpx_value.specs.Histories.{Answer, Made, Results}
use Rattle.mpx_statement.specs.declared.statement.Posting.{Posting}
use Rattle.mpx_statement.specs.declared.statement.Question.{Question}
use Rattle.mpx_statement.specs.declared.statement.Statement.TheVariants.{Post, Wait, Ask}
use Rattle.mpx_statement.specs.Statements.{bound_to, started_as}
use Rattle.mpx_meaning.specs.Ranks.{Todo, Do, Await, Local, Act, NullCommunicator, Told, Refused, answered, answers, attempt, awaited_by, bind, bound_by, done, goes_out, next_call, next_by, posts_or_refuses, step_by, step, waited_lines, weights, without_all}

-- it hears an answer
abbrev pub heard : Local → Name → (call : ℕ) → (target : Option (List ℕ)) → List Todo → Answer → Act
heard s name call target rest answer = record { bound = bind target (bound_by answer.outcome answer.born) s.bound; requests = s.requests; todo = rest; made = []; lines = Told name call answer.outcome ∷ [] }

-- it makes a post, and waits
abbrev pub posted : Local → (target : Option (List ℕ)) → List Todo → Made → Act
posted s target rest m = record { bound = s.bound; requests = s.requests; todo = Await m.name (next_call m.name s.made) target ∷ rest; made = m ∷ []; lines = [] }

-- it makes a post, whose request is open from then on
abbrev pub started : Local → (word : List ℕ) → List Todo → Made → Act
started s word rest m = record { bound = s.bound; requests = s.requests ++ (word, (m.name, next_call m.name s.made)) ∷ []; todo = rest; made = m ∷ []; lines = [] }

-- it is refused
abbrev pub turned_down : Local → (target : Option (List ℕ)) → List Todo → PostError → Act
turned_down s target rest refusal = record { bound = bind target NullCommunicator s.bound; requests = s.requests; todo = rest; made = []; lines = Refused refusal ∷ [] }

-- it has waited for the requests of these words, which gave these answers
abbrev pub waited : Local → (words : List (List ℕ)) → List Todo → List Answer → Act
waited s words rest told = record { bound = s.bound; requests = without_all words s.requests; todo = rest; made = []; lines = waited_lines s.requests words told }

-- it is answered at once
abbrev pub told_at_once : Local → Question → List Todo → Act
told_at_once s question rest = record { bound = s.bound; requests = s.requests; todo = rest; made = []; lines = answered s.me s.bound s.made question ∷ [] }

module _ (ops : List Operation) (r : Results) (s : Local) where
  pub step_ends : s.todo ≡ [] → step ops r s ≡ None
  step_ends e = ap (λ todo. step_by r s (next_by ops s todo)) e

  pub step_hears : (name : Name) (call : ℕ) (target : Option (List ℕ)) (rest : List Todo) (answer : Answer) → s.todo ≡ Await name call target ∷ rest → r name call ≡ Some answer → step ops r s ≡ Some (done s (heard s name call target rest answer))
  step_hears name call target rest answer e f = ap (λ todo. step_by r s (next_by ops s todo)) e ∙ rw f

  pub step_waits : (name : Name) (call : ℕ) (target : Option (List ℕ)) (rest : List Todo) → s.todo ≡ Await name call target ∷ rest → r name call ≡ None → step ops r s ≡ None
  step_waits name call target rest e f = ap (λ todo. step_by r s (next_by ops s todo)) e ∙ rw f

  pub step_passes : (words : List (List ℕ)) (rest : List Todo) (told : List Answer) → s.todo ≡ Do (Wait words) ∷ rest → answers r (awaited_by s.requests words) ≡ Some told → step ops r s ≡ Some (done s (waited s words rest told))
  step_passes words rest told e f = ap (λ todo. step_by r s (next_by ops s todo)) e ∙ ap (option_and_then (λ (x : List Answer). Some (done s (waited s words rest x)))) f

  pub step_stays : (words : List (List ℕ)) (rest : List Todo) → s.todo ≡ Do (Wait words) ∷ rest → answers r (awaited_by s.requests words) ≡ None → step ops r s ≡ None
  step_stays words rest e f = ap (λ todo. step_by r s (next_by ops s todo)) e ∙ ap (option_and_then (λ (x : List Answer). Some (done s (waited s words rest x)))) f

  step_goes_out : (posting : Posting) (rest : List Todo) (m : Made) → s.todo ≡ Do (Post posting) ∷ rest → attempt ops s.me s.bound s.made posting ≡ Ok m → step ops r s ≡ Some (done s (goes_out s rest (bound_to posting) (started_as posting) m))
  step_goes_out posting rest m e f = ap (λ todo. step_by r s (next_by ops s todo)) e ∙ ap (λ x. step_by r s (posts_or_refuses s rest (bound_to posting) (started_as posting) x)) f

  pub step_posts : (posting : Posting) (rest : List Todo) (m : Made) → s.todo ≡ Do (Post posting) ∷ rest → started_as posting ≡ None → attempt ops s.me s.bound s.made posting ≡ Ok m → step ops r s ≡ Some (done s (posted s (bound_to posting) rest m))
  step_posts posting rest m e b f = step_goes_out posting rest m e f ∙ ap (λ w. let o : Option Local = Some (done s (goes_out s rest (bound_to posting) w m)) in o) b

  pub step_starts : (posting : Posting) (rest : List Todo) (word : List ℕ) (m : Made) → s.todo ≡ Do (Post posting) ∷ rest → started_as posting ≡ Some word → attempt ops s.me s.bound s.made posting ≡ Ok m → step ops r s ≡ Some (done s (started s word rest m))
  step_starts posting rest word m e b f = step_goes_out posting rest m e f ∙ ap (λ w. let o : Option Local = Some (done s (goes_out s rest (bound_to posting) w m)) in o) b

  pub step_refused : (posting : Posting) (rest : List Todo) (refusal : PostError) → s.todo ≡ Do (Post posting) ∷ rest → attempt ops s.me s.bound s.made posting ≡ Err refusal → step ops r s ≡ Some (done s (turned_down s (bound_to posting) rest refusal))
  step_refused posting rest refusal e f = ap (λ todo. step_by r s (next_by ops s todo)) e ∙ ap (λ x. step_by r s (posts_or_refuses s rest (bound_to posting) (started_as posting) x)) f

  pub step_asks : (question : Question) (rest : List Todo) → s.todo ≡ Do (Ask question) ∷ rest → step ops r s ≡ Some (done s (told_at_once s question rest))
  step_asks question rest e = ap (λ todo. step_by r s (next_by ops s todo)) e

-- what holds of a rank after each kind of step holds after its step
module _ (ops : List Operation) (r : Results) (s : Local) (P : Local → Type 0)
    (posts : (posting : Posting) (rest : List Todo) (m : Made) → s.todo ≡ Do (Post posting) ∷ rest → started_as posting ≡ None → attempt ops s.me s.bound s.made posting ≡ Ok m → P (done s (posted s (bound_to posting) rest m)))
    (starts : (posting : Posting) (rest : List Todo) (word : List ℕ) (m : Made) → s.todo ≡ Do (Post posting) ∷ rest → started_as posting ≡ Some word → attempt ops s.me s.bound s.made posting ≡ Ok m → P (done s (started s word rest m)))
    (refuses : (posting : Posting) (rest : List Todo) (refusal : PostError) → s.todo ≡ Do (Post posting) ∷ rest → attempt ops s.me s.bound s.made posting ≡ Err refusal → P (done s (turned_down s (bound_to posting) rest refusal)))
    (passes : (words : List (List ℕ)) (rest : List Todo) (told : List Answer) → s.todo ≡ Do (Wait words) ∷ rest → answers r (awaited_by s.requests words) ≡ Some told → P (done s (waited s words rest told)))
    (asks : (question : Question) (rest : List Todo) → s.todo ≡ Do (Ask question) ∷ rest → P (done s (told_at_once s question rest)))
    (hears : (name : Name) (call : ℕ) (target : Option (List ℕ)) (rest : List Todo) (answer : Answer) → s.todo ≡ Await name call target ∷ rest → r name call ≡ Some answer → P (done s (heard s name call target rest answer)))
    (t : Local) (e : step ops r s ≡ Some t) where
  at : (u : Local) → step ops r s ≡ Some u → P u → P t
  at u f h = subst P (same_Some u t (sym f ∙ e)) h

  by_request : (posting : Posting) (rest : List Todo) (m : Made) → s.todo ≡ Do (Post posting) ∷ rest → attempt ops s.me s.bound s.made posting ≡ Ok m → (w : Option (List ℕ)) → started_as posting ≡ w → P t
  by_request posting rest m todo f None b = at (done s (posted s (bound_to posting) rest m)) (step_posts ops r s posting rest m todo b f) (posts posting rest m todo b f)
  by_request posting rest m todo f (Some word) b = at (done s (started s word rest m)) (step_starts ops r s posting rest word m todo b f) (starts posting rest word m todo b f)

  by_attempt : (posting : Posting) (rest : List Todo) → s.todo ≡ Do (Post posting) ∷ rest → (o : Result Made PostError) → attempt ops s.me s.bound s.made posting ≡ o → P t
  by_attempt posting rest todo (Ok m) f = by_request posting rest m todo f (started_as posting) refl
  by_attempt posting rest todo (Err refusal) f = at (done s (turned_down s (bound_to posting) rest refusal)) (step_refused ops r s posting rest refusal todo f) (refuses posting rest refusal todo f)

  by_answer : (name : Name) (call : ℕ) (target : Option (List ℕ)) (rest : List Todo) → s.todo ≡ Await name call target ∷ rest → (o : Option Answer) → r name call ≡ o → P t
  by_answer name call target rest todo None f = cc (e, step_waits ops r s name call target rest todo f)
  by_answer name call target rest todo (Some answer) f = at (done s (heard s name call target rest answer)) (step_hears ops r s name call target rest answer todo f) (hears name call target rest answer todo f)

  by_answers : (words : List (List ℕ)) (rest : List Todo) → s.todo ≡ Do (Wait words) ∷ rest → (o : Option (List Answer)) → answers r (awaited_by s.requests words) ≡ o → P t
  by_answers words rest todo None f = cc (e, step_stays ops r s words rest todo f)
  by_answers words rest todo (Some told) f = at (done s (waited s words rest told)) (step_passes ops r s words rest told todo f) (passes words rest told todo f)

  by_todo : (todo : List Todo) → s.todo ≡ todo → P t
  by_todo [] f = cc (e, step_ends ops r s f)
  by_todo (Do (Ask question) ∷ rest) f = at (done s (told_at_once s question rest)) (step_asks ops r s question rest f) (asks question rest f)
  by_todo (Do (Wait words) ∷ rest) f = by_answers words rest f (answers r (awaited_by s.requests words)) refl
  by_todo (Do (Post posting) ∷ rest) f = by_attempt posting rest f (attempt ops s.me s.bound s.made posting) refl
  by_todo (Await name call target ∷ rest) f = by_answer name call target rest f (r name call) refl

  pub step_cases : P t
  step_cases = by_todo s.todo refl

module _ (ops : List Operation) (r : Results) (s t : Local) (e : step ops r s ≡ Some t) where
  -- a step doesn't change who it is
  pub step-keeps : t.me ≡ s.me
  step-keeps = step_cases ops r s (λ u. u.me ≡ s.me) (λ x rest m todo b f. refl) (λ x rest word m todo b f. refl) (λ x rest refusal todo f. refl) (λ words rest told todo f. refl) (λ question rest todo. refl) (λ name call target rest answer todo f. refl) t e

  -- and leaves less to do
  pub step-lowers : weights t.todo < weights s.todo
  step-lowers = step_cases ops r s (λ u. weights u.todo < weights s.todo) (λ x rest m todo b f. rw todo (omega arith)) (λ x rest word m todo b f. rw todo (omega arith)) (λ x rest refusal todo f. rw todo (omega arith)) (λ words rest told todo f. rw todo (omega arith)) (λ question rest todo. rw todo (omega arith)) (λ name call target rest answer todo f. rw todo (omega arith)) t e
