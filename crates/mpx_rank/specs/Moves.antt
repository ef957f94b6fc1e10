-- Where a rank stands in its statements, and what its moves do.
use Rattle.std.specs.Prelude.{◌≡◌, ℕ, ◌+◌, ◌*◌, Bool, true, false, ◌||◌, cond, is_some, IsTrue, codes, bytes_eq, List, [], ◌∷◌, ◌++◌, length, Option, Some, None, Ok, Err}
use Rattle.std.specs.List.{list_all}
use Rattle.mpx_name.specs.Name.{Name}
use Rattle.mpx_birth.specs.Births.{BirthView}
use Rattle.mpx_post.specs.declared.draft.PostError.{PostError}
use Rattle.mpx_post.specs.declared.draft.PostError.TheVariants.{OutOfMemory}
use Rattle.mpx_value.specs.declared.outcomes.Outcome.{Outcome}
use Rattle.mpx_statement.specs.declared.statement.Posting.{Posting}
use Rattle.mpx_statement.specs.declared.statement.Question.{Question}
use Rattle.mpx_statement.specs.declared.statement.Statement.{Statement}
use Rattle.mpx_statement.specs.declared.statement.Statement.TheVariants.{Post, Wait, Ask}
use Rattle.mpx_statement.specs.Statements.{bound_to, communicator_word, started_as}
use Rattle.mpx_meaning.specs.declared.origin.Origin.{Origin}
use Rattle.mpx_meaning.specs.declared.asking.Found.{Found}
use Rattle.mpx_meaning.specs.declared.asking.Found.TheVariants as W
use Rattle.mpx_meaning.specs.declared.line.Line.{Line}
use Rattle.mpx_meaning.specs.declared.line.Line.TheVariants.{Told, Refused, Idle}
use Rattle.mpx_meaning.specs.Ranks.{answered_by, found_as, origins_of}
use Rattle.mpx_meaning.specs.Standing.{WaitView, awaited, binds, closed, closed_all, has_statements}
use Rattle.mpx_rank.specs.Carriers.{Outcomes, Terms, is_told}

-- who it is, what its words are bound to (None is the null communicator) and which calls its open requests stand for, the
-- statements that are left, what it waits for, the lines so far, and which statement each of these belongs to
pub record RankView (K : Type 0) : Type 0 where
  pub me : ℕ
  pub bound : List ℕ → Option (Option K)
  pub requests : List ℕ → Option (Name × ℕ)
  pub todo : List Statement
  pub waits : Option WaitView
  pub lines : List Line
  pub origins : List Origin

-- WORDS

-- the communicator that a word is bound to, where it is one
abbrev pub communicator_in : {K : Type 0} → Option (Option K) → Option K
communicator_in None = None
communicator_in (Some to) = to

-- whether the rank has freed that communicator
abbrev pub closed_by : {K : Type 0} → (K → Bool) → Option K → Bool
closed_by closes None = false
closed_by closes (Some k) = closes k

-- what the word stands for that is asked about, by whether the rank has freed it, and by what is known of it
abbrev pub found_with : {K : Type 0} → (freed : Bool) → (K → Option (Name × BirthView)) → Option K → Found (Name × BirthView)
found_with freed knows None = W.Null
found_with freed knows (Some k) = found_as freed (knows k)

abbrev pub found_in : {K : Type 0} → (closes : K → Bool) → (knows : K → Option (Name × BirthView)) → Option K → Found (Name × BirthView)
found_in closes knows o = found_with (closed_by closes o) knows o

abbrev pub found_by : {K : Type 0} → (closes : K → Bool) → (knows : K → Option (Name × BirthView)) → (List ℕ → Option (Option K)) → List ℕ → Found (Name × BirthView)
found_by closes knows bound word = found_in closes knows (communicator_in (bound word))

-- before any statement `world` alone is bound, if any word is
abbrev pub bound_first : {K : Type 0} → Option K → List ℕ → Option (Option K)
bound_first None word = None
bound_first (Some world) word = cond (bytes_eq word (codes "world")) (Some (Some world)) None

-- WAITS

-- whether a request isn't open, or the outcome of its call is told
abbrev pub is_done : Outcomes → Option (Name × ℕ) → Bool
is_done told None = true
is_done told (Some place) = is_told told place

abbrev pub are_done : Outcomes → (List ℕ → Option (Name × ℕ)) → List (List ℕ) → Bool
are_done told requests words = list_all (λ word. is_done told (requests word)) words

-- the line of a call, where its outcome is told
abbrev pub told_line : Name → (call : ℕ) → Option Outcome → Line
told_line name call None = Idle
told_line name call (Some outcome) = Told name call outcome

-- the line of a request that may be open
abbrev pub request_line : Outcomes → Option (Name × ℕ) → Line
request_line told None = Idle
request_line told (Some place) = told_line place.0 place.1 (told place.0 place.1)

-- the lines of a wait for these words: a request that was closed before is idle
abbrev pub wait_lines : Outcomes → (List ℕ → Option (Name × ℕ)) → List (List ℕ) → List Line
wait_lines told requests [] = []
wait_lines told requests (word ∷ words) = request_line told (requests word) ∷ wait_lines told (closed word requests) words

-- WHERE A RANK STANDS

-- so much is left at most
abbrev pub left_of : {K : Type 0} → RankView K → ℕ
left_of r = 2 * length r.todo + awaited r.waits

-- so many statements are left, with the one whose outcome is awaited
abbrev pub statements_left : {K : Type 0} → RankView K → ℕ
statements_left r = awaited r.waits + length r.todo

-- whether it waits for an outcome, or has statements left
abbrev pub is_waiting : {K : Type 0} → RankView K → Bool
is_waiting r = is_some r.waits || has_statements r.todo

-- MOVES

-- which statement each line belongs to, with so many lines more of the one that is next or whose outcome is awaited
abbrev pub origins_with : {K : Type 0} → RankView K → (lines : ℕ) → List Origin
origins_with r lines = r.origins ++ origins_of (statements_left r) lines

-- the outcome that it waited for is told, and its word stands for the communicator that the call gave
abbrev pub heard : {K : Type 0} → RankView K → WaitView → Outcome → Option K → RankView K
heard r w outcome to = record { me = r.me; bound = binds w.target to r.bound; requests = r.requests; todo = r.todo; waits = None; lines = r.lines ++ Told w.name w.call outcome ∷ []; origins = origins_with r 1 }

-- it has posted, and waits for the outcome of that call
abbrev pub posted : {K : Type 0} → RankView K → Posting → (rest : List Statement) → Name → (call : ℕ) → RankView K
posted r posting rest name call = record { me = r.me; bound = r.bound; requests = r.requests; todo = rest; waits = Some (record { name = name; call = call; target = bound_to posting }); lines = r.lines; origins = r.origins }

-- it has posted, and a request is open for that call
abbrev pub started : {K : Type 0} → RankView K → (word : List ℕ) → (rest : List Statement) → Name → (call : ℕ) → RankView K
started r word rest name call = record { me = r.me; bound = r.bound; requests = binds (Some word) (name, call) r.requests; todo = rest; waits = None; lines = r.lines; origins = r.origins }

-- its post was refused
abbrev pub refused : {K : Type 0} → RankView K → Posting → (rest : List Statement) → PostError → RankView K
refused r posting rest refusal = record { me = r.me; bound = binds (bound_to posting) None r.bound; requests = r.requests; todo = rest; waits = None; lines = r.lines ++ Refused refusal ∷ []; origins = origins_with r 1 }

-- it has waited for these words
abbrev pub waited : {K : Type 0} → RankView K → (words : List (List ℕ)) → (rest : List Statement) → Outcomes → RankView K
waited r words rest told = record {
  me = r.me;
  bound = r.bound;
  requests = closed_all words r.requests;
  todo = rest;
  waits = None;
  lines = r.lines ++ wait_lines told r.requests words;
  origins = origins_with r (length words);
}

-- its question is answered
abbrev pub answered : {K : Type 0} → RankView K → (rest : List Statement) → Line → RankView K
answered r rest line = record { me = r.me; bound = r.bound; requests = r.requests; todo = rest; waits = None; lines = r.lines ++ line ∷ []; origins = origins_with r 1 }

-- one move of a rank, and what its carrier does for it: it hears the outcome that it waits for; or it does its next statement.
-- One that posts is posted, and then its outcome is awaited or its request is open, or it is refused; a wait is passed once
-- all calls of its requests are done; and a question is answered by what the carrier knows of communicators, and by which of
-- them the rank has freed
pub data Move {C K : Type 0} (terms : Terms C K) : RankView K → C → RankView K → C → Type 0 where
  hears : {r : RankView K} {c d : C} (w : WaitView) (outcome : Outcome) (to : Option K) → r.waits ≡ Some w
      → terms.hears c d → terms.tells d r.me w.name w.call ≡ Some outcome → terms.gives d r.me w.name w.call to
      → Move terms r c (heard r w outcome to) d
  posts : {r : RankView K} {c d : C} (posting : Posting) (rest : List Statement) (name : Name) (call : ℕ) → r.waits ≡ None → r.todo ≡ Post posting ∷ rest
      → started_as posting ≡ None → terms.tries c r.me posting (communicator_in (r.bound (communicator_word posting))) (Ok (Some (name, call))) d
      → Move terms r c (posted r posting rest name call) d
  starts : {r : RankView K} {c d : C} (posting : Posting) (rest : List Statement) (word : List ℕ) (name : Name) (call : ℕ) → r.waits ≡ None → r.todo ≡ Post posting ∷ rest
      → started_as posting ≡ Some word → terms.tries c r.me posting (communicator_in (r.bound (communicator_word posting))) (Ok (Some (name, call))) d
      → Move terms r c (started r word rest name call) d
  is_refused : {r : RankView K} {c d : C} (posting : Posting) (rest : List Statement) (refusal : PostError) → r.waits ≡ None → r.todo ≡ Post posting ∷ rest
      → (refusal ≡ OutOfMemory → ⊥) → terms.tries c r.me posting (communicator_in (r.bound (communicator_word posting))) (Err refusal) d
      → Move terms r c (refused r posting rest refusal) d
  passes : {r : RankView K} {c mid d : C} (words : List (List ℕ)) (rest : List Statement) → r.waits ≡ None → r.todo ≡ Wait words ∷ rest
      → terms.hears c mid → are_done (terms.tells mid r.me) r.requests words ≡ true → terms.hears mid d
      → Move terms r c (waited r words rest (terms.tells mid r.me)) d
  asks : {r : RankView K} {c : C} (question : Question) (rest : List Statement) → r.waits ≡ None → r.todo ≡ Ask question ∷ rest
      → Move terms r c (answered r rest (answered_by r.me (found_by (terms.closes c r.me) (terms.knows c) r.bound) question)) c

-- there is no move: nothing is left; or the outcome that it waits for isn't told, or not that of each request of a wait; or its
-- next statement can't be posted now. The carrier may have heard of others
pub data Still {C K : Type 0} (terms : Terms C K) : RankView K → C → C → Type 0 where
  has_ended : {r : RankView K} {c : C} → r.waits ≡ None → r.todo ≡ [] → Still terms r c c
  waits_on : {r : RankView K} {c d : C} (w : WaitView) → r.waits ≡ Some w → terms.hears c d → terms.tells d r.me w.name w.call ≡ None → Still terms r c d
  passes_not : {r : RankView K} {c mid d : C} (words : List (List ℕ)) (rest : List Statement) → r.waits ≡ None → r.todo ≡ Wait words ∷ rest
      → terms.hears c mid → are_done (terms.tells mid r.me) r.requests words ≡ false → terms.hears mid d → Still terms r c d
  posts_not : {r : RankView K} {c d : C} (posting : Posting) (rest : List Statement) → r.waits ≡ None → r.todo ≡ Post posting ∷ rest
      → terms.tries c r.me posting (communicator_in (r.bound (communicator_word posting))) (Ok None) d → Still terms r c d

-- it has moved, or it stays where it stands
abbrev pub Moves : {C K : Type 0} → Terms C K → RankView K → C → RankView K → C → (moved : Bool) → Type 0
Moves terms r c s d true = Move terms r c s d
Moves terms r c s d false = (s ≡ r) × Still terms r c d

-- moves, one after the other
pub data Ran {C K : Type 0} (terms : Terms C K) : RankView K → C → RankView K → C → (moved : Bool) → Type 0 where
  stayed : {r : RankView K} {c : C} → Ran terms r c r c false
  moved_on : {r s u : RankView K} {c d e : C} {moved : Bool} → Ran terms r c s d moved → Move terms s d u e → Ran terms r c u e true

-- moves, until there is none
abbrev pub GoesOn : {C K : Type 0} → Terms C K → RankView K → C → RankView K → C → (moved : Bool) → Type 0
GoesOn {C} terms r c s d moved = (mid : C) × Ran terms r c s mid moved × Still terms s mid d

-- moves, and then memory was wanting for what was left to do
abbrev pub StopsShort : {C K : Type 0} → Terms C K → RankView K → C → Type 0
StopsShort {C} {K} terms r c = (s : RankView K) × (mid : C) × (moved : Bool) × Ran terms r c s mid moved × IsTrue (is_waiting s)

-- where a statement that posts is the next one, the carrier may be asked for it
abbrev pub MayTry : {C K : Type 0} → Terms C K → RankView K → C → Type 0
MayTry terms r c = (posting : Posting) (rest : List Statement) → r.waits ≡ None → r.todo ≡ Post posting ∷ rest → terms.may c r.me posting (communicator_in (r.bound (communicator_word posting)))

-- and that holds wherever moves lead
abbrev pub MayGo : {C K : Type 0} → Terms C K → RankView K → C → Type 0
MayGo {C} {K} terms r c = (s : RankView K) (d : C) (moved : Bool) → Ran terms r c s d moved → MayTry terms s d
