-- What a line that tells an outcome tells, what a word is bound to, and what a rank's lines and posts have to do with its statements.
use Rattle.std.specs.Prelude.{◌≡◌, ℕ, ◌⊎◌, List, [], ◌∷◌, ◌++◌, None, Some, Ok, Err}
use Rattle.mpx_num.specs.declared.own.Operation.{Operation}
use Rattle.mpx_name.specs.Name.{Name}
use Rattle.mpx_post.specs.declared.draft.PostError.{PostError}
use Rattle.mpx_birth.specs.Births.{BirthView, rank_in}
use Rattle.mpx_post.specs.Rows.{RowView}
use Rattle.mpx_value.specs.declared.outcomes.Outcome.{Outcome}
use Rattle.mpx_value.specs.Histories.{Made, Answer, Results, birth_of, row_of}
use Rattle.mpx_value.specs.Values.{value}
use Rattle.mpx_statement.specs.declared.statement.Statement.{Statement}
use Rattle.mpx_statement.specs.declared.statement.Posting.{Posting}
use Rattle.mpx_statement.specs.declared.statement.Question.{Question}
use Rattle.mpx_statement.specs.declared.statement.Statement.TheVariants.{Post, Wait, Ask}
use Rattle.mpx_statement.specs.Statements.{bound_to, started_as}
use Rattle.mpx_meaning.specs.Ranks.{Line, Told, Refused, Bindings, NullCommunicator, Requests, Await, Local, next_call, answered, answers, attempt, awaited_by, bind, bound_by, doing, waited_lines, without_all}
use Rattle.mpx_meaning.specs.Evaluation.{State, history}

-- all members of the context have posted to the call, and this is what it gives the process as one of them
pub record IsToldOf (ops : List Operation) (ranks : ℕ) (s : State) (process : ℕ) (name : Name) (call : ℕ) (outcome : Outcome) : Type 0 where
  pub birth : BirthView
  pub born : birth_of (history ops s) ranks name ≡ Some birth
  pub row : RowView
  pub whole : row_of (history ops s) name birth call ≡ Some row
  pub rank : ℕ
  pub member : rank_in process birth.members ≡ Some rank
  pub is : outcome ≡ value ops birth row name call rank

-- all that made the communicator is posted, and it came to be with these members, of which the process is one
pub record IsMemberOf (ops : List Operation) (ranks : ℕ) (s : State) (process : ℕ) (name : Name) (birth : BirthView) : Type 0 where
  pub born : birth_of (history ops s) ranks name ≡ Some birth
  pub rank : ℕ
  pub member : rank_in process birth.members ≡ Some rank

-- a process with these bindings and open requests that has made some posts passes these statements, and then has other
-- bindings and open requests, has made these further posts and has these further lines. Of a blocking call: its post and the
-- line of that call's outcome; of a nonblocking one its post alone, whose call its request stands for from then on; of one
-- that is refused the line of its refusal and no post. The word of a new communicator is bound to the one that the call gave,
-- else to the null communicator. Of a wait: for each of its requests the line of the outcome of the call that the request
-- stands for, or that it is idle; then none of them is open. Of a statement that asks: just its line, by what its words are
-- bound to then, and by which of that it has freed
pub data Passes (ops : List Operation) (known : Results) (me : ℕ) : (before : Bindings) (requests : Requests) (earlier : List Made) → List Statement → (after : Bindings) (left : Requests) (further : List Made) → List Line → Type 0 where
  none : {bound : Bindings} {requests : Requests} {earlier : List Made} → Passes ops known me bound requests earlier [] bound requests [] []
  accepted : {bound after : Bindings} {requests left : Requests} {earlier further : List Made} {posting : Posting} {rest : List Statement} {m : Made} {answer : Answer} {lines : List Line}
      → started_as posting ≡ None → attempt ops me bound earlier posting ≡ Ok m → known m.name (next_call m.name earlier) ≡ Some answer
      → Passes ops known me (bind (bound_to posting) (bound_by answer.outcome answer.born) bound) requests (earlier ++ m ∷ []) rest after left further lines
      → Passes ops known me bound requests earlier (Post posting ∷ rest) after left (m ∷ further) (Told m.name (next_call m.name earlier) answer.outcome ∷ lines)
  started : {bound after : Bindings} {requests left : Requests} {earlier further : List Made} {posting : Posting} {rest : List Statement} {word : List ℕ} {m : Made} {lines : List Line}
      → started_as posting ≡ Some word → attempt ops me bound earlier posting ≡ Ok m
      → Passes ops known me bound (requests ++ (word, (m.name, next_call m.name earlier)) ∷ []) (earlier ++ m ∷ []) rest after left further lines
      → Passes ops known me bound requests earlier (Post posting ∷ rest) after left (m ∷ further) lines
  refused : {bound after : Bindings} {requests left : Requests} {earlier further : List Made} {posting : Posting} {rest : List Statement} {refusal : PostError} {lines : List Line} → attempt ops me bound earlier posting ≡ Err refusal
      → Passes ops known me (bind (bound_to posting) NullCommunicator bound) requests earlier rest after left further lines
      → Passes ops known me bound requests earlier (Post posting ∷ rest) after left further (Refused refusal ∷ lines)
  waited : {bound after : Bindings} {requests left : Requests} {earlier further : List Made} {words : List (List ℕ)} {rest : List Statement} {told : List Answer} {lines : List Line}
      → answers known (awaited_by requests words) ≡ Some told
      → Passes ops known me bound (without_all words requests) earlier rest after left further lines
      → Passes ops known me bound requests earlier (Wait words ∷ rest) after left further (waited_lines requests words told ++ lines)
  asked : {bound after : Bindings} {requests left : Requests} {earlier further : List Made} {question : Question} {rest : List Statement} {lines : List Line}
      → Passes ops known me bound requests earlier rest after left further lines
      → Passes ops known me bound requests earlier (Ask question ∷ rest) after left further (answered me bound earlier question ∷ lines)

-- it started with the first bindings and no request, has passed the first of these statements and begun none of the others:
-- it may stand at a wait
pub record IsReady (ops : List Operation) (known : Results) (first : Bindings) (statements : List Statement) (s : Local) : Type 0 where
  pub passed : List Statement
  pub left : List Statement
  pub all : passed ++ left ≡ statements
  pub todo : s.todo ≡ doing left
  pub passes : Passes ops known s.me first [] [] passed s.bound s.requests s.made s.lines

-- it has passed the first of these statements, made the post of the next one, a blocking one, and waits for the outcome of
-- that call
pub record IsWaiting (ops : List Operation) (known : Results) (first : Bindings) (statements : List Statement) (s : Local) : Type 0 where
  pub passed : List Statement
  pub posting : Posting
  pub left : List Statement
  pub all : passed ++ Post posting ∷ left ≡ statements
  pub earlier : List Made
  pub last : Made
  pub made : s.made ≡ earlier ++ last ∷ []
  pub blocks : started_as posting ≡ None
  pub accepts : attempt ops s.me s.bound earlier posting ≡ Ok last
  pub todo : s.todo ≡ Await last.name (next_call last.name earlier) (bound_to posting) ∷ doing left
  pub passes : Passes ops known s.me first [] [] passed s.bound s.requests earlier s.lines

-- from the first bindings it carries out these statements in their order
abbrev pub CarriesOut : List Operation → Results → (first : Bindings) → List Statement → Local → Type 0
CarriesOut ops known first statements s = IsReady ops known first statements s ⊎ IsWaiting ops known first statements s
