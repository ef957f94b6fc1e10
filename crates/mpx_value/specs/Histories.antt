-- What all processes posted on all contexts, the members that this gives to each context, and what its whole rows give.
use Rattle.std.specs.Prelude.{◌≡◌, ℕ, Bool, cond, not, ◌&&◌, nat_lt, List, [], ◌∷◌, length, Option, Some, None, option_and_then, slice_get}
use Rattle.std.specs.List.{list_all, list_any}
use Rattle.std.specs.Option.{option_map}
use Rattle.mpx_group.specs.Group.{has, has_twice}
use Rattle.mpx_num.specs.declared.own.Operation.{Operation}
use Rattle.mpx_name.specs.declared.steps.Step.TheVariants.{Child, Gathering}
use Rattle.mpx_name.specs.Name.{Name, same_name}
use Rattle.mpx_post.specs.Posts.{Given, is_free}
use Rattle.mpx_birth.specs.Births.{BirthView, of_members, rank_in, upto}
use Rattle.mpx_post.specs.Gatherings.{GatheringView}
use Rattle.mpx_post.specs.Rows.{RowView, all_of}
use Rattle.mpx_value.specs.declared.outcomes.Outcome.{Outcome}
use Rattle.mpx_value.specs.declared.outcomes.Outcome.TheVariants.{NewComm}
use Rattle.mpx_value.specs.Children.{IsNewCommunicator, child}
use Rattle.mpx_value.specs.Values.{value}

-- POSTS

-- a post, and the context on which it was made
pub record Made : Type 0 where
  pub name : Name
  pub given : Given

-- of these posts those on one context, in their order
abbrev pub posts_on : Name → List Made → List Given
posts_on name [] = []
posts_on name (m ∷ rest) = cond (same_name name m.name) (m.given ∷ posts_on name rest) (posts_on name rest)

-- whether one of these posts frees the context
abbrev pub has_freed : Name → List Made → Bool
has_freed name made = list_any is_free (posts_on name made)

-- the job's own operations, and what a process posted on a context as its call of this number, where it did
pub record History : Type 0 where
  pub operations : List Operation
  pub post : Name → (call process : ℕ) → Option Given

-- the history that these posts of each process make
abbrev pub history_of : List Operation → ((process : ℕ) → List Made) → History
history_of ops made = record { operations = ops; post = λ name k p. slice_get (posts_on name (made p)) k }

-- a later history has what an earlier one has, and the same operations
pub record Grows (h later : History) : Type 0 where
  pub operations : h.operations ≡ later.operations
  pub post : (name : Name) (k p : ℕ) (given : Given) → h.post name k p ≡ Some given → later.post name k p ≡ Some given

-- the posts of all members to a call, where all are there
abbrev pub row_of : History → Name → BirthView → (call : ℕ) → Option RowView
row_of h name birth k = all_of (h.post name k) birth.members

-- BIRTHS

-- the child of this colour of a call, where its row is whole
abbrev pub child_of : History → Name → (call colour : ℕ) → BirthView → Option BirthView
child_of h name call colour birth = option_and_then (λ row. child h.operations birth row name call colour) (row_of h name birth call)

-- a gathering below a context with this birth: of some of its members, each once
abbrev pub gathered : List ℕ → BirthView → Option BirthView
gathered members birth =
    cond (nat_lt 0 (length members) && (not (has_twice members) && list_all (has birth.members) members)) (Some (of_members members)) None

-- the gathering of these members below a context
abbrev pub gathering_name : Name → GatheringView → Name
gathering_name parent g = Gathering g.tag g.members ∷ parent

-- the birth of a context, where the history has all that made it: the world's members are the ranks
abbrev pub birth_of : History → (ranks : ℕ) → Name → Option BirthView
birth_of h ranks [] = Some (of_members (upto ranks))
birth_of h ranks (Child call colour ∷ parent) = option_and_then (child_of h parent call colour) (birth_of h ranks parent)
birth_of h ranks (Gathering tag members ∷ parent) = option_and_then (gathered members) (birth_of h ranks parent)

-- the posts of all members to a call, where the birth and all of them are there
abbrev pub whole_row : History → (ranks : ℕ) → Name → (call : ℕ) → Option RowView
whole_row h ranks name k = option_and_then (λ birth. row_of h name birth k) (birth_of h ranks name)

-- OUTCOMES

-- what a row gives a member, by the job's own operations and the member's rank
abbrev pub value_for : List Operation → BirthView → ℕ → RowView → Name → (call : ℕ) → Option Outcome
value_for ops birth me row name call = option_and_then (λ rank. Some (value ops birth row name call rank)) (rank_in me birth.members)

-- a new communicator that this gives the process is one that the call makes, with its size, and has the process at this rank
abbrev pub GivesItsChildren : List Operation → BirthView → ℕ → RowView → Name → (call : ℕ) → Type 0
GivesItsChildren ops birth me row name call = (new : Name) (size rank : ℕ) → value_for ops birth me row name call ≡ Some (NewComm new size rank) → IsNewCommunicator ops birth row name call me new size rank

-- what the whole rows of a context with this birth give a process
abbrev pub outcomes_by : History → Name → BirthView → (me call : ℕ) → Option Outcome
outcomes_by h name birth me k = option_and_then (λ row. value_for h.operations birth me row name k) (row_of h name birth k)

-- what the rows that are whole give a process
abbrev pub outcome_of : History → (ranks me : ℕ) → Name → (call : ℕ) → Option Outcome
outcome_of h ranks me name k = option_and_then (λ birth. outcomes_by h name birth me k) (birth_of h ranks name)

-- RESULTS

-- what a call gave a process, and how the communicator came to be that this names
pub record Answer : Type 0 where
  pub outcome : Outcome
  pub born : Option BirthView

-- what is known of calls, by their contexts and numbers
abbrev pub Results : Type 0
Results = Name → (call : ℕ) → Option Answer

-- each answer of the first is one of the second
abbrev pub Within : Results → Results → Type 0
Within r more = (name : Name) (k : ℕ) (answer : Answer) → r name k ≡ Some answer → more name k ≡ Some answer

abbrev pub born_by : (Name → Option BirthView) → Outcome → Option BirthView
born_by births (NewComm name size rank) = births name
born_by births outcome = None

-- an outcome, where these births are known
abbrev pub answer_with : (Name → Option BirthView) → Outcome → Answer
answer_with births outcome = record { outcome = outcome; born = born_by births outcome }

-- what the rows that are whole tell a process
abbrev pub results_of : History → (ranks me : ℕ) → Results
results_of h ranks me name k = option_map (answer_with (birth_of h ranks)) (outcome_of h ranks me name k)
