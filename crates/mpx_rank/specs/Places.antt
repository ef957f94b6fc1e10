-- Where a rank stands in its script, whose communicators are names and births.
use Rattle.std.specs.Prelude.{◌≡◌, ℕ, List, Option, Some, None, Result, Err}
use Rattle.std.specs.Option.{option_map}
use Rattle.mpx_num.specs.declared.own.Operation.{Operation}
use Rattle.mpx_name.specs.Name.{Name}
use Rattle.mpx_post.specs.declared.draft.PostError.{PostError}
use Rattle.mpx_post.specs.declared.draft.PostError.TheVariants.{NotMember}
use Rattle.mpx_birth.specs.Births.{BirthView}
use Rattle.mpx_value.specs.Histories.{Made}
use Rattle.mpx_statement.specs.declared.statement.Posting.{Posting}
use Rattle.mpx_statement.specs.Statements.{draft_of, gathers_of}
use Rattle.mpx_statement.specs.Lookups.{named}
use Rattle.mpx_meaning.specs.Ranks.{Bound, Communicator, NullCommunicator, Local, attempt_in}
use Rattle.mpx_meaning.specs.Standing.{todo_of}
use Rattle.mpx_meaning.specs.Ends.{EndView, waits_with}
use Rattle.mpx_rank.specs.Moves.{RankView}

-- a communicator: its name, and how it came to be
abbrev pub CommunicatorView : Type 0
CommunicatorView = Name × BirthView

-- what a word is bound to: a communicator, or the null communicator
abbrev pub bound_as : Option CommunicatorView → Bound
bound_as None = NullCommunicator
bound_as (Some c) = Communicator c.0 c.1

-- what a statement that posts comes to on a communicator, where its word is bound to one, by the job's own operations
abbrev pub attempt_by : List Operation → (me : ℕ) → List Made → Posting → Option CommunicatorView → Result Made PostError
attempt_by ops me made posting None = Err NotMember
attempt_by ops me made posting (Some c) = attempt_in ops me made (draft_of posting) (gathers_of posting) c.0 c.1

-- the rank stands there in its script
pub record StandsInScript (r : RankView CommunicatorView) (s : Local) : Type 0 where
  pub bound : (word : List ℕ) → option_map bound_as (r.bound word) ≡ named s.bound word
  pub requests : (word : List ℕ) → r.requests word ≡ named s.requests word
  pub todo : s.todo ≡ todo_of r.waits r.todo
  pub lines : r.lines ≡ s.lines
  pub origins : r.origins ≡ s.origins

-- how a rank ends that stands there
abbrev pub end_of_rank : {K : Type 0} → RankView K → EndView
end_of_rank r = record { lines = r.lines; origins = r.origins; waits = waits_with r.requests (todo_of r.waits r.todo) }
