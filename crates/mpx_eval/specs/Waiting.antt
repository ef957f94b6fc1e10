-- Who waits at the end of an evaluation: at which statement, for which calls, and for whose posts to them.
use Rattle.std.specs.Prelude.{ℕ, ◌-◌, Bool, nat_le, is_none, List, [], length, map, Option, Some, None}
use Rattle.std.specs.List.{filter}
use Rattle.mpx_num.specs.declared.own.Operation.{Operation}
use Rattle.mpx_name.specs.Name.{Name}
use Rattle.mpx_birth.specs.Births.{BirthView}
use Rattle.mpx_value.specs.Histories.{Results, birth_of, has_freed, posts_on}
use Rattle.mpx_statement.specs.declared.statement.Statement.{Statement}
use Rattle.mpx_meaning.specs.Ranks.{Next, End, Asks}
use Rattle.mpx_meaning.specs.Standing.{closed}
use Rattle.mpx_meaning.specs.Evaluation.{State, history, known, statements_of}
pub use Rattle.mpx_meaning.specs.Ends.{Asked, asked, asked_at, asked_by, asked_of, asked_then}
use Rattle.mpx_meaning.specs.Reports.{waiting_in}
use Rattle.mpx_eval.specs.declared.missing.MissingMember.{MissingMember}

-- a call whose answer is missing: the word of its request, where it is waited for by one, its context, its number there, and
-- the members of the context that have not posted to it, some of which have freed it
pub record MissingCallView : Type 0 where
  pub request : Option (List ℕ)
  pub name : Name
  pub call : ℕ
  pub missing : List MissingMember

-- a rank that waits, the place of the statement at which it does among its statements, and the calls whose answers are missing
pub record WaitingView : Type 0 where
  pub rank : ℕ
  pub statement : ℕ
  pub calls : List MissingCallView

-- WHICH CALLS ARE ASKED FOR

-- the calls that a rank's next move asks for
abbrev pub calls_of : Next → List (Name × ℕ)
calls_of End = []
calls_of (Asks calls act) = calls

-- WHOSE POSTS ARE MISSING

-- a process has made at most so many posts there, which are no post to the call of this number
abbrev pub lacks_post : State → Name → (call process : ℕ) → Bool
lacks_post s name call q = nat_le (length (posts_on name (s q).made)) call

-- a process, and whether it has freed the context
abbrev pub missing_member : State → Name → (process : ℕ) → MissingMember
missing_member s name q = record { rank = q; closed = has_freed name (s q).made }

abbrev pub missing_of : State → Name → (call : ℕ) → Option BirthView → List MissingMember
missing_of s name call None = []
missing_of s name call (Some birth) = map (missing_member s name) (filter (lacks_post s name call) birth.members)

-- the members of a call's context that have not posted to it
abbrev pub missing_to : List Operation → (ranks : ℕ) → State → Name → (call : ℕ) → List MissingMember
missing_to ops ranks s name call = missing_of s name call (birth_of (history ops s) ranks name)

abbrev pub missing_call : List Operation → (ranks : ℕ) → State → Asked → MissingCallView
missing_call ops ranks s a = record { request = a.0; name = a.1.0; call = a.1.1; missing = missing_to ops ranks s a.1.0 a.1.1 }

-- the answer isn't known
abbrev pub is_unknown : Results → Asked → Bool
is_unknown r a = is_none (r a.1.0 a.1.1)

-- WHO WAITS

-- where a rank waits, and for what: its statements but for those that are left
abbrev pub waits_at : List Operation → List (List Statement) → (ranks : ℕ) → State → (rank : ℕ) → WaitingView
waits_at ops script ranks s p = record {
  rank = p;
  statement = length (statements_of script p) - length (s p).todo;
  calls = map (missing_call ops ranks s) (filter (is_unknown (known ops ranks s p)) (asked (s p)));
}

-- all that wait
abbrev pub waiting_in_full : List Operation → List (List Statement) → (ranks : ℕ) → State → List WaitingView
waiting_in_full ops script ranks s = map (waits_at ops script ranks s) (waiting_in s ranks)
