-- Refusals that are certain before anything is evaluated: of calls on `world`, whose members the script's first line tells.
use Rattle.std.specs.Prelude.{ℕ, ◌+◌, ◌++◌, Bool, false, cond, List, [], ◌∷◌, bytes_eq, codes, slice_index_or, Option, Some, None}
use Rattle.std.specs.Option.{option_map}
use Rattle.mpx_num.specs.declared.own.Operation.{Operation}
use Rattle.mpx_birth.specs.Births.{of_members, upto}
use Rattle.mpx_post.specs.declared.draft.Draft.{Draft}
use Rattle.mpx_post.specs.declared.draft.PostError.{PostError}
use Rattle.mpx_post.specs.Drafts.{at, checked, refusal_of}
use Rattle.mpx_statement.specs.Statements.{draft_of, communicator_word}
use Rattle.mpx_statement.specs.declared.statement.Posting.TheVariants.{CreateGroup}
use Rattle.mpx_statement.specs.declared.statement.Statement.{Statement}
use Rattle.mpx_statement.specs.declared.statement.Statement.TheVariants.{Post}
use Rattle.mpx_script.specs.ScriptView.{ScriptView}
use Rattle.mpx_meaning.specs.declared.line.Line.TheVariants.{Refused}
use Rattle.mpx_meaning.specs.Transcripts.{line_text}
use Rattle.mpx_eval.specs.Complaints.{ComplaintView, complaints_upto}
use Rattle.mpx_eval.specs.Unheard.{complaint_by}

-- why a rank's draft is refused as its first call, where it is on `world`
abbrev pub refused_on : List Operation → (ranks rank : ℕ) → (on : List ℕ) → Draft → Option PostError
refused_on ops ranks rank on draft = cond (bytes_eq on (codes "world")) (refusal_of (checked ops (of_members (upto ranks)) rank (at [] 0 false) draft)) None

-- why a statement is refused that posts there; of `create_group`, which posts on a gathering, nothing is told
abbrev pub statement_refused : List Operation → (ranks rank : ℕ) → Statement → Option PostError
statement_refused ops ranks rank (Post (CreateGroup on tag members to)) = None
statement_refused ops ranks rank (Post posting) = refused_on ops ranks rank (communicator_word posting) (draft_of posting)
statement_refused ops ranks rank statement = None

-- the line that tells it
abbrev pub certain_at : List Operation → (ranks rank place : ℕ) → Statement → List ComplaintView
certain_at ops ranks rank place statement = complaint_by rank place (option_map (λ refusal. line_text (Refused refusal)) (statement_refused ops ranks rank statement))

-- of the statements from a place on
abbrev pub certain_from : List Operation → (ranks rank place : ℕ) → List Statement → List ComplaintView
certain_from ops ranks rank place [] = []
certain_from ops ranks rank place (statement ∷ more) = complaint_by rank place (option_map (λ refusal. line_text (Refused refusal)) (statement_refused ops ranks rank statement)) ++ certain_from ops ranks rank (place + 1) more

-- of all ranks
abbrev pub certain_in : List Operation → ScriptView → List ComplaintView
certain_in ops script = complaints_upto (λ p. certain_from ops script.ranks p 0 (slice_index_or script.statements p [])) script.ranks
