-- Which calls were refused, and which are faults, by the lines of an evaluation's transcripts.
use Rattle.std.specs.Prelude.{ℕ, zero, suc, ◌-◌, Bool, true, false, cond, List, [], ◌∷◌, ◌++◌, bytes_eq, length, slice_get, Option, Some}
use Rattle.std.specs.List.{flat_map, position_or_len, zip}
use Rattle.std.specs.Option.{option_map_or}
use Rattle.mpx_statement.specs.Statements.{request_of}
use Rattle.mpx_statement.specs.declared.statement.Statement.{Statement}
use Rattle.mpx_statement.specs.declared.statement.Statement.TheVariants.{Wait}
use Rattle.mpx_value.specs.declared.outcomes.Outcome.{Outcome}
use Rattle.mpx_value.specs.declared.outcomes.Outcome.TheVariants.{Fault}
use Rattle.mpx_meaning.specs.declared.origin.Origin.{Origin}
use Rattle.mpx_meaning.specs.Evaluation.{State, statements_of}
use Rattle.mpx_meaning.specs.declared.line.Line.{Line}
use Rattle.mpx_meaning.specs.declared.line.Line.TheVariants.{Refused, StrayRank, Told}
use Rattle.mpx_meaning.specs.Transcripts.{line_text}

-- a line of a rank's transcript that says so, and the place of the statement of its call among the rank's statements
pub record ComplaintView : Type 0 where
  pub rank : ℕ
  pub statement : ℕ
  pub text : List ℕ

abbrev pub is_fault : Outcome → Bool
is_fault (Fault fault) = true
is_fault outcome = false

-- a refusal, or the outcome of a call that is a fault
abbrev pub is_complaint : Line → Bool
is_complaint (Told name call outcome) = is_fault outcome
is_complaint (Refused refusal) = true
is_complaint StrayRank = true
is_complaint line = false

-- THE STATEMENT OF A LINE'S CALL

-- the place of the statement that starts this request
abbrev pub started_at : List Statement → (request : List ℕ) → ℕ
started_at statements request = position_or_len (λ statement. option_map_or (λ word. bytes_eq word request) (request_of statement) false) statements

-- of a statement's lines the one of this number tells of the statement's own call, of a wait's lines of that of one of its requests
abbrev pub call_of_line : List Statement → (place nth : ℕ) → Option Statement → ℕ
call_of_line statements place nth (Some (Wait words)) = option_map_or (started_at statements) (slice_get words nth) place
call_of_line statements place nth statement = place

abbrev pub call_at : List Statement → Origin → ℕ
call_at statements origin = call_of_line statements (length statements - origin.left) origin.nth (slice_get statements (length statements - origin.left))

-- COMPLAINTS

-- the line, where it is one
abbrev pub complaint_in : (rank : ℕ) → List Statement → Line × Origin → List ComplaintView
complaint_in rank statements line = cond (is_complaint line.0) (record { rank = rank; statement = call_at statements line.1; text = line_text line.0 } ∷ []) []

-- those among a rank's lines, in their order
abbrev pub complaints_at : (rank : ℕ) → List Statement → List Line → List Origin → List ComplaintView
complaints_at rank statements lines origins = flat_map (complaint_in rank statements) (zip lines origins)

-- those of the first so many ranks, rank by rank
abbrev pub complaints_upto : ((rank : ℕ) → List ComplaintView) → (ranks : ℕ) → List ComplaintView
complaints_upto complaints zero = []
complaints_upto complaints (suc n) = complaints_upto complaints n ++ complaints n

-- all where the ranks stand so
abbrev pub complaints_in : List (List Statement) → (ranks : ℕ) → State → List ComplaintView
complaints_in script ranks s = complaints_upto (λ p. flat_map (complaint_in p (statements_of script p)) (zip (s p).lines (s p).origins)) ranks
