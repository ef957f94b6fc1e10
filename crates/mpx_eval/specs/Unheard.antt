-- Faults of calls whose requests are open at the end of an evaluation: nobody has waited for them to the end, so no line tells of them.
use Rattle.std.specs.Prelude.{ℕ, ◌+◌, List, [], ◌∷◌, ◌++◌, slice_index_or, Option, Some, None, option_and_then}
use Rattle.std.specs.Option.{option_map_or}
use Rattle.mpx_num.specs.declared.own.Operation.{Operation}
use Rattle.mpx_name.specs.Name.{Name}
use Rattle.mpx_value.specs.Histories.{Answer, Results}
use Rattle.mpx_value.specs.declared.outcomes.Outcome.{Outcome}
use Rattle.mpx_value.specs.declared.outcomes.Outcome.TheVariants as O
use Rattle.mpx_statement.specs.Lookups.{named}
use Rattle.mpx_statement.specs.Statements.{request_of}
use Rattle.mpx_statement.specs.declared.statement.Statement.{Statement}
use Rattle.mpx_meaning.specs.Evaluation.{State, known, statements_of}
use Rattle.mpx_meaning.specs.Transcripts.{outcome_text}
use Rattle.mpx_eval.specs.Complaints.{ComplaintView, complaints_upto}
use Rattle.mpx_eval.specs.Places.{TableRank}
use Rattle.mpx_eval.specs.Tables.{Table, answer_on}

-- the line that would tell an outcome, where it is a fault
abbrev pub fault_line : Outcome → Option (List ℕ)
fault_line (O.Fault fault) = Some (outcome_text (O.Fault fault))
fault_line other = None

abbrev pub fault_of : Option Answer → Option (List ℕ)
fault_of answer = option_and_then (λ (told : Answer). fault_line told.outcome) answer

-- what is known of a call
abbrev pub answer_at : Results → Option (Name × ℕ) → Option Answer
answer_at known call = option_and_then (λ (place : Name × ℕ). known place.0 place.1) call

-- what a statement is told, where it is told something
abbrev pub complaint_by : (rank place : ℕ) → Option (List ℕ) → List ComplaintView
complaint_by rank place said = option_map_or (λ text. record { rank = rank; statement = place; text = text } ∷ []) said []

-- of a statement with this place that starts a request, by the calls of the requests that are open
abbrev pub unheard_at : (rank : ℕ) → (requests : List ℕ → Option (Name × ℕ)) → Results → (place : ℕ) → Statement → List ComplaintView
unheard_at rank requests known place statement = complaint_by rank place (fault_of (answer_at known (option_and_then requests (request_of statement))))

-- of the statements from a place on
abbrev pub unheard_from : (rank : ℕ) → (requests : List ℕ → Option (Name × ℕ)) → Results → (place : ℕ) → List Statement → List ComplaintView
unheard_from rank requests known place [] = []
unheard_from rank requests known place (statement ∷ more) = complaint_by rank place (option_and_then (λ (told : Answer). fault_line told.outcome) (option_and_then (λ (call : Name × ℕ). known call.0 call.1) (option_and_then requests (request_of statement)))) ++ unheard_from rank requests known (place + 1) more

-- all where the ranks stand so
abbrev pub unheard_in : List Operation → List (List Statement) → (ranks : ℕ) → State → List ComplaintView
unheard_in ops script ranks s = complaints_upto (λ p. unheard_from p (named (s p).requests) (known ops ranks s p) 0 (statements_of script p)) ranks

-- those of a rank of the program, by its table
abbrev pub unheard_found : List Operation → List (List Statement) → Table → (rank : ℕ) → Option TableRank → List ComplaintView
unheard_found ops script t p None = []
unheard_found ops script t p (Some r) = unheard_from p r.requests (answer_on ops t r.me) 0 (slice_index_or script p [])
