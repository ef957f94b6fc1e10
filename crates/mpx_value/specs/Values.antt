-- What a call gives its members (MPI 4.1, sections 6.3 to 6.11, 7.4.2, 7.4.3, 8.5.4 and 8.6).
use Rattle.std.specs.Prelude.{◌≡◌, ℕ, cond, List, [], ◌∷◌, length, slice_index_or, Result, Ok, Err}
use Rattle.std.specs.Option.{option_map_or}
use Rattle.join_core.specs.declared.memory.OutOfMemory.{OutOfMemory}
use Rattle.mpx_num.specs.declared.own.Operation.{Operation}
use Rattle.mpx_match.specs.declared.faults.FaultKind.TheVariants.{Amount}
use Rattle.mpx_match.specs.declared.faults.Verdict.{Verdict}
use Rattle.mpx_match.specs.declared.faults.Verdict.TheVariants as V
use Rattle.mpx_match.specs.Verdicts.{verdict}
use Rattle.mpx_fold.specs.Folds.{fold_of}
use Rattle.mpx_move.specs.Moves.{move_of}
use Rattle.mpx_neigh.specs.Neighbourhoods.{neigh_given}
use Rattle.mpx_post.specs.declared.value.Value.{Value}
use Rattle.mpx_post.specs.declared.value.Value.TheVariants as G
use Rattle.mpx_kind.specs.declared.kinds.Kind.{Kind}
use Rattle.mpx_kind.specs.declared.kinds.Kind.TheVariants as K
use Rattle.mpx_name.specs.Name.{Name}
use Rattle.mpx_birth.specs.Births.{BirthView, rank_in}
use Rattle.mpx_post.specs.Rows.{RowView}
use Rattle.mpx_post.specs.Agreement.{first_of}
use Rattle.mpx_value.specs.declared.outcomes.Outcome.{Outcome}
use Rattle.mpx_value.specs.declared.outcomes.Outcome.TheVariants.{Nothing, Absent, Items, NewComm, Null, Fault}
use Rattle.mpx_value.specs.Children.{children_in, has_room, named_children}

abbrev pub as_outcome : Value → Outcome
as_outcome G.Nothing = Nothing
as_outcome G.Absent = Absent
as_outcome (G.Items items) = Items items

-- which of these communicators has the process, with its size and the process's rank; null where none has it
abbrev pub place_among : List (Name × BirthView) → (process : ℕ) → Outcome
place_among [] process = Null
place_among (new ∷ rest) process = option_map_or (λ rank. NewComm new.0 (length new.1.members) rank) (rank_in process new.1.members) (place_among rest process)

-- what a fine row gives the process by the communicators that it makes; a name that can have no further step is a fault
abbrev pub new_communicator : BirthView → RowView → Name → (call process : ℕ) → Outcome
new_communicator birth row name call process = cond (has_room name) (place_among (named_children name call (children_in (first_of row).kind birth row)) process) (Fault (record { what = Amount; rank = 0 }))

-- what a fine row of this kind gives the member with this rank, by the job's own operations
abbrev pub given_as : Kind → List Operation → BirthView → RowView → Name → (call rank : ℕ) → Outcome
given_as (K.Exchange exchange) ops birth row name call rank = as_outcome (move_of exchange row rank)
given_as (K.Reduction reduction) ops birth row name call rank = as_outcome (fold_of ops reduction row rank)
given_as (K.Neighbourhood exchange) ops birth row name call rank = as_outcome (neigh_given exchange birth.topology row rank)
given_as (K.NewCommunicator new) ops birth row name call rank = new_communicator birth row name call (slice_index_or birth.members rank 0)
given_as K.Free ops birth row name call rank = Nothing

-- the fault, told to all members, else what is given
abbrev pub or_fault : Verdict → Outcome → Outcome
or_fault V.Fine given = given
or_fault (V.Fault fault) given = Fault fault

-- what the call gives the member with this rank, by the job's own operations
unfoldable pub value : List Operation → BirthView → RowView → Name → (call rank : ℕ) → Outcome
value ops birth row name call rank = or_fault (verdict ops birth.topology row) (given_as (first_of row).kind ops birth row name call rank)

-- whether an outcome has items, or tells which of the new communicators the process is in: the others are told without memory
abbrev pub IsMade : Outcome → Type 0
IsMade Nothing = ⊥
IsMade Absent = ⊥
IsMade (Fault fault) = ⊥
IsMade outcome = Unit {0}

-- an answer is the outcome, or want of memory in the place of one that is made
abbrev pub GivesOutcome : Outcome → Result Outcome OutOfMemory → Type 0
GivesOutcome outcome (Ok given) = given ≡ outcome
GivesOutcome outcome (Err e) = IsMade outcome
