-- The verdict of a row: its first fault, with the least rank that differs.
use Rattle.std.specs.Prelude.{◌≡◌, ℕ, ◌<◌, ◌⊎◌, List, [], ◌∷◌, length, map, Option}
use Rattle.std.specs.Option.{option_map_or}
use Rattle.mpx_num.specs.declared.own.Operation.{Operation}
use Rattle.mpx_post.specs.Rows.{RowView}
use Rattle.mpx_birth.specs.Topologies.{TopologyView}
use Rattle.mpx_match.specs.declared.faults.FaultKind.{FaultKind}
use Rattle.mpx_match.specs.declared.faults.FaultKind.TheVariants.{Kind, Mode, Root, Op, ItemType, Amount, Weights, Edges, Groups}
use Rattle.mpx_match.specs.declared.faults.Verdict.{Verdict}
use Rattle.mpx_match.specs.declared.faults.Verdict.TheVariants.{Fine, Fault}
use Rattle.mpx_match.specs.declared.verdicts.RowQuestion.{RowQuestion}
use Rattle.mpx_match.specs.declared.verdicts.RowQuestion.TheVariants.{Fit, Agree}
use Rattle.mpx_match.specs.Faults.{AgreesIn, Differs}
use Rattle.mpx_match.specs.Questions.{is_faulty, least_from}

-- what is asked of all posts, in this order
abbrev pub questions : List RowQuestion
questions = Fit ∷ map Agree (Kind ∷ Mode ∷ Root ∷ Op ∷ ItemType ∷ Amount ∷ Weights ∷ Edges ∷ Groups ∷ [])

-- what is told: a post that doesn't fit its communicator is a fault of the amounts
abbrev pub told_as : RowQuestion → FaultKind
told_as Fit = Amount
told_as (Agree what) = what

-- in a communicator with this topology, by the job's own operations

-- the posts of all members agree in this
abbrev pub AllAgreeIn : List Operation → Option TopologyView → RowQuestion → RowView → Type 0
AllAgreeIn ops topology question row = (rank : ℕ) → rank < length row → AgreesIn ops topology question row rank

-- this is the least rank that differs in this
pub record IsLeast (ops : List Operation) (topology : Option TopologyView) (question : RowQuestion) (row : RowView) (rank : ℕ) : Type 0 where
  pub within : rank < length row
  pub differs : Differs ops topology question row rank
  pub least : (lower : ℕ) → lower < rank → AgreesIn ops topology question row lower

-- the verdict is the fault of the least rank that differs in this
abbrev pub Tells : List Operation → Option TopologyView → RowQuestion → RowView → Verdict → Type 0
Tells ops topology question row Fine = ⊥
Tells ops topology question row (Fault fault) = (fault.what ≡ told_as question) × IsLeast ops topology question row fault.rank

-- the verdict is the first fault of a row to which these questions are put in this order, and fine where there is none
abbrev pub IsFirstFault : List Operation → Option TopologyView → List RowQuestion → RowView → Verdict → Type 0
IsFirstFault ops topology [] row verdict = verdict ≡ Fine
IsFirstFault ops topology (question ∷ more) row verdict = Tells ops topology question row verdict ⊎ (AllAgreeIn ops topology question row × IsFirstFault ops topology more row verdict)

-- THE SAME, COMPUTED

-- the fault of the first of these questions that some post fails, with the least rank that fails it
abbrev pub first_fault : List Operation → Option TopologyView → List RowQuestion → RowView → Verdict
first_fault ops topology [] row = Fine
first_fault ops topology (question ∷ more) row =
    option_map_or (λ rank. Fault (record { what = told_as question; rank = rank })) (least_from (is_faulty ops topology question row) 0 row) (first_fault ops topology more row)

-- the verdict of a row, in a communicator with this topology, by the job's own operations
unfoldable pub verdict : List Operation → Option TopologyView → RowView → Verdict
verdict ops topology row = first_fault ops topology questions row
