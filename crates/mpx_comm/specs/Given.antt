-- The numbers that a call gives.
use Rattle.std.specs.Prelude.{◌≡◌, List, [], length, ℤ, Result, Ok, Err}
use Rattle.std.specs.List.{Any}
use Rattle.mpx_match.specs.declared.faults.Fault.{Fault as FaultView}
use Rattle.mpx_num.specs.Types.{IsOutOfRange}
use Rattle.mpx_num.specs.declared.types.Ty.{Ty}
use Rattle.mpx_value.specs.declared.outcomes.Outcome.{Outcome}
use Rattle.mpx_value.specs.declared.outcomes.Outcome.TheVariants.{Nothing, Absent, Items, NewComm, Null, Fault}
use Rattle.mpx_comm.specs.declared.given.GivenError.{GivenError}
use Rattle.mpx_comm.specs.declared.given.GivenError.TheVariants as G

-- what an outcome gives of numbers, or the fault of the posts
abbrev pub numbers_given : Outcome → Result (List ℤ) FaultView
numbers_given (Items items) = Ok items.nums
numbers_given (Fault fault) = Err fault
numbers_given Nothing = Ok []
numbers_given Absent = Ok []
numbers_given (NewComm name size rank) = Ok []
numbers_given Null = Ok []

-- why there is no list of integers of this type
abbrev pub IsWhyNone : Ty → (given : Result (List ℤ) FaultView) → GivenError → Type 0
IsWhyNone ty (Err fault) why = why ≡ G.Fault fault
IsWhyNone ty (Ok numbers) (G.Fault fault) = ⊥
IsWhyNone ty (Ok numbers) G.OutOfRange = Any (IsOutOfRange ty) numbers
IsWhyNone ty (Ok numbers) G.OutOfMemory = Unit {0}

-- there is a fault, or not one number, or it is out of the type's range
abbrev pub IsNotOne : Ty → (given : Result (List ℤ) FaultView) → Type 0
IsNotOne ty (Err fault) = Unit {0}
IsNotOne ty (Ok numbers) = length numbers ≡ 1 → Any (IsOutOfRange ty) numbers
