-- What a fault prints as. A script's line has a short name in its place.
use Rattle.std.specs.Prelude.{ℕ, List, ◌++◌, codes}
use Rattle.std.specs.Fmt.{decimal}
use Rattle.mpx_match.specs.declared.faults.Fault.{Fault}
use Rattle.mpx_match.specs.declared.faults.FaultKind.{FaultKind}
use Rattle.mpx_match.specs.declared.faults.FaultKind.TheVariants as F

-- what the least rank that differs gives
abbrev pub difference : FaultKind → List ℕ
difference F.Kind = codes "another kind of call"
difference F.Mode = codes "a call that blocks beside one that doesn't"
difference F.Root = codes "another root"
difference F.Op = codes "another operation"
difference F.ItemType = codes "another type of items"
difference F.Amount = codes "another number of items"
difference F.Weights = codes "edges with weights beside edges without"
difference F.Edges = codes "an edge that its other end doesn't tell"
difference F.Groups = codes "another group"

abbrev pub fault_text : Fault → List ℕ
fault_text fault = difference fault.what ++ codes " at rank " ++ decimal fault.rank
