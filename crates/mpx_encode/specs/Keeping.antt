-- What is kept of what processes say, by their entries.
use Rattle.std.specs.Prelude.{ℕ, List, All}
use Rattle.std.specs.FinMap.{entries}
use Rattle.mpx_board.specs.Parts.{AcksView}
use Rattle.mpx_format.specs.declared.kept.KeptAcks.{KeptAcks}
use Rattle.mpx_format.specs.Kept.{ArePieces, pieces_of}

-- of each process the pieces spell what it says
abbrev pub AreEntriesKept : List KeptAcks → List (ℕ × AcksView) → Type 0
AreEntriesKept kept es = All (λ e. ArePieces (pieces_of kept e.0) (entries e.1)) es
