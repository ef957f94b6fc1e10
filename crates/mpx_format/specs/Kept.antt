-- What processes say that they have, kept as frames spell it: by process, in pieces of some rows each, a row for each context.
use Rattle.std.specs.Prelude.{◌≡◌, ℕ, Bool, ◌&&◌, true, List, [], ◌∷◌, ◌++◌, drop, take, Option, Some, None, slice_get}
use Rattle.std.specs.FinMap.{entries, get}
use Rattle.std.specs.List.{flat_map, list_all}
use Rattle.mpx_name.specs.Name.{Name}
use Rattle.mpx_board.specs.Parts.{AcksView, OfProcesses}
use Rattle.mpx_format.specs.declared.kept.KeptAcks.{KeptAcks}
use Rattle.mpx_format.specs.Fields.{name, numbers}

-- what a process says of one context
abbrev pub Row : Type 0
Row = Name × OfProcesses ℕ

abbrev pub row_spelled : Row → List ℕ
row_spelled row = name.spelling row.0 ++ numbers.spelling row.1

abbrev pub row_fits : Row → Bool
row_fits row = name.fits row.0 && numbers.fits row.1

-- how many rows a piece has; the last may have fewer
abbrev pub piece_rows : ℕ
piece_rows = 8

-- a piece without bytes isn't known; else its bytes spell these rows
abbrev pub IsPiece : List ℕ → List Row → Type 0
IsPiece [] rows = Unit {0}
IsPiece (b ∷ bytes) rows = (b ∷ bytes ≡ flat_map row_spelled rows) × (list_all row_fits rows ≡ true)

-- each piece spells its rows
unfoldable pub ArePieces : List (List ℕ) → List Row → Type 0
ArePieces [] rows = Unit {0}
ArePieces (piece ∷ pieces) rows = IsPiece piece (take piece_rows rows) × ArePieces pieces (drop piece_rows rows)

-- the pieces of the process
abbrev pub of_kept : Option KeptAcks → List (List ℕ)
of_kept None = []
of_kept (Some kept) = kept.pieces.items

abbrev pub pieces_of : List KeptAcks → ℕ → List (List ℕ)
pieces_of kept process = of_kept (slice_get kept process)

-- the rows of the process
abbrev pub rows_of : Option AcksView → List Row
rows_of None = []
rows_of (Some acks) = entries acks

-- of each process the pieces spell what it says
abbrev pub AreKept : List KeptAcks → OfProcesses AcksView → Type 0
AreKept kept acks = (process : ℕ) → ArePieces (pieces_of kept process) (rows_of (get acks process))
