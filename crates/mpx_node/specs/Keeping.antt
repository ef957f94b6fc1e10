-- That what is kept spells what processes say is a fact: it has one proof at most.
use Rattle.std.specs.Prelude.{ℕ, List, [], ◌∷◌, drop}
use Rattle.std.specs.Coded.{×_prop, Π_prop, Unit-prop, Coded-set, coded_bool, coded_list, coded_ℕ}
use Rattle.std.specs.FinMap.{get}
use Rattle.mpx_board.specs.Parts.{AcksView, OfProcesses}
use Rattle.mpx_format.specs.Kept.{AreKept, ArePieces, Row, piece_rows, pieces_of, rows_of}
use Rattle.mpx_format.specs.declared.kept.KeptAcks.{KeptAcks}

ArePieces-prop : (pieces : List (List ℕ)) (rows : List Row) → IsProp (ArePieces pieces rows)
unfolding ArePieces
ArePieces-prop [] rows = Unit-prop
ArePieces-prop ([] ∷ pieces) rows = ×_prop Unit-prop (ArePieces-prop pieces (drop piece_rows rows))
ArePieces-prop ((b ∷ bytes) ∷ pieces) rows = ×_prop (×_prop (Coded-set (coded_list coded_ℕ) _ _) (Coded-set coded_bool _ _)) (ArePieces-prop pieces (drop piece_rows rows))

AreKept-prop : (kept : List KeptAcks) (acks : OfProcesses AcksView) → IsProp (AreKept kept acks)
AreKept-prop kept acks = Π_prop (λ process. ArePieces-prop (pieces_of kept process) (rows_of (get acks process)))

-- the same by a name that nothing unfolds, for the node's own fact
unfoldable pub IsKept : List KeptAcks → OfProcesses AcksView → Type 0
IsKept kept acks = AreKept kept acks

pub IsKept-prop : (kept : List KeptAcks) (acks : OfProcesses AcksView) → IsProp (IsKept kept acks)
unfolding IsKept
IsKept-prop kept acks = AreKept-prop kept acks

pub named : (kept : List KeptAcks) (acks : OfProcesses AcksView) → AreKept kept acks → IsKept kept acks
unfolding IsKept
named kept acks h = h

pub told : (kept : List KeptAcks) (acks : OfProcesses AcksView) → IsKept kept acks → AreKept kept acks
unfolding IsKept
told kept acks h = h
