-- The bytes of frames, as a run makes them.
use Rattle.std.specs.Prelude.{ℕ, List, Result, Ok, Err}
use Rattle.std.specs.FinMap.{empty}
use Rattle.mpx_board.specs.Parts.{PartsView}
use Rattle.mpx_format.specs.declared.defects.WireError.{WireError}
use Rattle.mpx_format.specs.declared.versions.Version.TheVariants.{Two}
use Rattle.mpx_format.specs.Decoding.{Spells, decoded}

-- the parts of a board that were decoded: none where there are none
abbrev pub parts_in : Result PartsView WireError → PartsView
parts_in (Ok v) = v
parts_in (Err e) = (empty, empty)

-- the bytes spell what they decode to
abbrev pub IsFrame : List ℕ → Type 0
IsFrame bytes = Spells Two bytes (parts_in (decoded bytes))
