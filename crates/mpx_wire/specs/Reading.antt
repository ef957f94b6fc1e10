-- What reading the frame of a board may answer.
use Rattle.std.specs.Prelude.{◌≡◌, Result, Ok, Err}
use Rattle.mpx_board.specs.Looks.{parts_of}
use Rattle.mpx_board.specs.declared.board.Board.{Board}
use Rattle.mpx_format.specs.declared.defects.Defect.TheVariants.{BadMagic}
use Rattle.mpx_format.specs.declared.defects.WireError.{WireError}
use Rattle.mpx_format.specs.declared.defects.WireError.TheVariants as E
use Rattle.mpx_format.specs.declared.versions.Version.{Version}
use Rattle.mpx_format.specs.Codes.{version_byte}
use Rattle.mpx_format.specs.Format.{Format, mark}

-- what stands before the parts of a board: MPXG and the version
abbrev pub front : Format Version
front = mark BadMagic 77 (mark BadMagic 80 (mark BadMagic 88 (mark BadMagic 71 version_byte)))

-- that board, or that memory ran out
abbrev pub IsReadBack : Board → Result Board WireError → Type 0
IsReadBack board (Ok again) = parts_of again ≡ parts_of board
IsReadBack board (Err refusal) = refusal ≡ E.OutOfMemory
