-- Which bytes spell a board, and what decoding answers.
use Rattle.std.specs.Prelude.{◌≡◌, ◌≤◌, ℕ, ◌-◌, true, nat_lt, nat_eq, List, length, Result, Ok, Err, cond}
use Rattle.mpx_board.specs.Boards.{Look, empty}
use Rattle.mpx_board.specs.Contexts.{look_of}
use Rattle.mpx_board.specs.Parts.{PartsView}
use Rattle.mpx_board.specs.Looks.{parts_of}
use Rattle.mpx_board.specs.declared.board.Board.{Board}
use Rattle.mpx_format.specs.declared.defects.Defect.{Defect}
use Rattle.mpx_format.specs.declared.defects.Defect.TheVariants as F
use Rattle.mpx_format.specs.declared.defects.WireError.{WireError}
use Rattle.mpx_format.specs.declared.defects.WireError.TheVariants as E
use Rattle.mpx_format.specs.declared.versions.Version.{Version}
use Rattle.mpx_format.specs.Format.{not_canonical}
use Rattle.mpx_format.specs.Contexts.{frame}

abbrev pub most_bytes : ℕ
most_bytes = 1048576

-- THE GRAMMAR: the bytes are the version's one spelling of these parts of a board
pub record Spells (version : Version) (bytes : List ℕ) (v : PartsView) : Type 0 where
  pub fits : frame.fits (version, v) ≡ true
  pub bytes_are : bytes ≡ frame.spelling (version, v)
  pub few : length bytes ≤ most_bytes

-- they are so in some version
abbrev pub IsSpelled : List ℕ → PartsView → Type 0
IsSpelled bytes v = (version : Version) × Spells version bytes v

-- THE REFUSALS

-- a fault by its place from the front, of so many bytes
abbrev pub placed : ℕ → Defect → WireError
placed n F.BadMagic = E.BadMagic
placed n F.BadVersion = E.BadVersion
placed n F.ShortFrame = E.ShortFrame
placed n (F.OutOfLimits left) = E.OutOfLimits (n - left)
placed n (F.NotCanonical left) = E.NotCanonical (n - left)

-- the parts, of whichever version, where no bytes are left
abbrev pub ended : ℕ → Result ((Version × PartsView) × List ℕ) Defect → Result PartsView WireError
ended n (Ok x) = cond (nat_eq (length x.1) 0) (Ok x.0.1) (Err (placed n (not_canonical x.1)))
ended n (Err f) = Err (placed n f)

-- the board of the bytes, or the first field that is wrong
unfoldable pub decoded : List ℕ → Result PartsView WireError
decoded bytes = cond (nat_lt most_bytes (length bytes)) (Err E.TooLong) (ended (length bytes) (frame.read bytes))

-- what decoded bytes show; refused ones show nothing
abbrev pub shown : Result PartsView WireError → Look
shown (Ok v) = look_of v
shown (Err e) = empty

-- what the call answers is what decoding gives, unless memory ran out
abbrev pub Refuses : WireError → Result PartsView WireError → Type 0
Refuses E.OutOfMemory answer = Unit {0}
Refuses E.TooLong answer = answer ≡ Err E.TooLong
Refuses E.BadMagic answer = answer ≡ Err E.BadMagic
Refuses E.BadVersion answer = answer ≡ Err E.BadVersion
Refuses E.ShortFrame answer = answer ≡ Err E.ShortFrame
Refuses (E.OutOfLimits at) answer = answer ≡ Err (E.OutOfLimits at)
Refuses (E.NotCanonical at) answer = answer ≡ Err (E.NotCanonical at)

abbrev pub Decodes : Result Board WireError → Result PartsView WireError → Type 0
Decodes (Ok board) answer = answer ≡ Ok (parts_of board)
Decodes (Err e) answer = Refuses e answer
