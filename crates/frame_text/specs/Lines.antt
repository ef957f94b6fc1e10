-- What the program tells of the lines that it reads.
use Rattle.std.specs.Prelude.{◌≡◌, ℕ, ◌==◌, List, [], ◌∷◌, ◌++◌, cond, codes, Option, IfSome, Result, Ok, Err}
use Rattle.std.specs.Io.KnownBytes.{Appends}
use Rattle.std.specs.List.{flat_map}
use Rattle.std.specs.Fmt.{decimal}
use Rattle.hex.specs.Hex.{decode_of, encode_lower}
use Rattle.hex.specs.declared.error.FromHexError.{FromHexError}
use Rattle.mpx_board.specs.Parts.{PartsView}
use Rattle.mpx_format.specs.declared.defects.WireError.{WireError}
use Rattle.mpx_format.specs.declared.defects.WireError.TheVariants as E
use Rattle.mpx_format.specs.declared.versions.Version.TheVariants.{Two}
use Rattle.mpx_format.specs.Contexts.{frame}
use Rattle.mpx_format.specs.Decoding.{decoded}
use Rattle.mpx_format.specs.Encoding.{is_too_long}

-- what stands behind the last line feed, where it is something
abbrev pub last_line : List ℕ → List (List ℕ)
last_line [] = []
last_line (b ∷ line) = (b ∷ line) ∷ []

-- the lines of a text, each without its line feed; this much of the first one stands before it
abbrev pub lines_after : (line text : List ℕ) → List (List ℕ)
lines_after line [] = last_line line
lines_after line (b ∷ text) = cond (b == 10) (line ∷ lines_after [] text) (lines_after (line ++ b ∷ []) text)

abbrev pub lines : List ℕ → List (List ℕ)
lines text = lines_after [] text

-- what is told of a board: the hexadecimal digits of its frame in version 2, whichever version it was read in
abbrev pub board_told : PartsView → List ℕ
board_told v = cond (is_too_long v) (codes "ok TooLong") (codes "ok " ++ encode_lower (frame.spelling (Two, v)))

-- why bytes spell no board
abbrev pub refusal_told : WireError → List ℕ
refusal_told E.TooLong = codes "TooLong"
refusal_told E.BadMagic = codes "BadMagic"
refusal_told E.BadVersion = codes "BadVersion"
refusal_told E.ShortFrame = codes "ShortFrame"
refusal_told (E.OutOfLimits offset) = codes "OutOfLimits(" ++ decimal offset ++ codes ")"
refusal_told (E.NotCanonical offset) = codes "NotCanonical(" ++ decimal offset ++ codes ")"
refusal_told E.OutOfMemory = []

abbrev pub answer_told : Result PartsView WireError → List ℕ
answer_told (Ok v) = board_told v
answer_told (Err e) = refusal_told e

-- of bytes
abbrev pub frame_told : List ℕ → List ℕ
frame_told bytes = answer_told (decoded bytes)

abbrev pub digits_told : Result (List ℕ) FromHexError → List ℕ
digits_told (Ok bytes) = frame_told bytes
digits_told (Err e) = codes "not hex"

-- of a line
abbrev pub line_told : List ℕ → List ℕ
line_told line = digits_told (decode_of line) ++ 10 ∷ []

-- of all lines
abbrev pub all_told : List ℕ → List ℕ
all_told text = flat_map line_told (lines text)

-- what is told of all that the reader gives is out
pub record PrintsLines (there old new : Option (List ℕ)) : Type 0 where
  pub text : List ℕ
  pub all : IfSome there (λ bytes. text ≡ bytes)
  pub written : Appends old new (all_told text)
