-- Which refused lines of a script are told, and how: one after the other, each by what its reader refuses where those before it are left out. What is told
-- beside a line is any text.
use Rattle.std.specs.Prelude.{◌≡◌, ℕ, zero, suc, ◌+◌, ◌-◌, ◌≤◌, ◌==◌, nat_lt, ◌⊎◌, Bool, true, false, List, [], ◌∷◌, ◌++◌, codes, slice_set, Option, Some, None, Result, Ok, Err}
use Rattle.std.specs.List.{join_with_byte, slice_split}
use Rattle.mpx_num.specs.declared.own.Operation.{Operation}
use Rattle.mpx_script.specs.Faults.{error_text}
use Rattle.mpx_script.specs.Reading.{reading}
use Rattle.mpx_script.specs.ScriptView.{ScriptView}
use Rattle.mpx_script.specs.declared.faults.ScriptError.{ScriptError}
use Rattle.mpx_script.specs.declared.faults.ScriptFault.{ScriptFault}
use Rattle.mpx_script.specs.declared.faults.ScriptFault.TheVariants.{TooLarge, NoRanksLine, RanksOutOfRange, NameUnknown}

-- WHAT IS LEFT OF A TEXT

-- one text begins with another
pub record Keeps (old new : List ℕ) : Type 0 where
  pub more : List ℕ
  pub is : new ≡ old ++ more

-- the lines of a text, as line feeds (10) part it
abbrev pub text_lines : (text : List ℕ) → List (List ℕ)
text_lines text = slice_split (λ byte. byte == 10) text

-- a text in which this line stands in the place of the one with that number, from 1 on
abbrev pub with_line : (text : List ℕ) → (number : ℕ) → (line : List ℕ) → List ℕ
with_line text number line = join_with_byte 10 (slice_set (text_lines text) (number - 1) line)

-- a text without the line that is refused: nothing stands there
abbrev pub without_refused : Result ScriptView ScriptError → (text : List ℕ) → List ℕ
without_refused (Ok script) text = text
without_refused (Err refusal) text = with_line text refusal.line []

abbrev pub left_of : List Operation → (text : List ℕ) → List ℕ
left_of ops text = without_refused (reading ops text) text

-- what is left of a text once so many refused lines are left out, each the one that is refused then
abbrev pub left_after : List Operation → (text : List ℕ) → (count : ℕ) → List ℕ
left_after ops text zero = text
left_after ops text (suc n) = left_of ops (left_after ops text n)

abbrev pub refusal_in : Result ScriptView ScriptError → Option ScriptError
refusal_in (Ok script) = None
refusal_in (Err refusal) = Some refusal

-- nothing can be said of the lines behind
abbrev pub ends_all : ScriptFault → Bool
ends_all TooLarge = true
ends_all NoRanksLine = true
ends_all RanksOutOfRange = true
ends_all what = false

-- LINES

abbrev pub refusal_text : (is_told : Bool) → ScriptError → List ℕ
refusal_text false refusal = []
refusal_text true refusal = error_text refusal ++ codes "\n"

-- two blanks to the right, if there is anything
abbrev pub beside_text : Option (List ℕ) → List ℕ
beside_text None = []
beside_text (Some text) = codes "  " ++ text ++ codes "\n"

-- a refusal is told, unless it is told already, and what is beside it
pub record IsRefusalTold (is_told : Bool) (refusal : ScriptError) (old new : List ℕ) : Type 0 where
  pub beside : Option (List ℕ)
  pub is : new ≡ old ++ refusal_text is_told refusal ++ beside_text beside

-- the same; of one that is passed over nothing is told, since its name isn't known
abbrev pub IsToldOrPassed : (is_passed is_told : Bool) → ScriptError → (old new : List ℕ) → Type 0
IsToldOrPassed false is_told refusal old new = IsRefusalTold is_told refusal old new
IsToldOrPassed true is_told refusal old new = (refusal.what ≡ NameUnknown) × (new ≡ old)

-- a line that is refused is told so, or is passed over
abbrev pub IsLineTold : (is_passed is_told : Bool) → Result ScriptView ScriptError → (old new : List ℕ) → Type 0
IsLineTold is_passed is_told (Ok script) old new = ⊥
IsLineTold is_passed is_told (Err refusal) old new = IsToldOrPassed is_passed is_told refusal old new

-- how many lines are told with one more, unless that is passed over
abbrev pub with_line_told : (is_passed : Bool) → (many : ℕ) → ℕ
with_line_told true many = many
with_line_told false many = many + 1

-- so many lines are left out, each in what the ones before it leave, and so many of them are told; the first refusal is told already
abbrev pub AreLinesTold : List Operation → (text : List ℕ) → (count many : ℕ) → (old new : List ℕ) → Type 0
AreLinesTold ops text zero many old new = (many ≡ 0) × (new ≡ old)
AreLinesTold ops text (suc n) many old new =
    (mid : List ℕ) × (before : ℕ) × (is_passed : Bool) × AreLinesTold ops text n before old mid × (many ≡ with_line_told is_passed before) × IsLineTold is_passed (nat_lt 0 n) (reading ops (left_after ops text n)) mid new

-- that there are further ones, where there is one
abbrev pub IsMoreTold : Result ScriptView ScriptError → (old new : List ℕ) → Type 0
IsMoreTold (Ok script) old new = new ≡ old
IsMoreTold (Err refusal) old new = new ≡ old ++ codes "further lines aren't looked at\n"

-- none is left; or one that nothing is told behind, and what is beside it
abbrev pub IsLastTold : Result ScriptView ScriptError → (old new : List ℕ) → Type 0
IsLastTold (Ok script) old new = new ≡ old
IsLastTold (Err refusal) old new = (ends_all refusal.what ≡ true) × IsRefusalTold false refusal old new

-- the same; or, behind ten that are told or a hundred that are left out, that there are further ones
abbrev pub IsEndTold : (count many : ℕ) → Result ScriptView ScriptError → (old new : List ℕ) → Type 0
IsEndTold count many read old new = IsLastTold read old new ⊎ (((many ≡ 10) ⊎ (count ≡ 100)) × IsMoreTold read old new)

-- the refused lines of a script are told behind others: the first ten, and how they end
pub record AreRefusalsTold (ops : List Operation) (text old new : List ℕ) : Type 0 where
  pub count : ℕ
  pub few : count ≤ 100
  pub many : ℕ
  pub most : many ≤ 10
  pub lines : List ℕ
  pub each : AreLinesTold ops text count many old lines
  pub end : IsEndTold count many (reading ops (left_after ops text count)) lines new

-- before each line but the first stands a line feed
abbrev pub feed_before : (place : ℕ) → List ℕ
feed_before zero = []
feed_before (suc n) = 10 ∷ []
