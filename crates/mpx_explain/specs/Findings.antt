-- Calls that are named in lines: each is one that was refused or is a fault, at the line of its statement, with what the transcript says.
use Rattle.std.specs.Prelude.{◌≡◌, ℕ, ◌-◌, List, ◌++◌, codes, length, map, string_bytes, take}
use Rattle.std.specs.List.{flat_map}
use Rattle.mpx_eval.specs.Complaints.{ComplaintView}
use Rattle.mpx_script.specs.LinesGiven.{lines_given}
use Rattle.mpx_waiting.specs.ToldLines.{line_at, more_text, start_text}
use Rattle.mpx_explain.specs.declared.named.NamedCall.{NamedCall}

-- a rank, the line of the statement of one of its calls, and what the transcript says of that
pub record ToldCall : Type 0 where
  pub rank : ℕ
  pub line : ℕ
  pub text : List ℕ

-- that of a complaint, where the rank's statements have these lines
abbrev pub placed_at : (numbers : List ℕ) → ComplaintView → ToldCall
placed_at numbers c = record { rank = c.rank; line = line_at numbers c.statement; text = c.text }

-- the same in a script's text
abbrev pub placed_call : (text : List ℕ) → ComplaintView → ToldCall
placed_call text c = placed_at (lines_given c.rank text) c

-- what is named, but for the reason behind it
abbrev pub named_view : NamedCall → ToldCall
named_view n = record { rank = n.rank; line = n.line; text = string_bytes n.text }

-- the line of what is named, with the reason behind it
abbrev pub named_text : NamedCall → List ℕ
named_text n = start_text n.rank n.line ++ string_bytes n.text ++ string_bytes n.why ++ codes "\n"

-- lines are told behind others: of these calls each has one, in their order, the first hundred, and one says how many more there are
pub record AreTold (text : List ℕ) (calls : List ComplaintView) (old new : List ℕ) : Type 0 where
  pub named : List NamedCall
  pub each : map named_view named ≡ map (placed_call text) (take 100 calls)
  pub told : new ≡ (old ++ flat_map named_text named) ++ more_text (length calls - 100)
