-- A rank, and the lines of its statements.
use Rattle.std.specs.Prelude.{◌≡◌, ℕ, List}
use Rattle.mpx_script.specs.LinesGiven.{lines_given}
use Rattle.mpx_waiting.specs.declared.lines.RankLines.{RankLines}

-- those of this rank, in this text
pub record AreLinesOf (text : List ℕ) (rank : ℕ) (lines : RankLines) : Type 0 where
  pub same : lines.rank ≡ rank
  pub numbers : lines.numbers.items ≡ lines_given rank text
