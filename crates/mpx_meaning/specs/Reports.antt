-- What a report says, as text.
use Rattle.std.specs.Prelude.{ℕ, zero, suc, Bool, true, false, cond, List, [], ◌∷◌, ◌++◌, map}
use Rattle.mpx_meaning.specs.Ranks.{Todo}
use Rattle.mpx_meaning.specs.Evaluation.{State}
use Rattle.mpx_meaning.specs.Transcripts.{line_text}
use Rattle.mpx_meaning.specs.declared.end.RankEnd.{RankEnd}
use Rattle.mpx_meaning.specs.declared.report.Report.{Report}

-- the lines of a rank's end
abbrev pub end_text : RankEnd → List (List ℕ)
end_text e = map line_text e.lines.items

-- the lines of each rank
abbrev pub transcripts_of : Report → List (List (List ℕ))
transcripts_of r = map end_text r.ends.items

-- those numbers below n for which the test holds
abbrev pub which : (ℕ → Bool) → ℕ → List ℕ
which test zero = []
which test (suc n) = which test n ++ cond (test n) (n ∷ []) []

-- whether something is left to do
abbrev pub is_left : List Todo → Bool
is_left [] = false
is_left (x ∷ rest) = true

-- the lines of a rank
abbrev pub lines_in : State → ℕ → List (List ℕ)
lines_in s p = map line_text (s p).lines

-- the ranks that have something left to do
abbrev pub waiting_in : State → ℕ → List ℕ
waiting_in s ranks = which (λ p. is_left (s p).todo) ranks
