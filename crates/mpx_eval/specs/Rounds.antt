-- Ranks that go on with their statements by a table of what all have posted.
use Rattle.std.specs.Prelude.{◌≡◌, ℕ, ◌+◌, ◌<◌, Bool, false, List, [], ◌∷◌, length, slice_get, slice_index_or, Option, Some, None}
use Rattle.std.proofs.Common.{set}
use Rattle.std.specs.Option.{option_map}
use Rattle.mpx_num.specs.declared.own.Operation.{Operation}
use Rattle.mpx_statement.specs.Lookups.{named}
use Rattle.mpx_statement.specs.declared.statement.Statement.{Statement}
use Rattle.mpx_meaning.specs.Ranks.{step}
use Rattle.mpx_meaning.specs.Evaluation.{State, IsEvaluation, IsQuiet, IsReached, bound_at_start, known}
use Rattle.mpx_rank.specs.Places.{StandsInScript, bound_as}
use Rattle.mpx_eval.specs.Places.{TableRank, posted_by}
use Rattle.mpx_rank.specs.Moves.{is_waiting, left_of}
use Rattle.mpx_eval.specs.Tables.{TableShows, Table}

-- all ranks stand there in the script, and the table shows their posts
pub record AreIn (ops : List Operation) (ranks : ℕ) (rs : List TableRank) (t : Table) (s : State) : Type 0 where
  pub count : length rs ≡ ranks
  pub each : (p : ℕ) (r : TableRank) → slice_get rs p ≡ Some r → (r.me ≡ p) × StandsInScript r (s p)
  pub shows : TableShows ops ranks t (posted_by s)
  pub quiet : IsQuiet ranks s

-- moves lead from where the ranks stood to where they stand; without a move that is the same
pub record Led (ops : List Operation) (script : List (List Statement)) (ranks : ℕ) (from : State) (rs : List TableRank) (t : Table) (moved : Bool) : Type 0 where
  pub to : State
  pub reached : IsReached ops script ranks to
  pub are : AreIn ops ranks rs t to
  pub still : moved ≡ false → to ≡ from

-- rank p has no move
abbrev pub IsStuck : List Operation → (ranks : ℕ) → State → (p : ℕ) → Type 0
IsStuck ops ranks s p = step ops (known ops ranks s p) (s p) ≡ None

-- in the place of one among all ranks stands the other, which has moved on
abbrev pub RankLeads : List Operation → (old : TableRank) (before : Table) (new : TableRank) (after : Table) (moved : Bool) → Type 0
RankLeads ops old before new after moved = (script : List (List Statement)) (ranks p : ℕ) (s : State) (rs : List TableRank) → p < ranks → slice_get rs p ≡ Some old
    → IsReached ops script ranks s → AreIn ops ranks rs before s → Led ops script ranks s (set rs p new) after moved

-- the same until it has no move
abbrev pub LeadsToEnd : List Operation → (old : TableRank) (before : Table) (new : TableRank) (after : Table) (moved : Bool) → Type 0
LeadsToEnd ops old before new after moved = (script : List (List Statement)) (ranks p : ℕ) (s : State) (rs : List TableRank) → p < ranks → slice_get rs p ≡ Some old
    → IsReached ops script ranks s → AreIn ops ranks rs before s → (led : Led ops script ranks s (set rs p new) after moved) × IsStuck ops ranks led.to p

-- the first ranks, up to this number, have gone on so
abbrev pub Round : List Operation → (old : List TableRank) (before : Table) (new : List TableRank) (after : Table) (moved : Bool) (number : ℕ) → Type 0
Round ops old before new after moved number = (script : List (List Statement)) (ranks : ℕ) (s : State) → IsReached ops script ranks s → AreIn ops ranks old before s
    → Led ops script ranks s new after moved × (moved ≡ false → (p : ℕ) → p < number → IsStuck ops ranks s p)

-- rounds have led there
abbrev pub Rounds : List Operation → (old : List TableRank) (before : Table) (new : List TableRank) (after : Table) → Type 0
Rounds ops old before new after = (script : List (List Statement)) (ranks : ℕ) (s : State) → IsReached ops script ranks s → AreIn ops ranks old before s
    → (u : State) × IsReached ops script ranks u × AreIn ops ranks new after u

-- this is where the evaluation ends
pub record AreAtEnd (ops : List Operation) (script : List (List Statement)) (ranks : ℕ) (rs : List TableRank) (t : Table) : Type 0 where
  pub end : State
  pub evaluation : IsEvaluation ops script ranks end
  pub are : AreIn ops ranks rs t end

-- so much is left at most
abbrev pub all_left : List TableRank → ℕ
all_left [] = 0
all_left (r ∷ rs) = left_of r + all_left rs

-- rank p before its statements
pub record StartsAt (script : List (List Statement)) (ranks p : ℕ) (r : TableRank) : Type 0 where
  pub me : r.me ≡ p
  pub bound : (word : List ℕ) → option_map bound_as (r.bound word) ≡ named (bound_at_start ranks) word
  pub requests : (word : List ℕ) → r.requests word ≡ None
  pub todo : r.todo ≡ slice_index_or script p []
  pub waits : r.waits ≡ None
  pub lines : r.lines ≡ []
  pub origins : r.origins ≡ []

-- the first so many ranks before their statements
pub record Start (script : List (List Statement)) (ranks count : ℕ) (rs : List TableRank) : Type 0 where
  pub count_is : length rs ≡ count
  pub each : (p : ℕ) (r : TableRank) → slice_get rs p ≡ Some r → StartsAt script ranks p r

abbrev pub is_waiting_at : Option TableRank → Bool
is_waiting_at None = false
is_waiting_at (Some r) = is_waiting r
