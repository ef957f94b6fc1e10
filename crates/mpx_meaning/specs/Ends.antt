-- How a rank ends: its lines, and where it waits.
use Rattle.std.specs.Prelude.{ℕ, Bool, false, is_some, List, [], ◌∷◌, length, map, slice_get, Option, Some, None}
use Rattle.std.specs.Option.{option_map}
use Rattle.mpx_name.specs.Name.{Name}
use Rattle.mpx_statement.specs.declared.statement.Statement.{Statement}
use Rattle.mpx_statement.specs.declared.statement.Statement.TheVariants.{Post, Wait, Ask}
use Rattle.mpx_statement.specs.Lookups.{named}
use Rattle.mpx_meaning.specs.declared.end.AskedCall.{AskedCall}
use Rattle.mpx_meaning.specs.declared.end.RankEnd.{RankEnd}
use Rattle.mpx_meaning.specs.declared.end.WaitsAt.{WaitsAt}
use Rattle.mpx_meaning.specs.declared.origin.Origin.{Origin}
use Rattle.mpx_meaning.specs.Ranks.{Await, Do, Line, Local, Todo}
use Rattle.mpx_meaning.specs.Reports.{which}
use Rattle.mpx_meaning.specs.Standing.{closed}

-- WHICH CALLS ARE ASKED FOR

-- the word of a request, where a wait names it, and the call
abbrev pub Asked : Type 0
Asked = Option (List ℕ) × (Name × ℕ)

abbrev pub asked_then : List ℕ → Option (Name × ℕ) → List Asked → List Asked
asked_then word None rest = rest
asked_then word (Some place) rest = (Some word, place) ∷ rest

-- by a wait for these words: the calls of the open requests, each once
abbrev pub asked_by : (List ℕ → Option (Name × ℕ)) → List (List ℕ) → List Asked
asked_by requests [] = []
asked_by requests (word ∷ words) = asked_then word (requests word) (asked_by (closed word requests) words)

-- by a statement that is next
abbrev pub asked_at : (List ℕ → Option (Name × ℕ)) → Statement → List Asked
asked_at requests (Post posting) = []
asked_at requests (Wait words) = asked_by requests words
asked_at requests (Ask question) = []

abbrev pub asked_of : (List ℕ → Option (Name × ℕ)) → List Todo → List Asked
asked_of requests [] = []
asked_of requests (Do statement ∷ rest) = asked_at requests statement
asked_of requests (Await name call target ∷ rest) = (None, (name, call)) ∷ []

-- by the next move of a rank
abbrev pub asked : Local → List Asked
asked s = asked_of (named s.requests) s.todo

-- ENDS

-- where a rank waits: how many statements are left, with the one at which it does, and the calls that are asked for there
pub record WaitsAtView : Type 0 where
  pub left : ℕ
  pub calls : List Asked

-- a rank's lines, which statement each belongs to, and where it waits, if it does
pub record EndView : Type 0 where
  pub lines : List Line
  pub origins : List Origin
  pub waits : Option WaitsAtView

abbrev pub waits_with : (List ℕ → Option (Name × ℕ)) → List Todo → Option WaitsAtView
waits_with requests [] = None
waits_with requests (x ∷ rest) = Some (record { left = length (x ∷ rest); calls = asked_of requests (x ∷ rest) })

-- how a rank ends that stands there
abbrev pub end_of : Local → EndView
end_of s = record { lines = s.lines; origins = s.origins; waits = waits_with (named s.requests) s.todo }

-- what the program's values show

abbrev pub asked_view : AskedCall → Asked
asked_view a = (a.request, (a.name, a.call))

abbrev pub waits_at_view : WaitsAt → WaitsAtView
waits_at_view w = record { left = w.left; calls = map asked_view w.calls.items }

abbrev pub end_view : RankEnd → EndView
end_view e = record { lines = e.lines.items; origins = e.origins.items; waits = option_map waits_at_view e.waits }

-- WHO WAITS

abbrev pub end_waits : Option EndView → Bool
end_waits None = false
end_waits (Some e) = is_some e.waits

-- the ranks with these ends that wait
abbrev pub waiting_among : List EndView → List ℕ
waiting_among ends = which (λ p. end_waits (slice_get ends p)) (length ends)
