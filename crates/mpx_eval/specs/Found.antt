-- Who waits and what ranks complain of, as the program finds it by its ranks and their table.
use Rattle.std.specs.Prelude.{ℕ, ◌+◌, ◌-◌, Bool, not, List, [], length, map, slice_index_or, Option, Some, None}
use Rattle.std.specs.List.{filter}
use Rattle.mpx_statement.specs.declared.statement.Statement.{Statement}
use Rattle.mpx_meaning.specs.Standing.{awaited, todo_of}
use Rattle.mpx_meaning.specs.Transcripts.{line_text}
use Rattle.mpx_eval.specs.declared.complaints.Complaint.{Complaint}
use Rattle.mpx_eval.specs.declared.missing.MissingCall.{MissingCall}
use Rattle.mpx_eval.specs.declared.who_waits.WaitingRank.{WaitingRank}
use Rattle.mpx_eval.specs.Complaints.{ComplaintView, complaints_at}
use Rattle.mpx_eval.specs.Lacking.{missing_there}
use Rattle.mpx_eval.specs.Places.{TableRank}
use Rattle.mpx_eval.specs.Tables.{Table, is_answered}
use Rattle.mpx_eval.specs.Waiting.{Asked, MissingCallView, WaitingView, asked_of}

-- what the program's values show

abbrev pub missing_view : MissingCall → MissingCallView
missing_view m = record { request = m.request; name = m.name; call = m.call; missing = m.missing.items }

abbrev pub waiting_view : WaitingRank → WaitingView
waiting_view w = record { rank = w.rank; statement = w.statement; calls = map missing_view w.calls.items }

abbrev pub complaint_view : Complaint → ComplaintView
complaint_view c = record { rank = c.rank; statement = c.statement; text = line_text c.line }

-- a call, and who has not posted to it by the table
abbrev pub found_call : Table → Asked → MissingCallView
found_call t a = record { request = a.0; name = a.1.0; call = a.1.1; missing = missing_there (t a.1.0) a.1.1 }

-- the table gives a process no answer to this call
abbrev pub is_open : Table → (me : ℕ) → Asked → Bool
is_open t me a = not (is_answered t me a.1.0 a.1.1)

-- those of these calls whose answers the table doesn't give the process
abbrev pub found_calls : Table → (me : ℕ) → List Asked → List MissingCallView
found_calls t me asked = map (found_call t) (filter (is_open t me) asked)

-- those of a rank's next move
abbrev pub calls_found : Table → TableRank → List MissingCallView
calls_found t r = found_calls t r.me (asked_of r.requests (todo_of r.waits r.todo))

-- where a rank waits, and for what
abbrev pub found_at : List (List Statement) → Table → (rank : ℕ) → Option TableRank → WaitingView
found_at script t p None = record { rank = p; statement = 0; calls = [] }
found_at script t p (Some r) = record {
  rank = p;
  statement = length (slice_index_or script p []) - (awaited r.waits + length r.todo);
  calls = calls_found t r;
}

-- the complaints of a rank that stands there
abbrev pub complaints_found : List (List Statement) → (rank : ℕ) → Option TableRank → List ComplaintView
complaints_found script p None = []
complaints_found script p (Some r) = complaints_at p (slice_index_or script p []) r.lines r.origins
