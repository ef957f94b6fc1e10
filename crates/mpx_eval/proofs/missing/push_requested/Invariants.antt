use Rattle.std.proofs.Common.{◌≡◌, ◌++◌, ℕ, List, None, cond, drop, map, take}
use Rattle.std.specs.Prelude.{is_some}
use Rattle.mpx_meaning.specs.Standing.{closed_all, looked_up}
use Rattle.mpx_eval.specs.Found.{found_calls, missing_view}
use Rattle.mpx_eval.specs.Tables.{table_of}
use Rattle.mpx_eval.specs.Waiting.{asked_by}
use Rattle.mpx_eval.proofs.missing.push_requested.Given as goal

abbrev pub invariant-loop-i : goal.invariant-loop-i
invariant-loop-i l = (map missing_view l.calls.items ++ found_calls (table_of l.table) l.me (asked_by (closed_all (take l.i l.words) (looked_up l.requests)) (drop l.i l.words))
    ≡ map missing_view l.fn.calls.items ++ found_calls (table_of l.table) l.me (asked_by (looked_up l.requests) l.words))
    × ((other : List ℕ) → closed_all (take l.i l.words) (looked_up l.requests) other ≡ cond (is_some (looked_up l.seen other)) None (looked_up l.requests other))
