use Rattle.std.proofs.Common.{◌≡◌, map}
use Rattle.std.specs.Prelude.{slice_get}
use Rattle.mpx_meaning.specs.Reports.{which}
use Rattle.mpx_eval.specs.Found.{found_at, waiting_view}
use Rattle.mpx_eval.specs.Rounds.{is_waiting_at}
use Rattle.mpx_eval.specs.Carrying.{shown}
use Rattle.mpx_eval.specs.Tables.{table_of}
use Rattle.mpx_eval.proofs.who_waits.waiting_ranks.Given as goal

abbrev pub invariant-loop-p : goal.invariant-loop-p
invariant-loop-p l = map waiting_view l.found.items ≡ map (λ p. found_at l.script.statements (table_of l.table) p (slice_get (map shown l.places) p)) (which (λ p. is_waiting_at (slice_get (map shown l.places) p)) l.p)
