use Rattle.std.proofs.Common.{◌≡◌, ◌∙◌, ◌++◌, List, ℕ, ap, map, refl, sym}
use Rattle.mpx_eval.specs.Found.{missing_view}
use Rattle.mpx_eval.specs.Waiting.{MissingCallView}
use Rattle.mpx_meaning.specs.Ends.{Asked, asked_view, waits_at_view}
use Rattle.mpx_meaning.specs.declared.end.AskedCall.{AskedCall}
use Rattle.mpx_explain.specs.RunEnds.{FirstView, calls_of, first_view, firsts_of, place_with, process_of, served_by, unmade_by}
use Rattle.mpx_explain.proofs.FoundEnds.{earlier_appended, served_at_place, unmade_at_place, waiting_pushed}
use Rattle.mpx_explain.proofs.ends.push_waiting.Goals as goal

pub returns : goal.returns
returns c =
    let run = c.args.run.now in
    let rank = c.args.rank in
    let w = waits_at_view c.args.waits.now in
    let place = c.statement_with-statement.result in
    let asked = c.as_slice-asked.result.now in
    let same : asked ≡ c.args.waits.now.calls.items = c.as_slice-asked.ensures.value in
    let calls : map missing_view c.in_ok-calls.calls.items ≡ calls_of run (process_of run rank) w.calls = c.in_ok-calls.ensures.calls ∙ ap (λ (xs : List AskedCall). calls_of run (process_of run rank) (map asked_view xs)) same in
    let firsts : map first_view c.calls_at.new.firsts.items ≡ firsts_of run (rank, place) (process_of run rank) w.calls = c.in_ok-calls.ensures.firsts ∙ ap (λ (xs : List AskedCall). firsts_of run (rank, place) (process_of run rank) (map asked_view xs)) same in
    record {
      waiting = waiting_pushed run rank w c.args.end.now.waiting.items c.push.new.self.items (record { rank = rank; statement = place; calls = c.in_ok-calls.calls }) c.in_ok-push.ensures.items refl c.statement_with-statement.ensures calls;
      earlier = earlier_appended run rank place w c.args.end.now.earlier.items c.calls_at.new.firsts.items c.append.new.self.items c.statement_with-statement.ensures firsts c.in_ok-append.ensures.items;
      served = served_at_place run rank place w asked c.as_slice.result.now c.as_slice-2.result.now c.args.end.now.served.items c.push_where.new.places.items c.is_served-served.result c.statement_with-statement.ensures (ap (map asked_view) same)
          (ap (map missing_view) c.as_slice.ensures.value ∙ calls) (ap (map first_view) c.as_slice-2.ensures.value ∙ firsts) (c.is_served-served.ensures (rank, place)) c.in_ok-push_where.ensures;
      unmade = unmade_at_place run rank place w asked c.args.end.now.unmade.items c.push_where-2.new.places.items c.is_empty.result c.statement_with-statement.ensures (ap (map asked_view) same) c.is_empty.ensures c.in_ok-push_where-2.ensures;
    }
