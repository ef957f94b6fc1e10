use Rattle.std.proofs.Common.{◌++◌, ◌∷◌, [], None, map, ap, sym, ◌∙◌}
use Rattle.std.specs.Option.{option_copied, option_map}
use Rattle.mpx_meaning.specs.Ranks.{doing}
use Rattle.mpx_eval.specs.Found.{found_calls, missing_view}
use Rattle.mpx_eval.specs.Carrying.{at_place, shown}
use Rattle.mpx_eval.specs.Tables.{table_of}
use Rattle.mpx_eval.specs.Waiting.{asked_by, asked_of}
use Rattle.mpx_eval.proofs.Waits.{awaits_found, next_found, requests_same}
use Rattle.mpx_eval.proofs.missing.missing_calls.Goals as goal
use Rattle.mpx_eval.proofs.missing.missing_calls.Goals.{in-Some+in_ok-push_missing-in-Some, in-None+in_ok-push_requested-in-None}

pub returns : goal.returns
returns c =
    let t = table_of c.args.table.now in
    let r = shown c.args.place.now in
    elim c.match-awaited.branch [
      | in-Some+in_ok-push_missing-in-Some w ↦
          ap (λ calls. map missing_view calls.items) w.calls-is
          ∙ w.in_ok-push_missing-in-Some.ensures
          ∙ (λ i. map missing_view (c.new-calls.ensures.items i) ++ found_calls t (w.me.ensures i) ((None, (w.in-Some.awaited.now.0, w.in-Some.awaited.now.1)) ∷ []))
          ∙ awaits_found t r w.in-Some.awaited.now.0 w.in-Some.awaited.now.1 (sym c.awaited.ensures ∙ ap (λ o. option_map at_place (option_copied o)) w.in-Some.is)
      | in-None+in_ok-push_requested-in-None w ↦
          ap (λ calls. map missing_view calls.items) w.calls-is
          ∙ w.in_ok-push_requested-in-None.ensures
          ∙ (λ i. map missing_view (c.new-calls.ensures.items i) ++ found_calls t (w.me-in-None.ensures i) (asked_by ((requests_same w.requests.result.now ∙ w.requests.ensures) i) w.words_next-words.result.now))
          ∙ next_found t r w.words_next-words.result.now (sym c.awaited.ensures ∙ ap (λ o. option_map at_place (option_copied o)) w.in-None.is)
          (w.words_next-words.ensures r.requests ∙ ap (λ xs. asked_of r.requests (doing xs)) w.todo.ensures)
    ]
