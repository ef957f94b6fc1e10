use Rattle.std.proofs.Common.{List, Option, ℕ, [], ◌++◌, map, ap, sym, ◌∙◌}
use Rattle.mpx_name.specs.Name.{Name}
use Rattle.mpx_meaning.specs.Standing.{looked_up}
use Rattle.mpx_eval.specs.Found.{found_calls, missing_view}
use Rattle.mpx_eval.specs.Tables.{table_of}
use Rattle.mpx_eval.specs.Waiting.{asked_then}
use Rattle.mpx_eval.proofs.Waits.{requested_more, seen_more}
use Rattle.mpx_eval.proofs.missing.push_requested.Goals as goal

pub loop-i-preserved : goal.loop-i-preserved
loop-i-preserved c =
    let t = table_of c.args.table.now in
    let f = looked_up c.args.requests.now in
    let w : List ℕ = c.index-words-i.result in
    let had = map missing_view c.loop-i.calls.items in
    let place = c.open_request-place.ensures ∙ sym (c.loop-i.invariant.1 w) in (
      requested_more t c.args.me f c.args.words.now c.loop-i.i w c.loop-i-test.true c.index-words-i.is had (map missing_view c.push_request.new.calls.items)
          (c.in_ok-push_request.ensures ∙ ap (λ (place : Option (Name × ℕ)). had ++ found_calls t c.args.me (asked_then w place [])) place)
          ∙ c.loop-i.invariant.0,
      λ other. seen_more f c.args.words.now c.loop-i.i w c.loop-i-test.true c.index-words-i.is (looked_up c.loop-i.seen) (looked_up c.see.new.seen) other (c.loop-i.invariant.1 other) (c.in_ok-see.ensures other),
    )
