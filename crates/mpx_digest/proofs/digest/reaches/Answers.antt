-- One call more; a call has a next number.
use Rattle.std.proofs.Common.{◌+◌, ◌∷◌, drop, get_or, ap, sym, ◌∙◌}
use Rattle.std.proofs.lemmas.List.{at_drop_more, get_or-replicate}
use Rattle.std.specs.FinMap.{entries_sorted}
use Rattle.join_nest.specs.Seen.{seen}
use Rattle.mpx_board.specs.Tidy.{is_tidy_call}
use Rattle.mpx_board.specs.Views.{view_of_call, view_of_calls}
use Rattle.mpx_digest.proofs.Steps.{passes_at}
use Rattle.mpx_digest.proofs.Passing.{passed, passed_is_reach}
use Rattle.mpx_digest.proofs.Reaching.{low_calls}
use Rattle.mpx_digest.proofs.digest.reaches.Goals as goal

pub loop-call-init : goal.loop-call-init
loop-call-init c p lt =
    let calls = view_of_calls c.args.calls.now in
    ap (λ n. passed p n (seen view_of_call c.entries-call-items.result.now)) (get_or-replicate 64 p _ 0 lt ∙ c.dropped-numbers.ensures)
    ∙ ap (passed p calls.dropped) c.entries-call-items.ensures.entries
    ∙ passed_is_reach p calls.dropped _ (entries_sorted calls.calls) calls.above

pub reach_call-requires : goal.reach_call-requires
reach_call-requires c = low_calls c.call-item.result.0 _ (passes_at view_of_call (λ x. is_tidy_call x.0 x.1) c.entries-call-items.result.now _ c.loop-call.call-index c.call-item.result c.loop-call-test.true c.call-item.is c.entries-call-items.ensures.entries c.requires)

pub loop-call-preserved : goal.loop-call-preserved
loop-call-preserved c p lt =
    let es = c.entries-call-items.result.now in
    let i = c.loop-call.call-index in
    let n = get_or c.loop-call.numbers p 0 in
    ap (λ m. passed p m (seen view_of_call (drop (i + 1) es))) (c.reach_call.ensures p lt)
    ∙ ap (λ e. passed p n (seen view_of_call (e ∷ drop (i + 1) es))) c.call-item.is
    ∙ sym (at_drop_more (λ l. passed p n (seen view_of_call l)) es i c.call-item.result c.loop-call-test.true)
    ∙ c.loop-call.invariant p lt
