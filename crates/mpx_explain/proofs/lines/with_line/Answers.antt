use Rattle.std.proofs.Common.{◌≡◌, ◌++◌, ◌==◌, ◌-◌, ℕ, cond, length, take, rules, tests, ap, sym, ◌∙◌}
use Rattle.std.specs.List.{join_with_byte}
use Rattle.std.specs.Prelude.{slice_set}
use Rattle.std.proofs.lemmas.Iterator.Consumers.{YieldsList-at, YieldsList-end, YieldsList-from_enumerate, YieldsList-turn}
use Rattle.std.proofs.lemmas.Iterator.Splits.{YieldsList-from_slice_split}
use Rattle.std.proofs.lemmas.List.{length_push}
use Rattle.mpx_explain.specs.RefusedLines.{text_lines}
use Rattle.mpx_explain.proofs.RefusedTexts.{turn_more, turns_end}
use Rattle.mpx_explain.proofs.lines.with_line.Goals as goal

pub loop-place-preserved : goal.loop-place-preserved
loop-place-preserved c =
    let turn = YieldsList-turn (YieldsList-at c.into_iter-place-iterator.ensures.into_iter_gives (YieldsList-from_enumerate (YieldsList-at c.enumerate-place-items.ensures.source (YieldsList-from_slice_split _ (λ byte. byte == 10) c.args.text.now c.split.ensures.rest c.split.ensures.done c.split.ensures.closure (λ x r q k. search (rules, tests)))) c.enumerate-place-items.ensures.count)) c.loop-place.yielded _ c.loop-place.yielded_by _ _ (c.in-Some.place, c.in-Some.line) c.in-Some.is c.next.ensures.steps in
    let told : c.extend_from_slice.new.self.items ≡ c.push_feed.new.changed.items ++ c.chosen.result.now = search rules in
    turn_more (text_lines c.args.text.now) (c.args.number - 1) (length c.loop-place.yielded) c.in-Some.place c.args.other.now c.in-Some.line.now c.chosen.result.now c.loop-place.changed.items c.push_feed.new.changed.items c.extend_from_slice.new.self.items turn.0 turn.1
    c.loop-place.invariant c.in_ok-push_feed.ensures (c.chosen.ensures ∙ ap (λ (k : ℕ). cond (c.in-Some.place == k) c.args.other.now c.in-Some.line.now) c.saturating_sub-changes.ensures) told
    ∙ ap (λ (n : ℕ). join_with_byte 10 (take n (slice_set (text_lines c.args.text.now) (c.args.number - 1) c.args.other.now))) (sym (length_push c.loop-place.yielded (c.in-Some.place, c.in-Some.line)))

pub returns : goal.returns
returns c =
    let end = YieldsList-end (YieldsList-at c.into_iter-place-iterator.ensures.into_iter_gives (YieldsList-from_enumerate (YieldsList-at c.enumerate-place-items.ensures.source (YieldsList-from_slice_split _ (λ byte. byte == 10) c.args.text.now c.split.ensures.rest c.split.ensures.done c.split.ensures.closure (λ x r q k. search (rules, tests)))) c.enumerate-place-items.ensures.count)) c.loop-place.yielded _ c.loop-place.yielded_by _ _ c.in-None.is c.next.ensures.steps in
    turns_end (text_lines c.args.text.now) (c.args.number - 1) (length c.loop-place.yielded) c.args.other.now c.loop-place.changed.items end.1 c.loop-place.invariant
