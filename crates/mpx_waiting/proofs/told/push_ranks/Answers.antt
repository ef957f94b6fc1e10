use Rattle.std.proofs.Common.{◌≡◌, ℕ, ◌+◌, ◌-◌, ◌++◌, drop, length, map, append_assoc, ap, sym, ◌∙◌}
use Rattle.mpx_eval.specs.declared.who_waits.WaitingRank.{WaitingRank}
use Rattle.mpx_eval.specs.Found.{waiting_view}
use Rattle.mpx_waiting.specs.ToldLines.{rank_text, ranks_text}
use Rattle.mpx_waiting.proofs.Lists.{ranks_more}
use Rattle.mpx_waiting.proofs.told.push_ranks.Goals as goal

pub loop-waiting-preserved : goal.loop-waiting-preserved
loop-waiting-preserved c =
    let text = c.args.text.now in
    let statements = c.args.script.now.statements in
    let places = c.args.places.now in
    let found = c.args.found.now in
    let i : ℕ = c.loop-waiting.waiting-index in
    let w : WaitingRank = c.waiting-item.result in
    let most : ℕ = c.loop-waiting.most in
    let had = c.loop-waiting.told.items in
    let rest = map waiting_view (drop (i + 1) found) in
    let left : c.saturating_sub-most.result ≡ most - length w.calls.items = c.saturating_sub-most.ensures ∙ ap (λ (n : ℕ). most - n) (c.len.ensures ∙ w.calls.ok.0) in
    ap (λ xs. xs ++ ranks_text text statements places c.saturating_sub-most.result rest) c.in_ok-push_rank.ensures
    ∙ ap (λ (n : ℕ). (had ++ rank_text text statements places most (waiting_view w)) ++ ranks_text text statements places n rest) left
    ∙ append_assoc had (rank_text text statements places most (waiting_view w)) (ranks_text text statements places (most - length w.calls.items) rest)
    ∙ ap (λ (x : WaitingRank). had ++ (rank_text text statements places most (waiting_view x) ++ ranks_text text statements places (most - length x.calls.items) rest)) c.waiting-item.is
    ∙ ap (λ xs. had ++ xs) (sym (ranks_more text statements places most found i w c.loop-waiting-test.true))
    ∙ c.loop-waiting.invariant
