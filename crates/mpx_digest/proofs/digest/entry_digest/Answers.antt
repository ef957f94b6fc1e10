-- One process more.
use Rattle.std.proofs.Common.{arith, ◌≡◌, ◌<◌, ◌||◌, cond, ℕ, ap, sym, ◌∙◌, subst, T}
use Rattle.std.specs.FinMap.{is_sorted, from_sorted}
use Rattle.std.specs.Ordering.{nat_cmp}
use Rattle.join_nest.specs.Seen.{sorted_seen}
use Rattle.mpx_board.specs.Views.{view_of_entry}
use Rattle.mpx_digest.specs.Keep.{kept}
use Rattle.mpx_digest.specs.Reach.{digest_number, numbered, unless_zero}
use Rattle.mpx_digest.proofs.Steps.{true_of}
use Rattle.mpx_digest.proofs.Kept.{sorted_kept}
use Rattle.mpx_digest.proofs.Reaching.{more_kept, same_kept, more_some, zero_none}
use Rattle.mpx_digest.proofs.digest.entry_digest.Goals as goal
use Rattle.mpx_digest.proofs.digest.entry_digest.Goals.{then-number-ne0+in_ok-push, else-number-ne0}

pub loop-process-preserved : goal.loop-process-preserved
loop-process-preserved c =
    let lt : c.loop-process.process < 64 = omega (arith, c.loop-process-test.true) in
    let number : c.digest_number-number.result ≡ digest_number (view_of_entry c.args.entry.now) c.loop-process.process =
    c.digest_number-number.ensures
    ∙ (λ i. cond (c.members_of-are_members.ensures c.loop-process.process lt i || c.posters_of-have_posted.ensures c.loop-process.process lt i) (c.reaches-reached.ensures c.loop-process.process lt i) 0) in
    elim c.if-number-ne0.branch [
      | then-number-ne0+in_ok-push w ↦ more_kept _ c.loop-process.process c.loop-process.made.items _ c.loop-process.invariant _ (ap (λ v. v.items) w.made-is ∙ w.in_ok-push.ensures.items) w.new.ensures (more_some _ _ number w.if-number-ne0.true)
      | else-number-ne0 w ↦ same_kept _ c.loop-process.process c.loop-process.made.items _ c.loop-process.invariant (ap (λ v. v.items) w.made-is) (zero_none _ (sym number ∙ w.if-number-ne0.false))
    ]

pub from_rising-requires : goal.from_rising-requires
from_rising-requires c =
    let all : c.loop-process.process ≡ 64 = omega (arith, c.loop-process-test.false, c.loop-process.auto.process-end) in
    let f : ℕ → Unit {0} → _ = λ p u. unless_zero (digest_number (view_of_entry c.args.entry.now) p) in
    true_of _ (subst T (sorted_seen nat_cmp (λ n. n.0) c.loop-process.made.items) (subst (λ l. T (is_sorted nat_cmp l)) (sym (c.loop-process.invariant ∙ ap (λ n. kept f (numbered n)) all)) (sorted_kept nat_cmp f (numbered 64) tt)))

pub returns : goal.returns
returns c =
    let all : c.loop-process.process ≡ 64 = omega (arith, c.loop-process-test.false, c.loop-process.auto.process-end) in
    c.from_rising.ensures ∙ ap from_sorted (c.loop-process.invariant ∙ ap (λ n. kept (λ p u. unless_zero (digest_number (view_of_entry c.args.entry.now) p)) (numbered n)) all)
