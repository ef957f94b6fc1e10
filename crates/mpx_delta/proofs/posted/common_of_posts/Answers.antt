-- What is kept of one context after another.
use Rattle.std.proofs.Common.{◌+◌, ◌-◌, suc, not, arith, ap, sym, ◌∙◌, ◌≡◌, ◌<◌, ℕ, subst}
use Rattle.std.specs.FinMap.{from_sorted}
use Rattle.mpx_name.specs.Order.{name_cmp}
use Rattle.mpx_board.specs.Looks.{look, parts_of}
use Rattle.mpx_board.specs.Views.{view_of_lifted, view_of_numbers}
use Rattle.mpx_digest.specs.Digest.{numbers_acked}
use Rattle.mpx_digest.specs.Keep.{keep, kept}
use Rattle.mpx_digest.proofs.Steps.{KeptSoFar, kept_none, kept_one, kept_whole, kept_rises}
use Rattle.mpx_digest.proofs.Bare.{bare_some, bare_none}
use Rattle.mpx_delta.specs.Digests.{common_on, without}
use Rattle.mpx_delta.specs.Posted.{least_context, least_posted}
use Rattle.mpx_delta.proofs.Telling.{posted_without}
use Rattle.mpx_delta.proofs.posted.common_of_posts.Goals as goal
use Rattle.mpx_delta.proofs.posted.common_of_posts.Goals.{then-not-is_empty+in_ok-copy+in_ok-push, else-not-is_empty}

pub loop-name-preserved : goal.loop-name-preserved
loop-name-preserved c =
    let made = c.in_ok-numbers.ensures ∙ ap (λ v. least_posted v.1 (c.args.processes - 1) c.loop-name-item.result.0 (view_of_lifted c.loop-name-item.result.1)) c.pair-in-loop-name.ensures.value in
    elim c.if-not-is_empty.branch [
      | then-not-is_empty+in_ok-copy+in_ok-push w ↦
          subst (λ m. KeptSoFar (least_context (parts_of c.args.said.now).1 (c.args.processes - 1)) view_of_lifted view_of_numbers c.entries-name-items.result.now m (c.loop-name.name-index + 1)) (sym (ap (λ v. v.items) w.made-is ∙ w.in_ok-push.ensures.items))
          (kept_one (least_context (parts_of c.args.said.now).1 (c.args.processes - 1)) view_of_lifted view_of_numbers c.entries-name-items.result.now c.loop-name.made.items c.loop-name.name-index c.loop-name-item.result _ c.loop-name-test.true c.loop-name-item.is w.in_ok-copy.ensures (bare_some _ _ made _ c.is_empty.ensures (ap not w.if-not-is_empty.true)) c.loop-name.invariant)
      | else-not-is_empty w ↦
          subst (λ m. KeptSoFar (least_context (parts_of c.args.said.now).1 (c.args.processes - 1)) view_of_lifted view_of_numbers c.entries-name-items.result.now m (c.loop-name.name-index + 1)) (sym (ap (λ v. v.items) w.made-is))
          (kept_none (least_context (parts_of c.args.said.now).1 (c.args.processes - 1)) view_of_lifted view_of_numbers c.entries-name-items.result.now c.loop-name.made.items c.loop-name.name-index c.loop-name-item.result c.loop-name-test.true c.loop-name-item.is (bare_none _ _ made _ c.is_empty.ensures (ap not w.if-not-is_empty.false)) c.loop-name.invariant)
    ]

pub from_rising-requires : goal.from_rising-requires
from_rising-requires c = kept_rises (least_context (parts_of c.args.said.now).1 (c.args.processes - 1)) view_of_lifted view_of_numbers c.entries-name-items.result.now name_cmp c.loop-name.made.items c.entries-name-items.ensures.rising (kept_whole (least_context (parts_of c.args.said.now).1 (c.args.processes - 1)) view_of_lifted view_of_numbers c.entries-name-items.result.now c.loop-name.made.items c.loop-name.name-index c.loop-name-test.false c.loop-name.invariant)

some_more : (n : ℕ) → 0 < n → suc (n - 1) ≡ n
some_more n lt = omega arith

pub returns : goal.returns
returns c =
    let board = parts_of c.args.board.now in
    let said = parts_of c.args.said.now in
    let more = c.args.processes - 1 in
    let is = c.from_rising.ensures
    ∙ ap from_sorted (kept_whole (least_context (parts_of c.args.said.now).1 (c.args.processes - 1)) view_of_lifted view_of_numbers c.entries-name-items.result.now c.loop-name.made.items c.loop-name.name-index c.loop-name-test.false c.loop-name.invariant ∙ ap (kept (least_context said.1 more)) c.entries-name-items.ensures.entries)
    ∙ ap (λ v. keep (least_context said.1 more) v.0) c.pair.ensures.value in
    ap (λ d. without (numbers_acked d) (look c.args.board.now)) is
    ∙ posted_without board said more
    ∙ ap (λ n. without (common_on n (look c.args.said.now)) (look c.args.board.now)) (some_more c.args.processes c.requires.some)
