-- Keys that rise below 64 are at most 64.
use Rattle.std.proofs.Common.{◌<◌, length, ap, subst, arith}
use Rattle.std.proofs.lemmas.List.{take_all}
use Rattle.std.proofs.lemmas.List.Elements.{All-nil, All-more}
use Rattle.std.specs.Prelude.{All}
use Rattle.join_nest.proofs.Steps.{length_seen}
use Rattle.mpx_delta.proofs.Rising.{few_below}
use Rattle.mpx_delta.proofs.limits.few_numbers.Goals as goal

pub loop-entry-init : goal.loop-entry-init
loop-entry-init c = All-nil _

pub loop-entry-preserved : goal.loop-entry-preserved
loop-entry-preserved c =
    All-more (λ e. e.0 < 64) c.entries-entry-items.result.now c.loop-entry.entry-index c.entry-item.result c.loop-entry-test.true c.loop-entry.invariant
    (subst (λ e. e.0 < 64) c.entry-item.is (subst (λ n. n < 64) c.number-number.ensures.number c.number-number.ensures.below))

pub returns : goal.returns
returns c =
    let items = c.entries-entry-items.result.now in
    let all = subst (All (λ e. e.0 < 64)) (take_all c.loop-entry.entry-index items c.loop-entry-test.false) c.loop-entry.invariant in
    omega (arith, ap length c.entries-entry-items.ensures.entries, length_seen (λ n. n.0) items, few_below 64 items c.entries-entry-items.ensures.rising all)
