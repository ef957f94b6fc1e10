-- Copies of all entries, in the order of theirs.
use Rattle.std.proofs.Common.{[], ap, ◌∙◌}
use Rattle.std.specs.FinMap.{from_sorted}
use Rattle.std.proofs.lemmas.List.{take_all}
use Rattle.join_nest.specs.Seen.{seen}
use Rattle.join_nest.proofs.Steps.{seen_pushed}
use Rattle.join_nest.proofs.Views.{sorted_made, seen_sorted}
use Rattle.mpx_delta.proofs.entry_runs.copied.Goals as goal

pub loop-entry-init : goal.loop-entry-init
loop-entry-init g c = ap (seen g.J.Exact.view) c.in_ok-made.ensures.items

pub loop-entry-preserved : goal.loop-entry-preserved
loop-entry-preserved g c =
    let view = g.J.Exact.view in
    seen_pushed view c.args.entries.now c.loop-entry.entry-index c.entry-item.result [] (seen view c.loop-entry.made.items) (seen view c.push_copy.new.made.items)
    c.loop-entry-test.true c.entry-item.is c.loop-entry.invariant c.in_ok-push_copy.ensures

pub from_rising-requires : goal.from_rising-requires
from_rising-requires g c =
    let view = g.J.Exact.view in
    let all = c.loop-entry.invariant ∙ ap (seen view) (take_all c.loop-entry.entry-index c.args.entries.now c.loop-entry-test.false) in
    sorted_made g.K.Ord.cmp view c.loop-entry.made.items _ all (seen_sorted g.K.Ord.cmp view c.args.entries.now c.requires)

pub returns : goal.returns
returns g c =
    let view = g.J.Exact.view in
    let all = c.loop-entry.invariant ∙ ap (seen view) (take_all c.loop-entry.entry-index c.args.entries.now c.loop-entry-test.false) in
    c.from_rising.ensures ∙ ap from_sorted all
