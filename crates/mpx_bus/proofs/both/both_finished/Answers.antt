use Rattle.std.proofs.Common.{sym, ap, ◌∙◌}
use Rattle.std.specs.FinMap.{entries}
use Rattle.mpx_board.specs.Parts.{PartsView}
use Rattle.mpx_board.specs.Looks.{parts_of}
use Rattle.mpx_board.specs.Views.{view_of_lifted}
use Rattle.mpx_node.specs.Shown.{node_of}
use Rattle.mpx_bus.specs.Finished.{finished_by_both}
use Rattle.mpx_bus.proofs.Counts.{have_finished, whole_count}
use Rattle.mpx_bus.proofs.both.both_finished.Goals as goal

pub returns : goal.returns
returns c =
    have_finished view_of_lifted (node_of c.args.first.now) (node_of c.args.second.now) (parts_of c.board.result.now) c.entries-name-items.result.now c.loop-name.both (sym c.board.ensures)
    (c.entries-name-items.ensures.entries ∙ ap (λ (v : PartsView). entries v.0) c.pair.ensures.value) c.entries-name-items.ensures.rising c.requires
    (whole_count (finished_by_both (node_of c.args.first.now) (node_of c.args.second.now)) c.entries-name-items.result.now c.loop-name.name-index c.loop-name.both c.loop-name-test.false c.loop-name.invariant)
