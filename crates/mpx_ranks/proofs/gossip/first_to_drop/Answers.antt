use Rattle.std.proofs.Common.{◌≡◌, ℕ, ◌<◌, ◌∙◌, Some, ap, arith, subst, sym}
use Rattle.std.specs.FinMap.{entries}
use Rattle.mpx_at_once.proofs.Tasks.{within_get}
use Rattle.mpx_board.specs.Looks.{parts_of}
use Rattle.mpx_board.specs.Parts.{PartsView}
use Rattle.mpx_board.specs.Views.{view_of_lifted}
use Rattle.mpx_node.specs.Settling.{IsToDrop}
use Rattle.mpx_node.specs.Shown.{node_of}
use Rattle.mpx_ranks.proofs.Due.{finds_err, none_due, one_more}
use Rattle.mpx_ranks.proofs.gossip.first_to_drop.Goals as goal

pub loop-name-init : goal.loop-name-init
loop-name-init c = λ i e l. absurd (omega (arith, l))

pub loop-name-preserved : goal.loop-name-preserved
loop-name-preserved c = one_more (node_of c.args.node.now) c.entries-name-items.result.now c.loop-name.name-index c.loop-name-item.result c.loop-name-item.is c.in_default.ensures c.loop-name.invariant

pub returns-in_err-copy : goal.returns-in_err-copy
returns-in_err-copy c = finds_err (node_of c.args.node.now) c.from_residual.result c.loop-name-item.result.0 c.from_residual.ensures.0 c.in-Some.ensures.1

pub returns-in-Some : goal.returns-in-Some
returns-in-Some c = subst (λ n. IsToDrop n (node_of c.args.node.now) (Some c.in-Some.number)) (sym c.in_ok-copy.ensures) c.in-Some.ensures

pub returns : goal.returns
returns c =
    none_due view_of_lifted (node_of c.args.node.now) (parts_of c.board.result.now) c.entries-name-items.result.now (sym c.board.ensures)
    (c.entries-name-items.ensures.entries ∙ ap (λ (v : PartsView). entries v.0) c.pair.ensures.value)
    (λ i e at. let l = within_get c.entries-name-items.result.now i e at in let last = c.loop-name-test.false in c.loop-name.invariant i e (omega (arith, l, last)) at)
