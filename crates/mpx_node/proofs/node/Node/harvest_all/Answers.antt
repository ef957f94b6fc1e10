use Rattle.std.proofs.Common.{◌-◌, ◌∙◌, ap}
use Rattle.mpx_node.specs.Shown.{node_of}
use Rattle.mpx_node.proofs.Dropped.{harvests_all, wants_result}
use Rattle.mpx_node.proofs.Harvested.{on_err}
use Rattle.mpx_node.proofs.node.Node.harvest_all.Goals as goal

pub returns-clause-ok : goal.returns-clause-ok
returns-clause-ok g c =
    harvests_all _ c.args.name.now c.saturating_sub-newest.result c.in_ok-harvest_to.field-0 (node_of c.args.self.now) (node_of c.harvest_to.new.self)
    (c.saturating_sub-newest.ensures ∙ ap (λ n. n - 1) c.posted.ensures) c.in_ok-harvest_to.ensures.ok c.in_ok-harvest_to.ensures.done c.in_ok-harvest_to.ensures.rest

pub returns-in_err-harvest_to-clause-err : goal.returns-in_err-harvest_to-clause-err
returns-in_err-harvest_to-clause-err g c =
    on_err _ _ (wants_result _ c.args.name.now _ (node_of c.args.self.now) (node_of c.harvest_to.new.self) c.in_err-harvest_to.ensures.err c.in_err-harvest_to.ensures.wanted)
