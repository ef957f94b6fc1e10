use Rattle.std.proofs.Common.{subst, sym}
use Rattle.mpx_node.specs.Settling.{Drops}
use Rattle.mpx_node.specs.Shown.{node_of}
use Rattle.mpx_node.proofs.Dropped.{drops_more, drops_nothing}
use Rattle.mpx_node.proofs.node.Node.prune_to_floor.Goals as goal

pub returns-in-None : goal.returns-in-None
returns-in-None c = drops_nothing c.args.name.now (node_of c.args.self.now) c.in-None.ensures

pub returns-in-Some : goal.returns-in-Some
returns-in-Some c =
    let name = c.args.name.now in
    let old = node_of c.args.self.now in
    let new = node_of c.prune.new.self in
    subst (λ b. Drops name b old new) (sym c.is_ok.ensures.value) (drops_more name c.in-Some.number c.prune.result old new c.in-Some.ensures c.prune.ensures.answer c.prune.ensures.ok)
