use Rattle.std.proofs.Common.{◌≡◌, ℕ, List, Ok, Option, None, Some, sym}
use Rattle.mpx_name.specs.Name.{Name}
use Rattle.mpx_num.specs.declared.own.Operation.{Operation}
use Rattle.mpx_node.specs.Nodes.{NodeView}
use Rattle.mpx_node.specs.Settling.{IsToDrop, with_prune}
use Rattle.mpx_node.specs.Shown.{node_of}
use Rattle.mpx_node.proofs.Dropped.{floor_is_pruned}
use Rattle.mpx_sim.specs.Keeping.{keeps_node_itself}
use Rattle.mpx_sim.specs.Running.{KeepsNode}
use Rattle.mpx_sim.proofs.Running.{keeps_node_prune}
use Rattle.mpx_sim.specs.Turns.{Alone}
use Rattle.mpx_sim.proofs.desk.prune_on.Goals as goal

keeps_prune : (ops : List Operation) (name : Name) (number : Option ℕ) (old new : NodeView) → IsToDrop name old number → new ≡ with_prune number name old → KeepsNode Alone ops old new
keeps_prune ops name None old new asked does = keeps_node_itself Alone ops old new does
keeps_prune ops name (Some number) old new asked does = keeps_node_prune ops name number (Ok tt) old new (sym (floor_is_pruned old.board name number asked.0)) does tt

pub returns : goal.returns
returns c ops =
    let drops = c.prune_to_floor.ensures.drops in
    keeps_prune ops c.args.name.now drops.number (node_of c.args.desk.now.host) (node_of c.prune_to_floor.new.self.host) drops.asked drops.does
