use Rattle.mpx_board.specs.Looks.{look}
use Rattle.mpx_node.proofs.Prunes.{kill_passes}
use Rattle.mpx_node.proofs.pruning.bury.Goals as goal

pub unreachable-requires : goal.unreachable-requires
unreachable-requires c = kill_passes (look c.args.board.now) c.args.name.now c.in-Some.floor _ c.in-Some.ensures c.in-Err.ensures.answer
