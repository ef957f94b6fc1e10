use Rattle.std.specs.Option.{option_copied}
use Rattle.mpx_world.proofs.Sealing.{node_is_true}
use Rattle.mpx_world.proofs.world.World.node.Goals as goal

pub returns-clause-sound : goal.returns-clause-sound
returns-clause-sound g c = node_is_true _ c.args.self.now.processes c.args.proc (option_copied c.node.result) c.args.self.now.reached c.node.ensures
