use Rattle.std.proofs.Common.{arith}
use Rattle.mpx_sim.specs.Shown.{process_of}
use Rattle.mpx_sim.proofs.SideBySide.{goes_by}
use Rattle.mpx_sim.proofs.process.Process.step.Goals as goal

pub returns : goal.returns
returns g c = goes_by _ c.args.ranks c.args.place (process_of c.args.self.now) (process_of c.go_on.new.self) (process_of c.prune-pruned.new.self) (omega arith) c.in_ok-moved.ensures (c.prune-pruned.ensures _)
