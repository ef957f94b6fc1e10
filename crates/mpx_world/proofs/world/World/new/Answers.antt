use Rattle.mpx_world.proofs.Sealing.{reached_start}
use Rattle.mpx_world.proofs.world.World.new.Goals as goal

pub invariant_of-result : goal.invariant_of-result
invariant_of-result g c = record { reached = ∣ reached_start _ c.in_ok-processes.processes c.args.ranks c.args.processes (c.in_ok-processes.ensures _) ∣₁ }

pub returns : goal.returns
returns g c = c.in_ok-processes.ensures _
