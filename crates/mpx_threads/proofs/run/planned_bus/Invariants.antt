use Rattle.mpx_num.specs.contracts.ops.OpsListing.TheImpl.{ghosts}
use Rattle.mpx_threads.specs.Plans.{setup_by}
use Rattle.mpx_threads.proofs.Plans.{end_of}
use Rattle.mpx_threads.proofs.run.planned_bus.Given as goal

-- what the ranks post in the script's evaluation by the operations that are lent
abbrev pub ghosts-bus_by : goal.ghosts-bus_by
ghosts-bus_by g a =
    let ops = (ghosts g.dyn-1).operations a.ops.now in
    record { setup = setup_by ops a.script.now.ranks a.relays (end_of ops a.script.now) }
