use Rattle.std.proofs.Common.{◌+◌, ap}
use Rattle.mpx_bus.specs.Buses.{table_of}
use Rattle.mpx_threads.proofs.Jobs.{are_ready}
use Rattle.mpx_threads.proofs.run.bus_by.Goals as goal

pub returns : goal.returns
returns g c =
    are_ready c.args.script.now c.args.relays g.N.Named.setup (table_of c.in_ok-bus.bus) (c.ranks-ranks.result + c.args.relays) c.in_ok-bus.ports.items c.in_ok-jobs.jobs.items c.requires.plan (ap (λ n. n + c.args.relays) c.ranks-ranks.ensures.ranks) c.in_ok-bus.ensures.ports c.in_ok-jobs.ensures
