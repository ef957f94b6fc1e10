use Rattle.std.proofs.Common.{◌≡◌}
use Rattle.crossbeam_queue.specs.Passes.{view, IsPassOf}
use Rattle.mpx_bus.specs.Views.{maker_of}
use Rattle.mpx_bus.specs.Ports.{IsFleet}
use Rattle.mpx_bus.proofs.port.Bus.new.Given as goal

abbrev pub invariant-loop-me : goal.invariant-loop-me
invariant-loop-me g l = IsPassOf l.queue l.maker × (view l.maker ≡ maker_of g.N.Named.setup l.me) × IsFleet g.N.Named.setup l.queue.table.shared.table_id l.me l.ports.items
