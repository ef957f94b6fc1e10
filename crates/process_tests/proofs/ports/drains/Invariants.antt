use Rattle.mpx_bus.specs.Ports.{IsSamePort}
use Rattle.process_tests.proofs.ports.drains.Given as goal

abbrev pub invariant-loop : goal.invariant-loop
invariant-loop g l = IsSamePort l.fn.port l.port
