use Rattle.std.proofs.Common.{All}
use Rattle.process_tests.specs.Homes.{IsHome}
use Rattle.process_tests.proofs.port_fleets.go_on.Given as goal

abbrev pub invariant-loop-step : goal.invariant-loop-step
invariant-loop-step g l = All (IsHome l.bus l.ranks) l.ports

abbrev pub invariant-loop : goal.invariant-loop
invariant-loop g l = All (IsHome l.bus l.ranks) l.ports
