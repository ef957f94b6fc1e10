use Rattle.std.proofs.Common.{All}
use Rattle.process_tests.specs.Homes.{IsHome}
use Rattle.process_tests.proofs.port_fleets.all_do.Given as goal

abbrev pub invariant-loop-i : goal.invariant-loop-i
invariant-loop-i g l = All (IsHome l.bus l.ranks) l.ports
