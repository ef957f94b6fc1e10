use Rattle.std.proofs.Common.{refl}
use Rattle.process_tests.proofs.NewPorts.{fresh_last}
use Rattle.process_tests.proofs.let_go.one_port.Goals as goal

pub returns : goal.returns
returns g = fresh_last _ _ refl _ refl 0 1 _ _ _ refl g.in_ok-bus.ensures.ports g.in-Some.ensures.items
