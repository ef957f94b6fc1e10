use Rattle.std.proofs.Common.{refl}
use Rattle.process_tests.proofs.NewPorts.{pair_of}
use Rattle.process_tests.proofs.queue_steps.two_ports.Goals as goal

pub returns : goal.returns
returns g = pair_of _ _ refl _ refl _ _ _ _ _ g.in_ok-bus.ensures.ports g.in-Some.ensures.items g.in-Some-pop.ensures.items
