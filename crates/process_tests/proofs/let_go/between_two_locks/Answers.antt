use Rattle.std.proofs.Common.{refl}
use Rattle.process_tests.proofs.NewPorts.{lawful_later}
use Rattle.process_tests.proofs.let_go.between_two_locks.Goals as goal

pub tells_again-told-requires-clause-port : goal.tells_again-told-requires-clause-port
tells_again-told-requires-clause-port g c = (refl, (lawful_later _ _ c.with_two_sums-taken.ensures c.let_first_go.ensures c.node-node.ensures.stood, (refl, refl)))
