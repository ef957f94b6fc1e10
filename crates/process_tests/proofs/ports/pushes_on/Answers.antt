use Rattle.mpx_bus.proofs.Answers.{full_can_push}
use Rattle.process_tests.proofs.ports.pushes_on.Goals as goal

pub push_on-requires-clause-frame : goal.push_on-requires-clause-frame
push_on-requires-clause-frame g c = c.pop.ensures.port.keeps c.in-Full.frame (full_can_push c.in_ok-frame.field-0 c.in-Full.frame _ c.push_own.new.port c.in-Full.is c.in_ok-frame.ensures.next)
