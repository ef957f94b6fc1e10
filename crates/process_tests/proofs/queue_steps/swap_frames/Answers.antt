use Rattle.mpx_bus.proofs.Answers.{full_can_push}
use Rattle.process_tests.proofs.queue_steps.swap_frames.Goals as goal

-- a frame that came back can be pushed, also after two pops
pub push_on-requires-clause-frame : goal.push_on-requires-clause-frame
push_on-requires-clause-frame g c =
    c.pop-5.ensures.port.keeps c.in-Full.frame
    (c.pop.ensures.port.keeps c.in-Full.frame (full_can_push c.in_ok-frame.field-0 c.in-Full.frame _ c.push_own-2.new.port c.in-Full.is c.in_ok-frame.ensures.next))
