use Rattle.std.proofs.Common.{sym, subst}
use Rattle.mpx_bus.specs.Ports.{CanPush}
use Rattle.mpx_bus.specs.Answers.{PushesOne}
use Rattle.mpx_bus.proofs.Goes.{goes_then}
use Rattle.process_tests.proofs.ports.pushes.Goals as goal

-- the frame that came back is the one that was pushed
pub push_on-requires-2-clause-frame : goal.push_on-requires-2-clause-frame
push_on-requires-2-clause-frame g c =
    let full = subst (λ q. PushesOne c.args.frame q c.args.port.now c.push_on.new.port) c.in-Full.is c.push_on.ensures.answer in
    c.pop.ensures.port.keeps c.in-Full.frame (c.push_on.ensures.port.keeps c.in-Full.frame (subst (CanPush c.args.port.now) (sym full.0) c.requires.frame))

pub returns : goal.returns
returns g c =
    let once = goes_then c.args.port.now c.push_on.new.port c.pop.new.port c.push_on.ensures.port c.pop.ensures.port in
    goes_then c.args.port.now c.pop.new.port c.push_on-2.new.port once c.push_on-2.ensures.port
