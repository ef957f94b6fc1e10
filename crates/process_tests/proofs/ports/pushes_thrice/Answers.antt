use Rattle.std.proofs.Common.{sym, subst}
use Rattle.mpx_bus.specs.Ports.{CanPush}
use Rattle.mpx_bus.proofs.Goes.{goes_then}
use Rattle.process_tests.proofs.ports.pushes_thrice.Goals as goal

pub pushes-once-requires-clause-frame : goal.pushes-once-requires-clause-frame
pushes-once-requires-clause-frame g c = subst (CanPush c.args.port.now) (sym c.in_ok-first.ensures) c.requires.frame

pub pushes-twice-requires-clause-frame : goal.pushes-twice-requires-clause-frame
pushes-twice-requires-clause-frame g c = subst (CanPush c.pushes-once.new.port) (sym c.in_ok-second.ensures) (c.pushes-once.ensures.keeps _ c.requires.frame)

pub pushes-thrice-requires-clause-frame : goal.pushes-thrice-requires-clause-frame
pushes-thrice-requires-clause-frame g c = c.pushes-twice.ensures.keeps _ (c.pushes-once.ensures.keeps _ c.requires.frame)

pub returns : goal.returns
returns g c =
    let twice = goes_then c.args.port.now c.pushes-once.new.port c.pushes-twice.new.port c.pushes-once.ensures c.pushes-twice.ensures in
    goes_then c.args.port.now c.pushes-twice.new.port c.pushes-thrice.new.port twice c.pushes-thrice.ensures
