use Rattle.std.proofs.Common.{refl}
use Rattle.mpx_sim.specs.Shown.{process_of}
use Rattle.mpx_sim.specs.SideBySide.{taken}
use Rattle.mpx_sim.proofs.SideBySide.{goes_itself, goes_same}
use Rattle.mpx_sim.proofs.process.Process.take_then_step.Goals as goal

pub returns-then-is_some-clause-goes : goal.returns-then-is_some-clause-goes
returns-then-is_some-clause-goes g c =
    let mid = process_of c.receive_all.new.self in
    goes_same _ c.args.ranks c.args.place (taken c.args.place c.args.turn c.args.frames.now (process_of c.args.self.now)) mid mid mid c.in_ok-receive_all.ensures.took refl (goes_itself _ c.args.ranks c.args.place mid)

pub returns-clause-goes : goal.returns-clause-goes
returns-clause-goes g c =
    let mid = process_of c.receive_all.new.self in
    let new = process_of c.step.new.self in
    goes_same _ c.args.ranks c.args.place (taken c.args.place c.args.turn c.args.frames.now (process_of c.args.self.now)) mid new new c.in_ok-receive_all.ensures.took refl c.in_ok-changed.ensures
