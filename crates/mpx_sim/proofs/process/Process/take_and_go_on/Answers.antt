use Rattle.std.proofs.Common.{refl, sym}
use Rattle.mpx_sim.specs.Shown.{process_of}
use Rattle.mpx_sim.specs.SideBySide.{taken}
use Rattle.mpx_sim.proofs.SideBySide.{goes_same}
use Rattle.mpx_sim.proofs.process.Process.take_and_go_on.Goals as goal

pub returns-in-Ok : goal.returns-in-Ok
returns-in-Ok g c sound =
    let old = taken c.args.place c.args.turn c.args.frames.now (process_of c.args.self.now) in
    (goes_same _ c.args.ranks c.args.place old old (process_of c.look_ahead.new.self) (process_of c.take_then_step.new.self) refl (sym c.look_ahead.ensures.process) c.in-Ok.ensures.goes, c.look_ahead.ensures.ready)
