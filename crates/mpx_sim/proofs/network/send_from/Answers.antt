use Rattle.mpx_sim.proofs.Tried.{on_each_ok}
use Rattle.mpx_sim.proofs.network.send_from.Goals as goal

pub returns-clause-frames : goal.returns-clause-frames
returns-clause-frames g c =
    on_each_ok c.send_each.result (λ out. rw (c.replace-made.ensures.value) at out) c.send_each.ensures.frames

pub returns-clause-schedule : goal.returns-clause-schedule
returns-clause-schedule g c =
    on_each_ok c.send_each.result (λ drawn. rw (c.replace-made.ensures.value) at drawn) c.send_each.ensures.schedule
