use Rattle.std.proofs.Common.{ap, ◌∙◌}
use Rattle.crossbeam_queue.specs.Passes.{view}
use Rattle.mpx_bus.specs.Views.{met}
use Rattle.mpx_bus.proofs.Meetings.{stands_itself}
use Rattle.mpx_bus.proofs.Meets.{merges}
use Rattle.mpx_bus.proofs.port.Bus.take_in.Goals as goal

pub absorb-requires-clause-rule : goal.absorb-requires-clause-rule
absorb-requires-clause-rule c = merges _ _ _ _ c.requires.stands (stands_itself _ _ _ c.taken_in-node.ensures.stands)

pub returns-clause-stands : goal.returns-clause-stands
returns-clause-stands c = c.absorb.ensures.rule ∙ ap (met (view c.args.all.now)) c.taken_in-node.ensures.stands
