use Rattle.std.proofs.Common.{◌∷◌, map}
use Rattle.crossbeam_queue.specs.Passes.{view, IsPassOf}
use Rattle.mpx_node.specs.Shown.{node_of}
use Rattle.mpx_bus.proofs.Meetings.{IsMeeting}
use Rattle.mpx_bus.proofs.port.Bus.meet_all.Given as goal

-- the meeting is of the first port and of those that were taken in
abbrev pub invariant-loop-port : goal.invariant-loop-port
invariant-loop-port g l = IsPassOf l.self.queue l.all × IsMeeting g.N.Named.setup (view l.all) (map node_of l.nodes.items) (l.fn.first ∷ l.yielded)
