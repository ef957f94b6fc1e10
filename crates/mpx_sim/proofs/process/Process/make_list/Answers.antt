use Rattle.std.proofs.Common.{refl, subst, sym}
use Rattle.mpx_node.specs.Deltas.{AreLacked}
use Rattle.mpx_node.specs.Shown.{node_of}
use Rattle.mpx_rank.specs.Shown.{rank_of}
use Rattle.mpx_sim.specs.Keeping.{keeps_node_itself}
use Rattle.mpx_sim.specs.Shown.{call_of, sender_of}
use Rattle.mpx_sim.specs.Turns.{Saying}
use Rattle.mpx_sim.proofs.SideBySide.{kept_made, lacked_again, none_ahead}
use Rattle.mpx_sim.proofs.process.Process.make_list.Goals as goal

pub returns-in-Some-clause-keeps : goal.returns-in-Some-clause-keeps
returns-in-Some-clause-keeps c ops =
    let node = node_of c.args.self.now.carrier.desk.host in
    keeps_node_itself Saying ops node node refl (rank_of call_of c.args.self.now.rank) (sender_of c.args.self.now.sender)

pub returns-in-Some-clause-frames : goal.returns-in-Some-clause-frames
returns-in-Some-clause-frames c = lacked_again (node_of c.args.self.now.carrier.desk.host) c.args.self.now.notes.last c.in-Some.last c.in_ok-again.again.items c.in-Some.is c.in_ok-again.ensures c.requires.1

pub returns-in-Some-clause-ready : goal.returns-in-Some-clause-ready
returns-in-Some-clause-ready c = none_ahead (node_of c.args.self.now.carrier.desk.host) c.take-ahead.new.self c.args.self.now.notes.last c.take-ahead.ensures.after c.requires.1

pub returns-clause-keeps : goal.returns-clause-keeps
returns-clause-keeps c ops = c.in_ok-list.ensures.keeps ops (rank_of call_of c.args.self.now.rank) (sender_of c.args.self.now.sender)

pub returns-clause-ready : goal.returns-clause-ready
returns-clause-ready c =
    let node = node_of c.new_list.new.desk.host in
    none_ahead node c.take-ahead.new.self c.in_ok-last.last c.take-ahead.ensures.after (kept_made node c.as_slice.result.now c.in_ok-last.last (subst (AreLacked 1048576 node) (sym c.as_slice.ensures.value) c.in_ok-list.ensures.frames) c.in_ok-last.ensures)
