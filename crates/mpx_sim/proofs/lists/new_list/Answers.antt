use Rattle.std.proofs.Common.{List, Option, subst}
use Rattle.std.specs.Prelude.{IfSome}
use Rattle.mpx_delta.specs.declared.framed.NewFrames.{NewFrames}
use Rattle.mpx_node.specs.Deltas.{LackFrames, SaysWhatItHas}
use Rattle.mpx_node.specs.Nodes.{NodeView}
use Rattle.mpx_node.specs.Shown.{node_of}
use Rattle.mpx_num.specs.declared.own.Operation.{Operation}
use Rattle.mpx_world.proofs.Covering.{digest_had}
use Rattle.mpx_sim.proofs.Running.{keeps_node_acknowledge}
use Rattle.mpx_sim.proofs.Tried.{on_each_ok}
use Rattle.mpx_sim.specs.Running.{KeepsNode}
use Rattle.mpx_sim.specs.Turns.{Saying}
use Rattle.mpx_sim.proofs.lists.new_list.Goals as goal

abbrev AreAhead : NodeView → Option NewFrames → Type 0
AreAhead node o = IfSome o (λ (made : NewFrames). LackFrames 1048576 node made.said made.frames.items)

keeps_said : (ops : List Operation) (old new : NodeView) → SaysWhatItHas old new → KeepsNode Saying ops old new
keeps_said ops old new says = keeps_node_acknowledge ops says.numbers old new (digest_had says.numbers old.board says.digest) says.learnt

pub returns-clause-keeps : goal.returns-clause-keeps
returns-clause-keeps c = on_each_ok c.framed_deltas.result (λ says ops. keeps_said ops (node_of c.args.desk.now.host) (node_of c.framed_deltas.new.self.host) says) c.framed_deltas.ensures.own

pub say-requires : goal.say-requires
say-requires c = record { made = (1048576, subst (AreAhead (node_of c.args.desk.now.host)) c.in-Some.is c.requires) }

pub returns-in-Some-clause-keeps : goal.returns-in-Some-clause-keeps
returns-in-Some-clause-keeps c ops = keeps_said ops (node_of c.args.desk.now.host) (node_of c.say.new.self.host) c.say.ensures.own

pub returns-in-Some-clause-frames : goal.returns-in-Some-clause-frames
returns-in-Some-clause-frames c = c.say.ensures.frames 1048576 (subst (AreAhead (node_of c.args.desk.now.host)) c.in-Some.is c.requires)
