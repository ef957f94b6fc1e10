-- The node after storing is the one that the frames were made of.
use Rattle.std.proofs.Common.{subst}
use Rattle.mpx_node.specs.Deltas.{AreLacked, SaysWhatItHas}
use Rattle.mpx_node.specs.Shown.{node_of}
use Rattle.mpx_node.proofs.Storing.{stores_lent, stored_there}
use Rattle.mpx_node.proofs.node.Node.framed_deltas.Goals as goal

pub acknowledge-requires : goal.acknowledge-requires
acknowledge-requires c = let lacks = c.in_ok-said.ensures.made.lacks in record { made = (lacks.after, stores_lent c.in_ok-said.field-0.said (node_of c.args.self.now) _ lacks.after c.in_ok-said.ensures.node lacks.stores) }

pub returns-clause-own : goal.returns-clause-own
returns-clause-own c =
    let lacks = c.in_ok-said.ensures.made.lacks in
    subst (SaysWhatItHas (node_of c.args.self.now)) (stored_there c.in_ok-said.field-0.said (node_of c.args.self.now) _ lacks.after _ c.in_ok-said.ensures.node lacks.stores c.acknowledge.ensures.gives) lacks.own

pub returns-clause-frames : goal.returns-clause-frames
returns-clause-frames c =
    let made = c.in_ok-said.ensures.made in
    let lacks = made.lacks in
    subst (λ n. AreLacked c.args.limit n c.in_ok-said.field-0.frames.items) (stored_there c.in_ok-said.field-0.said (node_of c.args.self.now) _ lacks.after _ c.in_ok-said.ensures.node lacks.stores c.acknowledge.ensures.gives)
    (record { parts = made.parts; facts = lacks.facts; fit = lacks.fit; join = lacks.join; few = lacks.few; spelled = made.spelled })
