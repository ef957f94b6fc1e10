-- The node after storing is the one that the frames were made of.
use Rattle.std.proofs.Common.{sym, subst}
use Rattle.std.specs.Prelude.{Result, Ok}
use Rattle.mpx_node.specs.Deltas.{AreLacked, SaysWhatItHas}
use Rattle.mpx_node.specs.Shown.{node_of}
use Rattle.mpx_comm.proofs.Steps.{later_says}
use Rattle.mpx_comm.proofs.Posting.{posted_later}
use Rattle.mpx_comm.proofs.alone.Desk+Node.say.Goals as goal

pub acknowledge-requires : goal.acknowledge-requires
acknowledge-requires c = let lacks = c.requires.made.1.lacks in record { made = (lacks.after, lacks.stores) }

pub invariant_of-self : goal.invariant_of-self
invariant_of-self c =
    let old = node_of c.args.self.now.host in
    let new = node_of c.acknowledge.new.self in
    let lacks = c.requires.made.1.lacks in
    let said = subst (SaysWhatItHas old) (sym (c.acknowledge.ensures.gives lacks.after lacks.stores)) lacks.own in
    let done : Result (Unit {0}) (Unit {0}) = Ok tt in
    record { posted = posted_later old new c.args.self.now.requests.keys (later_says done old new said tt) c.args.self.now.posted }

pub returns-clause-own : goal.returns-clause-own
returns-clause-own c =
    let lacks = c.requires.made.1.lacks in
    subst (SaysWhatItHas (node_of c.args.self.now.host)) (sym (c.acknowledge.ensures.gives lacks.after lacks.stores)) lacks.own

pub returns-clause-frames : goal.returns-clause-frames
returns-clause-frames c limit made =
    let lacks = made.lacks in
    subst (λ n. AreLacked limit n c.args.made.frames.items) (sym (c.acknowledge.ensures.gives lacks.after lacks.stores))
    (record { parts = made.parts; facts = lacks.facts; fit = lacks.fit; join = lacks.join; few = lacks.few; spelled = made.spelled })
