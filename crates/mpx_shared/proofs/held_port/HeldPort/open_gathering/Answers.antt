use Rattle.std.proofs.Common.{ℕ, ◌+◌, List, arith, of_z, subst, to_z}
use Rattle.std.specs.Int.{w128}
use Rattle.std.proofs.lemmas.Int.{to_z-of_z}
use Rattle.mpx_name.specs.Name.{Name}
use Rattle.mpx_bus.specs.Ports.{PortView}
use Rattle.mpx_shared.specs.LawfulPorts.{MakesNoPost}
use Rattle.mpx_shared.specs.Tickets.{OpensThen}
use Rattle.mpx_shared.proofs.LawfulPorts.{lawful_of, gathers_one, held_later, held_same, no_post_gather}
use Rattle.mpx_shared.proofs.held_port.HeldPort.open_gathering.Goals as goal

pub invariant_of-self : goal.invariant_of-self
invariant_of-self g c = (
  c.self.invariant.0,
  held_same _ c.open_gathering-opened.new.self c.audit.ensures.total
      (held_later c.self.inside.port c.open_gathering-opened.new.self c.self.invariant.1
      (no_post_gather c.args.parent.now _ c.args.ranks.now c.open_gathering-opened.result c.self.inside.port c.open_gathering-opened.new.self c.open_gathering-opened.ensures.port c.open_gathering-opened.ensures.ok c.open_gathering-opened.ensures.err)),
)

pub returns-clause-port : goal.returns-clause-port
returns-clause-port g c =
    subst (λ (x : PortView × (ℕ × List Name)). MakesNoPost x.0 c.open_gathering-opened.new.self) c.self.view_is
    (no_post_gather c.args.parent.now _ c.args.ranks.now c.open_gathering-opened.result c.self.inside.port c.open_gathering-opened.new.self c.open_gathering-opened.ensures.port c.open_gathering-opened.ensures.ok c.open_gathering-opened.ensures.err)

pub returns-clause-then : goal.returns-clause-then
returns-clause-then g c =
    let a = c.self.inside.port in
    let b = c.open_gathering-opened.new.self in
    let opened = c.open_gathering-opened.ensures in
    let tag = to_z w128 (of_z w128 c.args.tag) in
    let same = c.audit.ensures.whole c.requires.whole in
    let counted = c.self.invariant.1.counted in
    subst (λ t. OpensThen g.L.PortLock.table g.L.PortLock.setup g.L.PortLock.me g.L.PortLock.opening (g.L.PortLock.before + c.args.share.now.amount) c.args.parent.now t c.args.ranks.now c.open_gathering-opened.result) (to_z-of_z w128 c.args.tag c.ranges.tag)
    (record {
      before = a;
      after = b;
      lawful_before = lawful_of a c.self.invariant.1 c.node-before.ensures.stood;
      lawful_after = lawful_of b (invariant_of-self g c).1 c.node-after.ensures.stood;
      gone_on = c.self.invariant.1.gone_on;
      counted = omega (arith, counted, same);
      opens = opened.node;
      no_post = no_post_gather c.args.parent.now tag c.args.ranks.now c.open_gathering-opened.result a b opened.port opened.ok opened.err;
      acts = gathers_one c.args.parent.now tag c.args.ranks.now c.open_gathering-opened.result a b opened.ok opened.err;
      kept = opened.still.1;
    })
