use Rattle.std.proofs.Common.{◌∙◌, sym, ap, subst}
use Rattle.mpx_name.specs.Name.{Name}
use Rattle.mpx_bus.specs.declared.act.Setup.{Setup}
use Rattle.mpx_shared.specs.Gossip.{Settles}
use Rattle.mpx_shared.proofs.Gossiping.{done_then, settles_all, wants_later}
use Rattle.mpx_shared.proofs.gossip.settle.Goals as goal

pub settle_each-requires : goal.settle_each-requires
settle_each-requires g c = record {
  list = c.requires.list ∙ ap (λ (s : Setup). s.operations) (sym c.settle_on.ensures.port.no_post.goes.same.setup);
  plan = c.settle_on.ensures.port.no_post.goes.plan c.requires.plan;
}

pub returns-clause-port : goal.returns-clause-port
returns-clause-port g c =
    let all = done_then c.args.port.now c.settle_on.new.port c.settle_each.new.port c.settle_on.ensures.port c.settle_each.ensures.port in
    all.no_post

pub returns-clause-ok : goal.returns-clause-ok
returns-clause-ok g c =
    let world = subst (λ (n : Name). Settles n c.args.port.now c.settle_on.new.port) c.world-world.ensures c.in_ok-settle_on.ensures.ok in
    settles_all c.args.contexts.now c.args.port.now c.settle_on.new.port c.settle_each.new.port c.settle_each.result c.settle_on.ensures.port world c.settle_each.ensures.port c.settle_each.ensures.ok

pub returns-clause-err : goal.returns-clause-err
returns-clause-err g c = wants_later c.args.port.now c.settle_on.new.port c.settle_each.new.port c.settle_each.result c.settle_on.ensures.port c.settle_each.ensures.err
