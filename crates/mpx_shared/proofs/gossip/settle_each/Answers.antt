use Rattle.std.proofs.Common.{◌∙◌, length, refl, sym, ap}
use Rattle.std.proofs.lemmas.Option.{slice_get_read}
use Rattle.mpx_bus.specs.declared.act.Setup.{Setup}
use Rattle.join_nest.proofs.Fronts.{on_err}
use Rattle.mpx_shared.proofs.Gossiping.{done_then, settled_more, settled_none}
use Rattle.mpx_shared.proofs.gossip.settle_each.Goals as goal

pub loop-name-init : goal.loop-name-init
loop-name-init g c = settled_none c.args.contexts.now c.args.port.now

pub settle_on-requires : goal.settle_on-requires
settle_on-requires g c = record {
  list = c.requires.list ∙ ap (λ (s : Setup). s.operations) (sym c.loop-name.invariant.done.no_post.goes.same.setup);
  plan = c.loop-name.invariant.done.no_post.goes.plan c.requires.plan;
}

pub loop-name-preserved : goal.loop-name-preserved
loop-name-preserved g c = settled_more c.args.contexts.now c.loop-name.name-index c.name-item.result c.args.port.now c.loop-name.port c.settle_on.new.port c.loop-name.invariant (slice_get_read c.args.contexts.now (length c.args.contexts.now) c.loop-name.name-index c.name-item.result refl c.loop-name-test.true c.name-item.is) c.settle_on.ensures.port c.in_ok-settle_on.ensures.ok

pub returns-clause-port : goal.returns-clause-port
returns-clause-port g c = c.loop-name.invariant.done

pub returns-in_err-settle_on-clause-port : goal.returns-in_err-settle_on-clause-port
returns-in_err-settle_on-clause-port g c = done_then c.args.port.now c.loop-name.port c.settle_on.new.port c.loop-name.invariant.done c.settle_on.ensures.port

pub returns-in_err-settle_on-clause-err : goal.returns-in_err-settle_on-clause-err
returns-in_err-settle_on-clause-err g c =
    on_err c.from_residual.result (record {
      harvests = done_then c.args.port.now c.loop-name.port c.settle_on.new.port c.loop-name.invariant.done c.settle_on.ensures.port;
      name = c.name-item.result;
      next = c.in_err-settle_on.ensures.err;
    })
