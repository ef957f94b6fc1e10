use Rattle.std.proofs.Common.{◌∙◌, sym, ap}
use Rattle.mpx_bus.specs.declared.act.Setup.{Setup}
use Rattle.mpx_shared.proofs.LawfulPorts.{no_post_pop, no_post_then}
use Rattle.mpx_shared.proofs.gossip.pull_on.Goals as goal

pub settle-requires : goal.settle-requires
settle-requires g c = record {
  list = c.requires.list ∙ ap (λ (s : Setup). s.operations) (sym c.pop.ensures.port.same.setup);
  plan = c.pop.ensures.port.plan c.requires.plan;
}

pub returns-in-OutOfMemory-clause-port : goal.returns-in-OutOfMemory-clause-port
returns-in-OutOfMemory-clause-port g c = no_post_pop c.pop.result c.args.port.now c.pop.new.port c.pop.ensures.port c.pop.ensures.answer

pub returns-then-is_err-clause-port : goal.returns-then-is_err-clause-port
returns-then-is_err-clause-port g c =
    no_post_then c.args.port.now c.pop.new.port c.settle.new.port (no_post_pop c.pop.result c.args.port.now c.pop.new.port c.pop.ensures.port c.pop.ensures.answer) c.settle.ensures.port

pub returns-then-took-clause-port : goal.returns-then-took-clause-port
returns-then-took-clause-port g c =
    no_post_then c.args.port.now c.pop.new.port c.settle.new.port (no_post_pop c.pop.result c.args.port.now c.pop.new.port c.pop.ensures.port c.pop.ensures.answer) c.settle.ensures.port
