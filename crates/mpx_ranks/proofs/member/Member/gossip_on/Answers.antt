use Rattle.mpx_bus.specs.Ports.{node_in}
use Rattle.mpx_request.proofs.Steps.{later_more, later_none}
use Rattle.mpx_ranks.proofs.More.{goes_either}
use Rattle.mpx_ranks.specs.Had.{goes_nowhere, goes_then}
use Rattle.mpx_ranks.proofs.member.Member.gossip_on.Goals as goal

pub loop-init : goal.loop-init
loop-init g c = record { later = later_none (node_in c.args.self.now.port); goes_on = goes_nowhere c.args.self.now.port }

pub loop-preserved : goal.loop-preserved
loop-preserved g c =
    let begun = c.args.self.now.port in
    let before = c.loop.self.port in
    let new = c.turn.new.self.port in
    record {
      later = later_more (node_in begun) (node_in before) (node_in new) c.loop.invariant.later c.turn.ensures.later;
      goes_on = goes_then begun before new c.loop.invariant.goes_on (goes_either c.turn.result before new _ c.turn.ensures.counted c.turn.ensures.refused);
    }
