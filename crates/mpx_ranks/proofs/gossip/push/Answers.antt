use Rattle.mpx_ranks.proofs.More.{does_push}
use Rattle.mpx_ranks.proofs.Quiet.{heard_push, pushes_or_not}
use Rattle.mpx_ranks.proofs.gossip.push.Goals as goal

pub returns-clause-more : goal.returns-clause-more
returns-clause-more g c = does_push _ c.push_own.result c.args.port.now c.push_own.new.port c.push_own.ensures.next c.push_own.ensures.err

pub returns-clause-heard : goal.returns-clause-heard
returns-clause-heard g c = heard_push _ c.push_own.result c.args.port.now c.push_own.new.port c.push_own.ensures.port.same c.push_own.ensures.next c.push_own.ensures.err

pub returns-clause-pushes : goal.returns-clause-pushes
returns-clause-pushes g c = pushes_or_not c.push_own.result c.args.port.now c.push_own.new.port c.push_own.ensures.next c.push_own.ensures.err c.push_own.ensures.memory
