use Rattle.std.proofs.Common.{IfOk, ap, subst}
use Rattle.mpx_board.specs.Boards.{join}
use Rattle.mpx_board.specs.Contexts.{look_of}
use Rattle.mpx_board.specs.Looks.{look}
use Rattle.mpx_board.specs.Prepared.{IsReady}
use Rattle.mpx_node.proofs.results.prepared_harvest.Goals as goal

pub returns-clause-same : goal.returns-clause-same
returns-clause-same c = ap look_of c.prepare.ensures.same

pub returns-clause-ready : goal.returns-clause-ready
returns-clause-ready c = subst (λ part. IfOk c.prepare.result (λ prepared. IsReady prepared c.prepare.new.self (join (look c.args.board.now) part))) c.in_ok-part.ensures c.prepare.ensures.ready
