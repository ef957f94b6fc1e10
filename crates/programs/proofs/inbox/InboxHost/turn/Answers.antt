use Rattle.mpx_board.specs.Looks.{look}
use Rattle.mpx_node.specs.Shown.{node_of}
use Rattle.mpx_comm.proofs.Steps.{later_takes, opened_takes}
use Rattle.programs.proofs.inbox.InboxHost.turn.Goals as goal

pub returns-in_err-take-clause-later : goal.returns-in_err-take-clause-later
returns-in_err-take-clause-later c = later_takes c.take.result (look c.in-Some.board.now) (node_of c.args.self.now.node) (node_of c.take.new.self) c.take.ensures.ok c.take.ensures.err

pub returns-in_ok-take-clause-later : goal.returns-in_ok-take-clause-later
returns-in_ok-take-clause-later c = later_takes c.take.result (look c.in-Some.board.now) (node_of c.args.self.now.node) (node_of c.take.new.self) c.take.ensures.ok c.take.ensures.err

pub returns-in_err-take-clause-opened : goal.returns-in_err-take-clause-opened
returns-in_err-take-clause-opened c = opened_takes c.take.result (look c.in-Some.board.now) (node_of c.args.self.now.node) (node_of c.take.new.self) c.take.ensures.ok c.take.ensures.err

pub returns-in_ok-take-clause-opened : goal.returns-in_ok-take-clause-opened
returns-in_ok-take-clause-opened c = opened_takes c.take.result (look c.in-Some.board.now) (node_of c.args.self.now.node) (node_of c.take.new.self) c.take.ensures.ok c.take.ensures.err
