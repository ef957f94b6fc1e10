use Rattle.mpx_board.specs.Looks.{look}
use Rattle.mpx_node.specs.Shown.{node_of}
use Rattle.programs.proofs.Pairs.{carried, not_carried}
use Rattle.programs.proofs.nodes.carry.Goals as goal

pub returns-in_err-part : goal.returns-in_err-part
returns-in_err-part c = not_carried (node_of c.args.from.now) (node_of c.args.to.now)

pub returns-in_err-taken : goal.returns-in_err-taken
returns-in_err-taken c =
    carried (node_of c.args.from.now) (node_of c.args.to.now) (node_of c.take-taken.new.self) (look c.in_ok-part.part) c.take-taken.result c.in_ok-part.ensures c.take-taken.ensures.ok c.take-taken.ensures.err

pub returns : goal.returns
returns c =
    carried (node_of c.args.from.now) (node_of c.args.to.now) (node_of c.take-taken.new.self) (look c.in_ok-part.part) c.take-taken.result c.in_ok-part.ensures c.take-taken.ensures.ok c.take-taken.ensures.err
