use Rattle.std.proofs.Common.{ap, arith, sym}
use Rattle.std.specs.BTreeMap.{get}
use Rattle.mpx_name.specs.Order.{name_cmp}
use Rattle.mpx_node.specs.Nodes.{front_on}
use Rattle.mpx_node.specs.Shown.{node_of}
use Rattle.mpx_explain.specs.Firsts.{is_told_in}
use Rattle.mpx_explain.proofs.FirstCalls.{front_is, looked_upto}
use Rattle.mpx_explain.proofs.firsts.upto.Goals as goal

pub returns-in-Some : goal.returns-in-Some
returns-in-Some c = looked_upto c.args.waiter.now.run.now (node_of c.args.waiter.now.node.now) c.args.name.now c.in-Some.upto.now (get name_cmp c.args.looked.now c.args.name.now) c.in-Some.ensures.value c.requires

pub returns-in-None : goal.returns-in-None
returns-in-None c = (ap is_told_in (sym c.in-None.ensures.value), front_is c.args.waiter.now.run.now (node_of c.args.waiter.now.node.now) c.args.name.now c.front.result c.front.ensures)
