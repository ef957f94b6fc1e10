use Rattle.std.proofs.Common.{sym, ◌∙◌}
use Rattle.mpx_node.specs.Shown.{node_of}
use Rattle.mpx_node.proofs.Dropped.{floor_reached, no_floor, to_floor}
use Rattle.mpx_node.proofs.node.Node.to_drop.Goals as goal

pub returns-then-has_none_to_drop : goal.returns-then-has_none_to_drop
returns-then-has_none_to_drop c = c.has_none_to_drop.ensures c.if-has_none_to_drop.true

pub returns-in_default : goal.returns-in_default
returns-in_default c = no_floor c.args.name.now (node_of c.args.self.now) c.in_default.ensures

pub returns-then-has_dropped : goal.returns-then-has_dropped
returns-then-has_dropped c =
    floor_reached c.args.name.now (node_of c.args.self.now) c.dropped-dropped.result c.in-Some.floor c.dropped-dropped.ensures c.in-Some.ensures (sym c.has_dropped.ensures ∙ c.if-has_dropped.true)

pub returns : goal.returns
returns c =
    to_floor c.args.name.now (node_of c.args.self.now) c.dropped-dropped.result c.in-Some.floor c.dropped-dropped.ensures c.in-Some.ensures (sym c.has_dropped.ensures ∙ c.if-has_dropped.false)
