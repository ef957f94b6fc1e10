use Rattle.std.proofs.Common.{sym, ◌∙◌}
use Rattle.mpx_node.specs.Shown.{node_of}
use Rattle.mpx_node.proofs.Dropped.{own_front_reached, unknown_members}
use Rattle.mpx_node.proofs.node.Node.has_none_to_drop.Goals as goal

pub returns-in_default : goal.returns-in_default
returns-in_default c _ = unknown_members c.args.name.now (node_of c.args.self.now) c.in_default.ensures

pub returns : goal.returns
returns c some =
    own_front_reached c.args.name.now (node_of c.args.self.now) c.in-Some.birth.now c.args.dropped c.front-front.result c.in-Some.ensures c.requires c.front-front.ensures c.rank_of.result c.rank_of.ensures (sym c.is_some.ensures ∙ some)
    (sym c.has_dropped.ensures ∙ c.if-not-has_dropped.false)
