-- The node after storing is the one that the list was made of.
use Rattle.std.proofs.Common.{sym, ap, ◌∙◌, subst}
use Rattle.std.specs.Prelude.{All}
use Rattle.mpx_board.specs.Looks.{look}
use Rattle.mpx_delta.specs.Facts.{OnlyFactsOf}
use Rattle.mpx_node.specs.Deltas.{SaysWhatItHas, lacking_on}
use Rattle.mpx_node.specs.Nodes.{NodeView}
use Rattle.mpx_node.specs.Shown.{node_of}
use Rattle.mpx_node.proofs.node.Node.deltas.Goals as goal

pub returns-clause-own : goal.returns-clause-own
returns-clause-own c = subst (SaysWhatItHas (node_of c.args.self.now)) (sym (c.acknowledge.ensures.gives _ c.in_ok-said.ensures.stores)) c.in_ok-said.ensures.own

pub returns-clause-facts : goal.returns-clause-facts
returns-clause-facts c = subst (λ (n : NodeView). All (λ part. OnlyFactsOf (look part) n.board) c.in_ok-said.field-0.parts.items) (sym (c.acknowledge.ensures.gives _ c.in_ok-said.ensures.stores)) c.in_ok-said.ensures.facts

pub returns-clause-join : goal.returns-clause-join
returns-clause-join c = c.in_ok-said.ensures.join ∙ ap lacking_on (sym (c.acknowledge.ensures.gives _ c.in_ok-said.ensures.stores))
