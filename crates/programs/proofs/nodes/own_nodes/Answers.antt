use Rattle.std.proofs.Common.{◌∙◌, ap}
use Rattle.mpx_node.specs.Nodes.{start_node}
use Rattle.programs.proofs.Pairs.{are_one}
use Rattle.programs.proofs.nodes.own_nodes.Goals as goal

pub returns-clause-one : goal.returns-clause-one
returns-clause-one g c = are_one _ c.in_ok-left.left c.in_ok-right.right c.sum_at_both.new.left c.sum_at_both.new.right
    (c.in_ok-left.ensures ∙ ap (λ p. start_node p 2 2) c.new.ensures)
    (c.in_ok-right.ensures ∙ ap (λ p. start_node p 2 2) c.new-3.ensures)
    c.in_ok-sum_at_both.ensures.one
