use Rattle.programs.proofs.Pairs.{left_steps, right_steps, stay_then}
use Rattle.programs.proofs.nodes.sum_at_both.Goals as goal

pub returns-clause-one : goal.returns-clause-one
returns-clause-one g c =
    let left = c.args.left.now in
    let right = c.args.right.now in
    let taken = c.post_and_swap.new.left in
    let other = c.post_and_swap.new.right in
    let first = c.harvest.new.node in
    let last = c.harvest-2.new.node in
    stay_then _ left right taken other first last c.in_ok-post_and_swap.ensures
    (stay_then _ taken other first other first last (left_steps _ taken other first c.harvest.ensures) (right_steps _ first other last c.harvest-2.ensures))
