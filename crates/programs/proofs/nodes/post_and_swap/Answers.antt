use Rattle.programs.proofs.Pairs.{left_steps, right_steps, left_takes, right_takes, stay_then}
use Rattle.programs.proofs.nodes.post_and_swap.Goals as goal

pub returns : goal.returns
returns g c =
    let left = c.args.left.now in
    let right = c.args.right.now in
    let posted = c.post_number.new.node in
    let other = c.post_number-2.new.node in
    let taken = c.carry.new.to in
    let last = c.carry-2.new.to in
    stay_then _ left right posted other taken last
    (stay_then _ left right posted right posted other (left_steps _ left right posted c.post_number.ensures) (right_steps _ posted right other c.post_number-2.ensures))
    (stay_then _ posted other taken other taken last (left_takes _ posted other taken c.carry.ensures) (right_takes _ taken other last c.carry-2.ensures))
