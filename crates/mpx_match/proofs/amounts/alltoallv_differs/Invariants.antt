use Rattle.std.proofs.Common.{not, ◌==◌}
use Rattle.mpx_post.specs.Agreement.{count_at, post_at}
use Rattle.mpx_match.proofs.Least.{NoneBelow}
use Rattle.mpx_match.proofs.amounts.alltoallv_differs.Given as goal

abbrev pub invariant-loop-receiver : goal.invariant-loop-receiver
invariant-loop-receiver l =
    NoneBelow (λ j receiver. not (count_at (post_at l.row l.rank).scounts j == count_at receiver.rcounts l.rank)) l.row l.receiver
