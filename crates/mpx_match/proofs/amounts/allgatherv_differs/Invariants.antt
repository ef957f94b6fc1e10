use Rattle.std.proofs.Common.{not, ◌==◌}
use Rattle.mpx_post.specs.Posts.{count_of}
use Rattle.mpx_post.specs.Agreement.{count_at, post_at}
use Rattle.mpx_match.proofs.Least.{NoneBelow}
use Rattle.mpx_match.proofs.amounts.allgatherv_differs.Given as goal

abbrev pub invariant-loop-receiver : goal.invariant-loop-receiver
invariant-loop-receiver l =
    NoneBelow (λ _ receiver. not (count_of (post_at l.row l.rank) == count_at receiver.rcounts l.rank)) l.row l.receiver
