use Rattle.std.proofs.Common.{◌≡◌, ◌==◌, true, not, length, sym, arith}
use Rattle.std.proofs.lemmas.Bool.Decides.{nat_tests}
use Rattle.mpx_post.specs.Posts.{count_of}
use Rattle.mpx_post.specs.Agreement.{count_at, post_at}
use Rattle.mpx_match.proofs.Below.{none_below, some_below}
use Rattle.mpx_match.proofs.amounts.allgatherv_differs.Goals as goal

pub returns-then-given-received : goal.returns-then-given-received
returns-then-given-received c =
    let differs : not (c.given.result == c.received.result) ≡ true = grind (arith, nat_tests) in
    sym (some_below (λ k. not (count_of (post_at c.args.row.now c.args.rank) == count_at (post_at c.args.row.now k).rcounts c.args.rank)) (length c.args.row.now) c.loop-receiver.receiver (omega arith) (rw (c.given.ensures, c.received.ensures) at differs))

pub returns : goal.returns
returns c =
    sym (none_below (λ k. not (count_of (post_at c.args.row.now c.args.rank) == count_at (post_at c.args.row.now k).rcounts c.args.rank)) (length c.args.row.now) (λ k l. c.loop-receiver.invariant k (omega (arith, l))))
