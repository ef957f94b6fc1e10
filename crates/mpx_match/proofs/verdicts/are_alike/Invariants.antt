use Rattle.std.proofs.Common.{◌≡◌, ◌<◌, ℕ, true}
use Rattle.mpx_post.specs.Agreement.{first_of, post_at}
use Rattle.mpx_match.specs.Alike.{is_alike}
use Rattle.mpx_match.proofs.verdicts.are_alike.Given as goal

abbrev pub invariant-loop-rank : goal.invariant-loop-rank
invariant-loop-rank l = (k : ℕ) → k < l.rank → is_alike (first_of l.row) (post_at l.row k) ≡ true
