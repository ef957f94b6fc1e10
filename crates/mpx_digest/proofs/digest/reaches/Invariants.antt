use Rattle.std.proofs.Common.{◌≡◌, ◌<◌, ℕ, drop, get_or}
use Rattle.std.specs.FinMap.{entries}
use Rattle.join_nest.specs.Seen.{seen}
use Rattle.mpx_board.specs.Views.{view_of_call, view_of_calls}
use Rattle.mpx_digest.specs.Reach.{reach}
use Rattle.mpx_digest.proofs.Passing.{passed}
use Rattle.mpx_digest.proofs.digest.reaches.Given as goal

-- what is still ahead
abbrev pub invariant-loop-call : goal.invariant-loop-call
invariant-loop-call l = (p : ℕ) → p < 64 → passed p (get_or l.numbers p 0) (seen view_of_call (drop l.call-index l.call-items)) ≡ reach p (view_of_calls l.calls).dropped (entries (view_of_calls l.calls).calls)
