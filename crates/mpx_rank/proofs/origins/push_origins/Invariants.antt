use Rattle.std.proofs.Common.{◌≡◌, ◌+◌, ◌++◌, length}
use Rattle.mpx_meaning.specs.Ranks.{origins_of}
use Rattle.mpx_rank.proofs.origins.push_origins.Given as goal

abbrev pub invariant-loop-nth : goal.invariant-loop-nth
invariant-loop-nth l = l.origins.items ≡ l.fn.origins.items ++ origins_of (l.awaited + length l.todo) l.nth
