use Rattle.std.proofs.Common.{◌≡◌}
use Rattle.join_nest.specs.Seen.{seen}
use Rattle.mpx_board.specs.Views.{view_of_entry}
use Rattle.mpx_digest.specs.Keep.{kept}
use Rattle.mpx_digest.specs.Reach.{digest_number, numbered, unless_zero}
use Rattle.mpx_digest.proofs.digest.entry_digest.Given as goal

-- the numbers of the processes so far
abbrev pub invariant-loop-process : goal.invariant-loop-process
invariant-loop-process l = seen (λ n. n.0) l.made.items ≡ kept (λ p u. unless_zero (digest_number (view_of_entry l.entry) p)) (numbered l.process)
