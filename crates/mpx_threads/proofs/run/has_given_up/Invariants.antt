use Rattle.std.proofs.Common.{◌≡◌, ◌<◌, ℕ, Some}
use Rattle.std.specs.Prelude.{slice_get}
use Rattle.mpx_threads.specs.declared.gossip.GossipEnd.TheVariants.{GaveUp}
use Rattle.mpx_threads.specs.Work.{gossip_at}
use Rattle.mpx_threads.proofs.run.has_given_up.Given as goal

abbrev pub invariant-loop-p : goal.invariant-loop-p
invariant-loop-p l = (q : ℕ) → q < l.p → gossip_at (slice_get l.worked q) ≡ Some GaveUp → ⊥
