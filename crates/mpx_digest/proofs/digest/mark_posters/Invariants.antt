use Rattle.std.proofs.Common.{◌≡◌, ◌||◌, ℕ, Bool, length, take}
use Rattle.std.specs.List.{list_any}
use Rattle.join_core.specs.FlatSeen.{flat_view}
use Rattle.join_nest.specs.Seen.{seen}
use Rattle.mpx_digest.specs.Reach.{AreMarks}
use Rattle.mpx_digest.proofs.Reaching.{told_at_key}
use Rattle.mpx_digest.proofs.digest.mark_posters.Given as goal

abbrev pub invariant-loop-process : goal.invariant-loop-process
invariant-loop-process l = record {
  size : length l.marks ≡ 64;
  marked : (before : ℕ → Bool) → AreMarks before l.fn.marks → AreMarks (λ p. before p || list_any (told_at_key p) (seen (flat_view (λ v. v)) (take l.process-index l.process-items))) l.marks;
}
