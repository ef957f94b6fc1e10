use Rattle.std.proofs.Common.{◌≡◌, ◌<◌, ℕ, get_or, length, take}
use Rattle.std.specs.List.{list_any}
use Rattle.join_core.specs.FlatSeen.{flat_view}
use Rattle.join_nest.specs.Seen.{seen}
use Rattle.mpx_digest.specs.Reach.{next_number}
use Rattle.mpx_digest.proofs.Reaching.{told_at_key}
use Rattle.mpx_digest.proofs.digest.reach_call.Given as goal

abbrev pub invariant-loop-process : goal.invariant-loop-process
invariant-loop-process l = record {
  size : length l.numbers ≡ 64;
  reached : (p : ℕ) → p < 64 → get_or l.numbers p 0 ≡ next_number l.call (list_any (told_at_key p) (seen (flat_view (λ v. v)) (take l.process-index l.process-items))) (get_or l.fn.numbers p 0);
}
