use Rattle.std.proofs.Common.{◌≡◌, ◌<◌, ◌||◌, ℕ, false, length, map, take}
use Rattle.std.specs.Prelude.{slice_index_or}
use Rattle.mpx_eval.specs.Found.{complaint_view}
use Rattle.mpx_explain.specs.Overflows.{is_named_at}
use Rattle.mpx_explain.proofs.posts.mark.Given as goal

abbrev pub invariant-loop-complaint : goal.invariant-loop-complaint
invariant-loop-complaint l = record {
  len : length l.named.items ≡ length l.fn.named.items;
  at : (place : ℕ) → place < length l.fn.named.items → slice_index_or l.named.items place false ≡ (slice_index_or l.fn.named.items place false || is_named_at l.rank place (map complaint_view (take l.complaint-index l.complaints)));
}
