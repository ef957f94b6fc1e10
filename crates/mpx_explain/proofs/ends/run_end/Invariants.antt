use Rattle.std.proofs.Common.{◌≡◌, ◌∷◌, [], map}
use Rattle.mpx_eval.specs.Found.{waiting_view}
use Rattle.mpx_explain.specs.RunEnds.{first_view, firsts_at, served_at, told_upto, unmade_at, waits_at}
use Rattle.mpx_explain.proofs.ends.run_end.Given as goal

abbrev pub invariant-loop-rank : goal.invariant-loop-rank
invariant-loop-rank l = record {
  waiting : map waiting_view l.end.waiting.items ≡ told_upto l.run (λ rank w. waits_at l.run rank w ∷ []) l.rank;
  earlier : map first_view l.end.earlier.items ≡ told_upto l.run (firsts_at l.run) l.rank;
  served : l.end.served.items ≡ told_upto l.run (served_at l.run) l.rank;
  unmade : l.end.unmade.items ≡ told_upto l.run (unmade_at l.run) l.rank;
}
