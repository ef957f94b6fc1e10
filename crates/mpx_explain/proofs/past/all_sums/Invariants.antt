use Rattle.mpx_explain.specs.Sums.{AreUpto}
use Rattle.mpx_explain.proofs.past.all_sums.Given as goal

abbrev pub invariant-loop-rank : goal.invariant-loop-rank
invariant-loop-rank l = AreUpto l.row l.rank l.sums.items
