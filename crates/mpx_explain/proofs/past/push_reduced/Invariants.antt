use Rattle.mpx_explain.specs.Sums.{AreTold, past_upto}
use Rattle.mpx_explain.proofs.past.push_reduced.Given as goal

abbrev pub invariant-loop-rank : goal.invariant-loop-rank
invariant-loop-rank l = AreTold (past_upto l.row l.rank) l.fn.all.items l.all.items
