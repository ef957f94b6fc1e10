use Rattle.mpx_explain.specs.Sums.{AreTold, AreUpto, past_upto}
use Rattle.mpx_explain.proofs.past.push_scanned_before.Given as goal

abbrev pub invariant-loop-rank : goal.invariant-loop-rank
invariant-loop-rank l = record {
  sums : AreUpto l.row l.rank l.sums.items;
  all : AreTold (past_upto l.row l.rank) l.fn.all.items l.all.items;
}
