use Rattle.mpx_explain.proofs.Summing.{IsCombinedUpto}
use Rattle.mpx_explain.proofs.exact.add.Given as goal

abbrev pub invariant-loop-index : goal.invariant-loop-index
invariant-loop-index l = IsCombinedUpto l.is_product l.given l.index l.fn.sums.items l.sums.items
