use Rattle.std.proofs.Common.{[]}
use Rattle.std.specs.List.{flat_map, range_with_len}
use Rattle.mpx_explain.specs.Overflows.{past_in_call}
use Rattle.mpx_explain.specs.Sums.{AreTold, posts_in}
use Rattle.mpx_explain.proofs.past.results_in.Given as goal

abbrev pub invariant-loop-call : goal.invariant-loop-call
invariant-loop-call l = AreTold (flat_map (past_in_call l.script.statements (posts_in l.posts)) (range_with_len 0 l.call)) [] l.all.items
