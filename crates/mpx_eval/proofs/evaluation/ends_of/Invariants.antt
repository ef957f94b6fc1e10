use Rattle.std.proofs.Common.{◌≡◌, map}
use Rattle.mpx_meaning.specs.Ends.{end_view}
use Rattle.mpx_rank.specs.Places.{end_of_rank}
use Rattle.mpx_eval.specs.Carrying.{shown}
use Rattle.mpx_eval.proofs.evaluation.ends_of.Given as goal

abbrev pub invariant-loop-place : goal.invariant-loop-place
invariant-loop-place l = map end_view l.ends.items ≡ map end_of_rank (map shown l.yielded)
