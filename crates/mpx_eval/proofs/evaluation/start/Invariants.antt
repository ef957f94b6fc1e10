use Rattle.std.proofs.Common.{map}
use Rattle.mpx_eval.specs.Rounds.{Start}
use Rattle.mpx_eval.specs.Carrying.{shown}
use Rattle.mpx_eval.proofs.evaluation.start.Given as goal

abbrev pub invariant-loop-me : goal.invariant-loop-me
invariant-loop-me l = Start l.script.statements l.script.ranks l.me (map shown l.places.items)
