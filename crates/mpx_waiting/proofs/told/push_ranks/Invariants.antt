use Rattle.std.proofs.Common.{◌≡◌, ◌++◌, drop, map}
use Rattle.mpx_eval.specs.Found.{waiting_view}
use Rattle.mpx_waiting.specs.ToldLines.{ranks_text}
use Rattle.mpx_waiting.proofs.told.push_ranks.Given as goal

abbrev pub invariant-loop-waiting : goal.invariant-loop-waiting
invariant-loop-waiting l = l.told.items ++ ranks_text l.text l.script.statements l.places l.most (map waiting_view (drop l.waiting-index l.found)) ≡ l.fn.told.items ++ ranks_text l.text l.script.statements l.places 100 (map waiting_view l.found)
