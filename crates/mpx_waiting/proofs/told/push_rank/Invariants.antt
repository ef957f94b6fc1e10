use Rattle.std.proofs.Common.{◌≡◌, ◌++◌, drop, map}
use Rattle.std.specs.List.{flat_map}
use Rattle.mpx_eval.specs.Found.{missing_view, waiting_view}
use Rattle.mpx_waiting.specs.ToldLines.{call_text, rank_text}
use Rattle.mpx_waiting.proofs.told.push_rank.Given as goal

abbrev pub invariant-loop-call : goal.invariant-loop-call
invariant-loop-call l = l.told.items ++ flat_map (call_text l.text l.statements l.numbers.items l.places l.waiting.rank l.line) (map missing_view (drop l.call-index l.calls)) ≡ l.fn.told.items ++ rank_text l.text l.script.statements l.places l.most (waiting_view l.waiting)
