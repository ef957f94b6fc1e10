use Rattle.std.proofs.Common.{◌≡◌, map, take}
use Rattle.mpx_eval.specs.Found.{complaint_view}
use Rattle.mpx_waiting.specs.Lines.{AreLinesOf}
use Rattle.mpx_explain.specs.Findings.{named_view, placed_call}
use Rattle.mpx_explain.proofs.named.push_first.Given as goal

abbrev pub invariant-loop-call : goal.invariant-loop-call
invariant-loop-call l = record {
  lines : AreLinesOf l.text l.lines.rank l.lines;
  named : map named_view l.named.items ≡ map (placed_call l.text) (map complaint_view (take l.call-index l.some));
}
