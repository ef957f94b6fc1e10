use Rattle.std.proofs.Common.{◌≡◌, ◌++◌, drop}
use Rattle.std.specs.List.{flat_map}
use Rattle.mpx_explain.specs.Findings.{named_text}
use Rattle.mpx_explain.proofs.named.push_lines.Given as goal

abbrev pub invariant-loop-call : goal.invariant-loop-call
invariant-loop-call l = l.told.items ++ flat_map named_text (drop l.call-index l.named) ≡ l.fn.told.items ++ flat_map named_text l.named
