use Rattle.std.proofs.Common.{◌≡◌, ◌++◌, drop}
use Rattle.std.specs.List.{flat_map}
use Rattle.mpx_explain.specs.Overflows.{overflow_text}
use Rattle.mpx_explain.proofs.overflows.push_lines.Given as goal

abbrev pub invariant-loop-overflow : goal.invariant-loop-overflow
invariant-loop-overflow l = l.told.items ++ flat_map (overflow_text l.text) (drop l.overflow-index l.named) ≡ l.fn.told.items ++ flat_map (overflow_text l.text) l.named
