use Rattle.std.proofs.Common.{◌≡◌, ◌≤◌, ◌-◌, ◌++◌, take, drop}
use Rattle.std.specs.List.{flat_map}
use Rattle.frame_text.specs.Lines.{all_told, line_told, lines_after}
use Rattle.frame_text.proofs.lines.all_told.Given as goal

abbrev pub invariant-loop-i : goal.invariant-loop-i
invariant-loop-i l = record {
  start : l.start ≤ l.i;
  told : l.told.items ++ flat_map line_told (lines_after (take (l.i - l.start) (drop l.start l.text)) (drop l.i l.text)) ≡ all_told l.text;
}
