use Rattle.std.proofs.Common.{◌≡◌, ◌-◌, length, take}
use Rattle.std.specs.List.{join_with_byte}
use Rattle.std.specs.Prelude.{slice_set}
use Rattle.mpx_explain.specs.RefusedLines.{text_lines}
use Rattle.mpx_explain.proofs.lines.with_line.Given as goal

abbrev pub invariant-loop-place : goal.invariant-loop-place
invariant-loop-place l = l.changed.items ≡ join_with_byte 10 (take (length l.yielded) (slice_set (text_lines l.text) (l.number - 1) l.other))
