use Rattle.std.proofs.Common.{◌+◌, ◌≤◌, length, map}
use Rattle.mpx_num.specs.Own.{operation_of}
use Rattle.mpx_script.proofs.Progress.{Progress}
use Rattle.mpx_script.proofs.reader.read_lines.Given as goal

abbrev pub invariant-loop-rest : goal.invariant-loop-rest
invariant-loop-rest g l = record {
  progress : Progress (map (λ b. let o = goal.OwnOp-dyn g (b.vtable, b.value) in operation_of (o.word_bytes b.value) (o.fits_type b.value) (o.combination b.value)) l.ops.list.items) l.text l.rest l.number l.partial;
  few : l.partial.statements ≤ 65536;
  bound : l.number + length l.rest ≤ 1048577;
}

abbrev pub decreases-loop-rest : goal.decreases-loop-rest
decreases-loop-rest g l = length l.rest
