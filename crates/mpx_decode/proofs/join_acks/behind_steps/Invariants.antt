use Rattle.mpx_format.specs.Fields.{step}
use Rattle.mpx_decode.proofs.Loop.{ReadSoFar}
use Rattle.std.proofs.Common.{length, take}
use Rattle.mpx_decode.proofs.join_acks.behind_steps.Given as goal

abbrev pub invariant-loop-i : goal.invariant-loop-i
invariant-loop-i l = record {
  read : ReadSoFar (λ before. step) (length l.steps) l.i (take l.i l.steps) l.rest l.bytes;
}
