use Rattle.std.proofs.Common.{◌≡◌, map}
use Rattle.std.specs.List.{flat_map}
use Rattle.mpx_birth.specs.Births.{upto}
use Rattle.mpx_call.specs.Parts.{block_in}
use Rattle.mpx_call.proofs.cutting.put_together.Given as goal

abbrev pub invariant-loop-number : goal.invariant-loop-number
invariant-loop-number g l = l.whole.items ≡ flat_map (λ number. flat_map (block_in l.fn.blocks number) (map (λ part. part.items) l.fn.parts)) (upto l.number)
