use Rattle.std.proofs.Common.{◌≡◌, ◌++◌, take}
use Rattle.std.specs.List.{flat_map}
use Rattle.mpx_call.specs.Parts.{block_in}
use Rattle.mpx_call.proofs.cutting.put_block.Given as goal

abbrev pub invariant-loop-part : goal.invariant-loop-part
invariant-loop-part g l = l.whole.items ≡ l.initial.whole.items ++ flat_map (λ part. block_in l.fn.blocks l.fn.number part.items) (take l.part-index l.parts)
