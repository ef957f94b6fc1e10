use Rattle.std.proofs.Common.{rules, ◌≡◌, ◌++◌}
use Rattle.std.specs.List.{flat_map}
use Rattle.mpx_call.specs.Parts.{block_in}
use Rattle.mpx_call.proofs.Parts.{put_more}
use Rattle.mpx_call.proofs.cutting.put_together.Goals as goal

pub loop-number-preserved : goal.loop-number-preserved
loop-number-preserved g c =
    let more : c.put_block.new.whole.items ≡ c.loop-number.whole.items ++ flat_map (λ part. block_in c.args.blocks c.loop-number.number part.items) c.args.parts.now = search rules in
    put_more (λ part. part.items) c.args.blocks c.loop-number.number c.args.parts.now c.loop-number.whole.items _ c.loop-number.invariant more
