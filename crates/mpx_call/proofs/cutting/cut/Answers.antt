use Rattle.std.proofs.Common.{rules, ◌≡◌, ◌++◌, take, drop}
use Rattle.mpx_call.proofs.Parts.{cut_more}
use Rattle.mpx_call.proofs.cutting.cut.Goals as goal

pub loop-preserved : goal.loop-preserved
loop-preserved g c =
    let block = c.split.result.0.now in
    let after = c.split.result.1.now in
    let rest = c.loop.rest.now in
    let more : c.extend_from_slice.new.self.items ≡ c.loop.part.items ++ take c.args.each (drop c.args.first block) = search rules in
    cut_more c.args.blocks c.loop.counter c.args.count c.args.first c.args.each c.args.items.now rest block after c.loop.part.items _ c.loop-test.true c.split.ensures.first c.split.ensures.rest more c.loop.invariant
