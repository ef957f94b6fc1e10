use Rattle.std.proofs.Common.{◌<◌, length, arith}
use Rattle.mpx_explain.proofs.Summing.{combined_step}
use Rattle.mpx_explain.proofs.exact.add.Goals as goal

pub loop-index-preserved : goal.loop-index-preserved
loop-index-preserved c =
    let within : c.loop-index.index < length c.loop-index.sums.items = omega (arith, c.loop-index-test.true, c.len-index-end.ensures, c.loop-index.invariant.len) in
    combined_step c.args.is_product c.args.given.now c.loop-index.index c.args.sums.now.items c.loop-index.sums.items c.index.result.now c.combined.result c.number_at.result within c.loop-index.invariant c.index.ensures c.number_at.ensures
    c.combined.ensures
