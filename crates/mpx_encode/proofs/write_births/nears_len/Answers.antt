use Rattle.std.proofs.Common.{◌≡◌, ◌<◌, length, arith, get_or}
use Rattle.mpx_birth.specs.Topologies.{nobody}
use Rattle.mpx_format.specs.Births.{neighbours}
use Rattle.mpx_encode.proofs.Births.{nears_more}
use Rattle.mpx_encode.proofs.write_births.nears_len.Goals as goal

pub loop-rank-preserved : goal.loop-rank-preserved
loop-rank-preserved c =
    let t = c.args.topology.now in
    let n = get_or t.ranks c.loop-rank.rank nobody in
    let lt : c.loop-rank.rank < length t.ranks = omega (arith, c.size-size.ensures.size, c.loop-rank-test.true) in
    let sources : c.neighbours_len.result ≡ length ((neighbours t.weighted).spelling n.sources) = rw (c.sources.ensures.value, c.weighted-weighted.ensures) at c.neighbours_len.ensures.value in
    let destinations : c.neighbours_len-in-loop-rank.result ≡ length ((neighbours t.weighted).spelling n.destinations) = rw (c.destinations.ensures.value, c.weighted-weighted.ensures) at c.neighbours_len-in-loop-rank.ensures.value in
    record {
      value = omega (arith, nears_more t.weighted t.ranks c.loop-rank.rank lt, sources, destinations, c.loop-rank.invariant.value);
      small = omega (arith, c.loop-rank.invariant.small, c.neighbours_len.ensures.small, c.neighbours_len-in-loop-rank.ensures.small);
    }
