use Rattle.std.proofs.Common.{length, ap, arith, sym}
use Rattle.mpx_birth.specs.declared.edges.Neighbour.{Neighbour}
use Rattle.std.specs.Prelude.{List}
use Rattle.mpx_birth.specs.Topologies.{Near}
use Rattle.mpx_birth.proofs.Asked.{too_many}
use Rattle.mpx_birth.proofs.limits.are_few_sources.Goals as goal

pub returns-then-room-count : goal.returns-then-room-count
returns-then-room-count c =
    let near = c.near-item.result in
    let count = ap (λ (ns : List Neighbour). length ns) c.sources-count.ensures in
    let there = ap (λ (n : Near). length n.sources) c.near-item.is in
    sym (too_many (λ (n : Near). length n.sources) c.args.ranks.now c.loop-near.near-index c.loop-near.room near c.loop-near-test.true c.loop-near.invariant (omega (arith, c.if-room-count.true, count, there)))
