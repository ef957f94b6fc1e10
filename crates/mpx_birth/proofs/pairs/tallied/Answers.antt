use Rattle.std.proofs.Common.{◌∙◌, ap, arith, take, refl}
use Rattle.std.proofs.lemmas.List.{get_or-replicate, take_all, length-take}
use Rattle.std.proofs.lemmas.List.FromFn.{fill_by_all}
use Rattle.mpx_birth.specs.Edges.{often}
use Rattle.mpx_birth.proofs.Telling.{often-length}
use Rattle.mpx_birth.proofs.pairs.tallied.Goals as goal

pub loop-neighbour-init : goal.loop-neighbour-init
loop-neighbour-init c = record { long = refl; counted = λ rank l. get_or-replicate 64 rank 0 0 l }

pub overflow_add-counts : goal.overflow_add-counts
overflow_add-counts c =
    let before = take c.loop-neighbour.neighbour-index c.args.neighbours.now in
    omega (
      arith,
      c.loop-neighbour.invariant.counted c.from-rank.result c.if-rank-lt64.true,
      often-length c.from-rank.result before,
      length-take c.loop-neighbour.neighbour-index c.args.neighbours.now,
    )

pub returns : goal.returns
returns c =
    let ns = c.args.neighbours.now in
    let all = take_all c.loop-neighbour.neighbour-index ns c.loop-neighbour-test.false in
    (λ i. record { counts = fill_by_all (λ rank. often rank ns) c.loop-neighbour.counts 64 0 c.loop-neighbour.invariant.long (λ rank l. c.loop-neighbour.invariant.counted rank l ∙ ap (often rank) all) i })
