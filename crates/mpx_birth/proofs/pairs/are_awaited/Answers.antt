use Rattle.std.proofs.Common.{◌∙◌, ap, arith, sym}
use Rattle.std.proofs.lemmas.Bool.{eq-eqb, ne_eqb}
use Rattle.mpx_birth.specs.Tallies.{tally_of}
use Rattle.mpx_birth.specs.Topologies.{tell_alike}
use Rattle.mpx_birth.proofs.Below.{fails_below, one_further}
use Rattle.mpx_birth.proofs.Telling.{awaited_from, told_to}
use Rattle.mpx_birth.proofs.pairs.are_awaited.Goals as goal

pub returns-then-told-i : goal.returns-then-told-i
returns-then-told-i c =
    let ranks = c.args.ranks.now in
    let told = told_to ranks c.args.told.now c.loop-i.i c.args.rank _ c.requires.told c.loop-i-test.true (omega (arith, c.requires.rank, c.requires.small)) in
    let awaited = awaited_from ranks c.tallied-awaited.result c.index-ranks-rank.result c.loop-i.i c.args.rank (c.tallied-awaited.ensures ∙ ap tally_of c.sources.ensures) c.index-ranks-rank.is c.requires.rank (omega (arith, c.loop-i-test.true, c.requires.small)) in
    sym (fails_below (λ i. tell_alike ranks i c.args.rank) _ c.loop-i.i c.loop-i-test.true (ne_eqb _ _ (λ e. c.if-told-i.true (told ∙ e ∙ sym awaited))))

pub loop-i-preserved : goal.loop-i-preserved
loop-i-preserved c =
    let ranks = c.args.ranks.now in
    let told = told_to ranks c.args.told.now c.loop-i.i c.args.rank _ c.requires.told c.loop-i-test.true (omega (arith, c.requires.rank, c.requires.small)) in
    let awaited = awaited_from ranks c.tallied-awaited.result c.index-ranks-rank.result c.loop-i.i c.args.rank (c.tallied-awaited.ensures ∙ ap tally_of c.sources.ensures) c.index-ranks-rank.is c.requires.rank (omega (arith, c.loop-i-test.true, c.requires.small)) in
    one_further (λ i. tell_alike ranks i c.args.rank) c.loop-i.i c.loop-i.invariant (eq-eqb _ _ (sym told ∙ c.if-told-i.false ∙ awaited))
