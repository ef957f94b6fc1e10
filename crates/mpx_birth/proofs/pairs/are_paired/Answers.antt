use Rattle.std.proofs.Common.{◌∙◌, ◌++◌, ◌∷◌, [], ap, arith, length, sym}
use Rattle.std.specs.List.{list_all}
use Rattle.std.proofs.lemmas.List.{length-set, map_more, take_more_set}
use Rattle.mpx_birth.specs.Orders.{upto}
use Rattle.mpx_birth.specs.Tallies.{tally_of}
use Rattle.mpx_birth.specs.Topologies.{Near, tell_alike}
use Rattle.mpx_birth.proofs.Below.{fails_below}
use Rattle.mpx_birth.proofs.pairs.are_paired.Goals as goal

pub loop-i-preserved : goal.loop-i-preserved
loop-i-preserved c =
    let ranks = c.args.ranks.now in
    let near = c.index-ranks-i.result in
    let next = c.tallied.ensures ∙ ap tally_of c.destinations.ensures ∙ ap (λ (n : Near). tally_of n.destinations) c.index-ranks-i.is in
    record {
      long = length-set c.loop-i.told c.loop-i.i c.tallied.result ∙ c.loop-i.invariant.long;
      told =
          take_more_set c.loop-i.told c.loop-i.i c.tallied.result (omega (arith, c.loop-i.invariant.long, c.loop-i-test.true, c.requires))
          ∙ (λ i. c.loop-i.invariant.told i ++ next i ∷ [])
          ∙ sym (map_more (λ (n : Near). tally_of n.destinations) ranks c.loop-i.i near c.loop-i-test.true);
    }

pub returns-then-not-are_awaited : goal.returns-then-not-are_awaited
returns-then-not-are_awaited c =
    let size = length c.args.ranks.now in
    sym (fails_below (λ j. list_all (λ i. tell_alike c.args.ranks.now i j) (upto size)) size c.loop-rank.rank c.loop-rank-test.true (sym c.are_awaited.ensures ∙ c.if-not-are_awaited.true))
