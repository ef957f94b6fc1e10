use Rattle.std.proofs.Common.{◌≡◌, ◌∙◌, ◌+◌, ◌==◌, true, false, not, length, inl, inr, ap, sym, subst, arith}
use Rattle.std.proofs.lemmas.Bool.{cases_eq}
use Rattle.std.proofs.lemmas.Bool.Decides.{nat_tests}
use Rattle.mpx_birth.specs.Topologies.{destinations_at, sources_at}
use Rattle.mpx_birth.specs.Ends.{rank_at}
use Rattle.mpx_birth.proofs.Passes.{AreMet, destinations_mutual, meet_one, next_small, none_met}
use Rattle.mpx_match.proofs.Below.{none_below, some_below}
use Rattle.mpx_match.proofs.Ends.{edge_differs, edge_is}
use Rattle.mpx_match.proofs.amounts.along_each.Goals as goal

pub loop-place-init : goal.loop-place-init
loop-place-init c = record {
  met = subst (λ next. AreMet c.args.rank (destinations_at c.args.topology.now c.args.rank) (sources_at c.args.topology.now) next 0) (sym c.new-pass.ensures)
      (none_met (destinations_mutual c.args.topology.now c.size.ensures.kept.agree c.size.ensures.kept.few c.args.rank));
  agree = λ k l. absurd (omega (arith, l));
}

pub meet-taken-requires-clause-rank : goal.meet-taken-requires-clause-rank
meet-taken-requires-clause-rank c = next_small c.loop-place.invariant.met _ c.destinations-destinations.ensures.value c.loop-place-test.true

pub meet-taken-requires-clause-within : goal.meet-taken-requires-clause-within
meet-taken-requires-clause-within c =
    let e = ap length c.sources.ensures.value in
    let w = c.loop-place.invariant.met.within (rank_at c.destinations-destinations.result.now c.loop-place.place) in
    omega (arith, e, w)

pub returns-then-sent-awaited_on : goal.returns-then-sent-awaited_on
returns-then-sent-awaited_on c =
    let differs : not (c.sent_on-sent.result == c.awaited_on.result) ≡ true = grind (arith, nat_tests) in
    let one = meet_one c.loop-place.invariant.met _ _ _ c.destinations-destinations.ensures.value c.loop-place-test.true c.sources.ensures.value c.meet-taken.ensures.place in
    let edge = edge_is c.args.exchange c.args.topology.now c.args.row.now c.args.rank c.loop-place.place _ c.destinations-destinations.ensures.value _ _ _ one.there (rw c.from.ensures at c.sent_on-sent.ensures) (rw c.from-in-loop-place.ensures at c.awaited_on.ensures) in
    sym (some_below (edge_differs c.args.exchange c.args.topology.now c.args.row.now c.args.rank) (length (destinations_at c.args.topology.now c.args.rank)) c.loop-place.place (let e = ap length c.destinations-destinations.ensures.value in let l = c.loop-place-test.true in omega (arith, e, l)) (sym edge ∙ differs))

pub loop-place-preserved : goal.loop-place-preserved
loop-place-preserved c =
    let same : not (c.sent_on-sent.result == c.awaited_on.result) ≡ false = grind (arith, nat_tests) in
    let one = meet_one c.loop-place.invariant.met _ _ _ c.destinations-destinations.ensures.value c.loop-place-test.true c.sources.ensures.value c.meet-taken.ensures.place in
    let edge = edge_is c.args.exchange c.args.topology.now c.args.row.now c.args.rank c.loop-place.place _ c.destinations-destinations.ensures.value _ _ _ one.there (rw c.from.ensures at c.sent_on-sent.ensures) (rw c.from-in-loop-place.ensures at c.awaited_on.ensures) in
    record {
      met = subst (λ next. AreMet c.args.rank (destinations_at c.args.topology.now c.args.rank) (sources_at c.args.topology.now) next (c.loop-place.place + 1)) (sym c.meet-taken.ensures.after) one.more;
      agree = λ k l. elim (cases_eq k c.loop-place.place) [
        | inl here ↦ ap (edge_differs c.args.exchange c.args.topology.now c.args.row.now c.args.rank) here ∙ sym edge ∙ same
        | inr before ↦ c.loop-place.invariant.agree k (omega (arith, l, before))
      ];
    }

pub returns : goal.returns
returns c =
    sym (none_below (edge_differs c.args.exchange c.args.topology.now c.args.row.now c.args.rank) (length (destinations_at c.args.topology.now c.args.rank)) (λ k l. c.loop-place.invariant.agree k (let e = ap length c.destinations-destinations.ensures.value in let f = c.loop-place-test.false in omega (arith, e, f, l))))
