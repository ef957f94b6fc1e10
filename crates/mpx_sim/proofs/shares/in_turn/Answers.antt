use Rattle.std.proofs.Common.{below_more, ◌+◌, ◌<◌, ℕ, length, get_or, set, sym, subst, ◌∙◌, arith}
use Rattle.std.proofs.lemmas.List.{get_or-set_same, get_or-set_other, get_or_default}
use Rattle.std.specs.Fork.{ChangesAt}
use Rattle.mpx_sim.proofs.shares.in_turn.Goals as goal

pub loop-place-preserved : goal.loop-place-preserved
loop-place-preserved g c =
    let at = c.loop-place.place in
    let xs = c.args.places.now in
    let ys = c.loop-place.places in
    let y = c.at_one.new.it in
    let R : ℕ → g.row.T.Denot → g.row.T.Denot → Type 0 = λ k. ChangesAt g.F.Fn c.args.work.now (c.args.first + k) in
    let inside : at < length ys = omega arith in
    record {
      rest = λ k d l. get_or-set_other ys at k y d (λ e. omega arith) ∙ c.loop-place.invariant.rest k d (omega arith);
      done = λ k d l. below_more (λ i. R i (get_or xs i d) (get_or (set ys at y) i d)) at
          (λ i u. subst (R i (get_or xs i d)) (sym (get_or-set_other ys at i y d (λ e. omega arith))) (c.loop-place.invariant.done i d u))
          (subst (R at (get_or xs at d)) (sym (get_or-set_same ys at y d inside))
          (subst (λ x. R at x y) (get_or_default ys at _ d inside ∙ c.loop-place.invariant.rest at d (omega arith)) c.at_one.ensures))
          k l;
    }
