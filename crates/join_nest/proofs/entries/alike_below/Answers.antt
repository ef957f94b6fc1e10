-- Entries under the same keys, compared one after the other.
use Rattle.std.proofs.Common.{get_or, refl, ◌∙◌, arith}
use Rattle.join_nest.proofs.JoinsIn.{same_place}
use Rattle.join_nest.proofs.Passes.{leq_goes_on, leq_stops}
use Rattle.join_nest.proofs.Steps.{same_tied}
use Rattle.join_nest.proofs.entries.alike_below.Goals as goal

pub returns-then-not-leq-clause-none : goal.returns-then-not-leq-clause-none
returns-then-not-leq-clause-none g c =
    let mine = same_place c.args.left.now c.loop-i.i c.index-left-i-in-loop-i.result c.index-left-i.result (omega arith) c.index-left-i-in-loop-i.is c.index-left-i.is ∙ c.index-left-i.is in
    let theirs = same_place c.args.right.now c.loop-i.i c.index-right-i-in-loop-i.result c.index-right-i.result (omega arith) c.index-right-i-in-loop-i.is c.index-right-i.is ∙ c.index-right-i.is in
    let tied = (λ t. g.K.Ord.cmp (mine t).0 (theirs t).0) ∙ same_tied g.met.K.Ord.total g.K.Exact.view g.met.K.Exact.equality g.met.K.Key.one_form c.same.result (get_or c.args.left.now c.loop-i.i c.index-left-i.result).0 (get_or c.args.right.now c.loop-i.i c.index-right-i.result).0 c.same.ensures c.if-same.true in
    leq_stops g.J.Exact.view g.met.K.Ord.total g.J.Exact.joining c.args.left.now c.args.right.now c.loop-i.i c.loop-i.i c.index-left-i-in-loop-i.result c.index-right-i-in-loop-i.result (omega arith) (omega arith) c.index-left-i-in-loop-i.is c.index-right-i-in-loop-i.is (g.K.Ord.cmp c.index-left-i-in-loop-i.result.0 c.index-right-i-in-loop-i.result.0) refl tied c.requires c.leq.result c.leq.ensures c.if-not-leq.true c.loop-i.invariant.same

pub loop-i-preserved : goal.loop-i-preserved
loop-i-preserved g c =
    let mine = same_place c.args.left.now c.loop-i.i c.index-left-i-in-loop-i.result c.index-left-i.result (omega arith) c.index-left-i-in-loop-i.is c.index-left-i.is ∙ c.index-left-i.is in
    let theirs = same_place c.args.right.now c.loop-i.i c.index-right-i-in-loop-i.result c.index-right-i.result (omega arith) c.index-right-i-in-loop-i.is c.index-right-i.is ∙ c.index-right-i.is in
    let tied = (λ t. g.K.Ord.cmp (mine t).0 (theirs t).0) ∙ same_tied g.met.K.Ord.total g.K.Exact.view g.met.K.Exact.equality g.met.K.Key.one_form c.same.result (get_or c.args.left.now c.loop-i.i c.index-left-i.result).0 (get_or c.args.right.now c.loop-i.i c.index-right-i.result).0 c.same.ensures c.if-same.true in
    record {
      left = omega arith;
      right = omega arith;
      same = leq_goes_on g.J.Exact.view g.met.K.Ord.total g.J.Exact.joining c.args.left.now c.args.right.now c.loop-i.i c.loop-i.i c.index-left-i-in-loop-i.result c.index-right-i-in-loop-i.result (omega arith) (omega arith) c.index-left-i-in-loop-i.is c.index-right-i-in-loop-i.is (g.K.Ord.cmp c.index-left-i-in-loop-i.result.0 c.index-right-i-in-loop-i.result.0) refl tied c.requires c.leq.result c.leq.ensures c.if-not-leq.false c.loop-i.invariant.same;
    }
