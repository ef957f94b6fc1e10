-- Values of the same keys, joined one after the other.
use Rattle.std.proofs.Common.{◌≡◌, [], get_or, length, set, refl, ◌∙◌, arith}
use Rattle.std.proofs.lemmas.List.{length-set}
use Rattle.join_nest.proofs.Fronts.{on_err}
use Rattle.join_nest.proofs.JoinsIn.{left_between, left_sorted, pass_begins, pass_both, same_place, stops_between, value_wanted}
use Rattle.join_nest.proofs.Steps.{same_tied}
use Rattle.join_nest.proofs.entries.join_alike.Goals as goal

pub loop-i-init : goal.loop-i-init
loop-i-init g c = record {
  left = omega arith;
  right = omega arith;
  passed = pass_begins g.J.Exact.view g.met.K.Ord.total g.met.J.Join.laws g.met.J.Join.between_laws c.args.entries.now.items c.args.others.now;
}

pub loop-i-preserved : goal.loop-i-preserved
loop-i-preserved g c =
    let mine = same_place c.loop-i.entries.items c.loop-i.i c.index_mut.result.now c.index.result.now (omega arith) c.index_mut.ensures.value c.index.ensures in
    let theirs = same_place c.args.others.now c.loop-i.i c.index-others-i-in-loop-i.result c.index-others-i.result (omega arith) c.index-others-i-in-loop-i.is c.index-others-i.is ∙ c.index-others-i.is in
    let tied = (λ t. g.K.Ord.cmp (mine t).0 (theirs t).0) ∙ same_tied g.met.K.Ord.total g.K.Exact.view g.met.K.Exact.equality g.met.K.Key.one_form c.same.result c.index.result.now.0 (get_or c.args.others.now c.loop-i.i c.index-others-i.result).0 c.same.ensures c.if-same.true in
    let len : length (set c.loop-i.entries.items c.loop-i.i (c.index_mut.result.now.0, c.join_in.new.self)) ≡ length c.loop-i.entries.items = length-set c.loop-i.entries.items c.loop-i.i (c.index_mut.result.now.0, c.join_in.new.self) in
    record {
      left = omega (arith, len);
      right = omega arith;
      passed = pass_both g.J.Exact.view g.met.K.Ord.total g.met.J.Join.laws g.met.J.Join.between_laws c.args.entries.now.items c.args.others.now c.requires.entries c.requires.others c.loop-i.entries.items [] c.loop-i.i c.loop-i.i c.index_mut.result.now c.index-others-i-in-loop-i.result (omega arith) (omega arith) c.index_mut.ensures.value c.index-others-i-in-loop-i.is c.loop-i.invariant.passed (g.K.Ord.cmp c.index_mut.result.now.0 c.index-others-i-in-loop-i.result.0) refl tied (c.index_mut.result.now.0, c.join_in.new.self) (λ _. c.index_mut.result.now.0) c.in_ok-join_in.ensures.ok len;
    }

pub returns-in_err-join_in-clause-sorted : goal.returns-in_err-join_in-clause-sorted
returns-in_err-join_in-clause-sorted g c =
    let mine = same_place c.loop-i.entries.items c.loop-i.i c.index_mut.result.now c.index.result.now (omega arith) c.index_mut.ensures.value c.index.ensures in
    let theirs = same_place c.args.others.now c.loop-i.i c.index-others-i-in-loop-i.result c.index-others-i.result (omega arith) c.index-others-i-in-loop-i.is c.index-others-i.is ∙ c.index-others-i.is in
    let tied = (λ t. g.K.Ord.cmp (mine t).0 (theirs t).0) ∙ same_tied g.met.K.Ord.total g.K.Exact.view g.met.K.Exact.equality g.met.K.Key.one_form c.same.result c.index.result.now.0 (get_or c.args.others.now c.loop-i.i c.index-others-i.result).0 c.same.ensures c.if-same.true in
    on_err c.from_residual.result (left_sorted g.J.Exact.view g.K.Ord.cmp g.J.Exact.between c.args.others.now c.args.entries.now.items _ (
    stops_between g.J.Exact.view g.met.K.Ord.total g.met.J.Join.laws g.met.J.Join.between_laws c.args.entries.now.items c.args.others.now c.requires.entries c.requires.others c.loop-i.entries.items [] c.loop-i.i c.loop-i.i c.index_mut.result.now c.index-others-i-in-loop-i.result (omega arith) (omega arith) c.index_mut.ensures.value c.index-others-i-in-loop-i.is c.loop-i.invariant.passed (g.K.Ord.cmp c.index_mut.result.now.0 c.index-others-i-in-loop-i.result.0) refl tied (c.index_mut.result.now.0, c.join_in.new.self) (λ _. c.index_mut.result.now.0) c.in_err-join_in.ensures.err) ∙ c.requires.entries)

pub returns-in_err-join_in-clause-between : goal.returns-in_err-join_in-clause-between
returns-in_err-join_in-clause-between g c =
    let mine = same_place c.loop-i.entries.items c.loop-i.i c.index_mut.result.now c.index.result.now (omega arith) c.index_mut.ensures.value c.index.ensures in
    let theirs = same_place c.args.others.now c.loop-i.i c.index-others-i-in-loop-i.result c.index-others-i.result (omega arith) c.index-others-i-in-loop-i.is c.index-others-i.is ∙ c.index-others-i.is in
    let tied = (λ t. g.K.Ord.cmp (mine t).0 (theirs t).0) ∙ same_tied g.met.K.Ord.total g.K.Exact.view g.met.K.Exact.equality g.met.K.Key.one_form c.same.result c.index.result.now.0 (get_or c.args.others.now c.loop-i.i c.index-others-i.result).0 c.same.ensures c.if-same.true in
    on_err c.from_residual.result (left_between g.J.Exact.view g.met.K.Ord.total g.met.J.Join.laws g.met.J.Join.between_laws c.args.entries.now.items c.args.others.now g.met.K.Key.exact_order c.requires.entries c.requires.others _ (
    stops_between g.J.Exact.view g.met.K.Ord.total g.met.J.Join.laws g.met.J.Join.between_laws c.args.entries.now.items c.args.others.now c.requires.entries c.requires.others c.loop-i.entries.items [] c.loop-i.i c.loop-i.i c.index_mut.result.now c.index-others-i-in-loop-i.result (omega arith) (omega arith) c.index_mut.ensures.value c.index-others-i-in-loop-i.is c.loop-i.invariant.passed (g.K.Ord.cmp c.index_mut.result.now.0 c.index-others-i-in-loop-i.result.0) refl tied (c.index_mut.result.now.0, c.join_in.new.self) (λ _. c.index_mut.result.now.0) c.in_err-join_in.ensures.err))

pub returns-in_err-join_in-clause-more : goal.returns-in_err-join_in-clause-more
returns-in_err-join_in-clause-more g c =
    let mine = same_place c.loop-i.entries.items c.loop-i.i c.index_mut.result.now c.index.result.now (omega arith) c.index_mut.ensures.value c.index.ensures in
    let theirs = same_place c.args.others.now c.loop-i.i c.index-others-i-in-loop-i.result c.index-others-i.result (omega arith) c.index-others-i-in-loop-i.is c.index-others-i.is ∙ c.index-others-i.is in
    let tied = (λ t. g.K.Ord.cmp (mine t).0 (theirs t).0) ∙ same_tied g.met.K.Ord.total g.K.Exact.view g.met.K.Exact.equality g.met.K.Key.one_form c.same.result c.index.result.now.0 (get_or c.args.others.now c.loop-i.i c.index-others-i.result).0 c.same.ensures c.if-same.true in
    on_err c.from_residual.result (value_wanted g.J.Exact.view g.met.K.Ord.total g.met.J.Join.laws g.met.J.Join.between_laws c.args.entries.now.items c.args.others.now c.requires.entries c.requires.others c.loop-i.entries.items [] c.loop-i.i c.loop-i.i c.index_mut.result.now c.index-others-i-in-loop-i.result (omega arith) (omega arith) c.index_mut.ensures.value c.index-others-i-in-loop-i.is c.loop-i.invariant.passed (g.K.Ord.cmp c.index_mut.result.now.0 c.index-others-i-in-loop-i.result.0) refl tied c.in_err-join_in.ensures.more)
