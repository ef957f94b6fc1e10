use Rattle.std.proofs.Common.{◌∙◌, FitsSigned, get_or, pos, ap, rules}
use mir.Syntax.{w128}
use Rattle.std.proofs.lemmas.Int.{to_z-of_z}
use Rattle.std.proofs.lemmas.Result.{IfOk-weaker}
use Rattle.mpx_post.specs.Drafts.{is_count, natural}
use Rattle.mpx_post.proofs.Limits.{AreCounts-from}
use Rattle.mpx_post.proofs.Lists.{all_at, map_all, map_pushed}
use Rattle.mpx_post.proofs.counts.Counts.new.Goals as goal

pub natural-requires : goal.natural-requires
natural-requires c =
    let numbers = c.args.numbers.now in
    let i = c.loop-number.number-index in
    let fits : FitsSigned w128 (get_or numbers i (pos 0)) = search rules in
    rw (to_z-of_z w128 (get_or numbers i (pos 0))) (all_at is_count numbers i (pos 0) c.loop-number-test.true c.requires.counts)

pub loop-number-preserved : goal.loop-number-preserved
loop-number-preserved c =
    let numbers = c.args.numbers.now in
    let i = c.loop-number.number-index in
    let fits : FitsSigned w128 (get_or numbers i (pos 0)) = search rules in
    map_pushed natural numbers i (pos 0) c.loop-number-test.true _ _ _ c.loop-number.invariant c.in_ok-push.ensures.items (c.natural.ensures.value ∙ ap natural (to_z-of_z w128 (get_or numbers i (pos 0)) fits))

pub of-requires : goal.of-requires
of-requires c =
    let all = map_all natural c.args.numbers.now c.loop-number.number-index c.loop-number-test.false in
    rw (c.loop-number.invariant, all) (AreCounts-from c.args.numbers.now c.requires.counts c.requires.few)

pub returns : goal.returns
returns c = IfOk-weaker c.of.result _ _ (λ counts is. is ∙ c.loop-number.invariant ∙ map_all natural c.args.numbers.now c.loop-number.number-index c.loop-number-test.false) c.of.ensures
