use Rattle.std.proofs.Common.{◌≡◌, ◌∙◌, Some, ap, arith, inl, inr, subst, sym}
use Rattle.std.specs.Prelude.{slice_get}
use Rattle.std.proofs.lemmas.Bool.{cases_eq}
use Rattle.std.proofs.lemmas.Option.{same_Some}
use Rattle.mpx_threads.specs.Rest.{EndedOrLacks}
use Rattle.mpx_threads.proofs.Jobs.{read_at}
use Rattle.mpx_threads.proofs.rest.have_ended_or_lack.Goals as goal

pub loop-p-preserved : goal.loop-p-preserved
loop-p-preserved c q w l e =
    let xs = c.args.worked.now in
    let here : slice_get xs c.loop-p.p ≡ Some c.index-worked-p.result = read_at xs c.loop-p.p c.index-worked-p.result (omega arith) c.index-worked-p.is in
    elim (cases_eq q c.loop-p.p) [
      | inl same ↦ subst EndedOrLacks (same_Some c.index-worked-p.result w (sym here ∙ ap (slice_get xs) (sym same) ∙ e)) (c.has_ended_or_lacks.ensures.yes c.if-not-has_ended_or_lacks.false)
      | inr other ↦ c.loop-p.invariant q w (omega (arith, l, other)) e
    ]

pub returns-then-not-has_ended_or_lacks-clause-no : goal.returns-then-not-has_ended_or_lacks-clause-no
returns-then-not-has_ended_or_lacks-clause-no c t all =
    let here : slice_get c.args.worked.now c.loop-p.p ≡ Some c.index-worked-p.result = read_at c.args.worked.now c.loop-p.p c.index-worked-p.result (omega arith) c.index-worked-p.is in
    c.has_ended_or_lacks.ensures.no c.if-not-has_ended_or_lacks.true (all c.loop-p.p c.index-worked-p.result c.loop-p-test.true here)
