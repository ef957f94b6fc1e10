use Rattle.std.proofs.Common.{◌≡◌, ◌∙◌, Some, ap, arith, false, inl, inr, subst, sym, true}
use Rattle.std.specs.Prelude.{is_some, slice_get}
use Rattle.std.proofs.lemmas.Bool.{cases_eq}
use Rattle.std.proofs.lemmas.Option.{same_Some}
use Rattle.mpx_node.specs.Nodes.{NodeView}
use Rattle.mpx_meaning.specs.Ends.{asked_view}
use Rattle.mpx_meaning.specs.declared.end.AskedCall.{AskedCall}
use Rattle.mpx_threads.specs.Rest.{Lacks}
use Rattle.mpx_threads.proofs.Asked.{calls_from, calls_there}
use Rattle.mpx_threads.proofs.Jobs.{read_at}
use Rattle.mpx_at_once.proofs.Tasks.{within_get}
use Rattle.mpx_threads.proofs.rest.has_ended_or_lacks.Goals as goal

pub returns-then-lacks-clause-yes : goal.returns-then-lacks-clause-yes
returns-then-lacks-clause-yes c t =
    let calls = c.as_slice-calls.result.now in
    let asked : AskedCall = c.index-calls-i.result in
    let here : slice_get calls c.loop-i.i ≡ Some asked = read_at calls c.loop-i.i asked (omega arith) c.index-calls-i.is in
    let there = calls_there c.args.worked.now.end c.in-Some.waits c.in-Some.is c.loop-i.i asked (ap (λ xs. slice_get xs c.loop-i.i) (sym c.as_slice-calls.ensures.value) ∙ here) in
    inr (c.loop-i.i, ((asked_view asked).1, (there, subst (λ (n : NodeView). Lacks n (asked_view asked).1) c.node.ensures.node (c.lacks.ensures.yes c.if-lacks.true))))

pub returns-clause-no : goal.returns-clause-no
returns-clause-no c t ended = elim ended [
  | inl idle ↦ let never : true ≡ false = sym (ap is_some c.in-Some.is) ∙ idle in cc never
  | inr o ↦
      let found = calls_from c.args.worked.now.end c.in-Some.waits c.in-Some.is o.0 o.1.0 o.1.1.0 in
      let at = ap (λ xs. slice_get xs o.0) c.as_slice-calls.ensures.value ∙ found.1.0 in
      c.loop-i.invariant o.0 found.0 (omega (arith, within_get c.as_slice-calls.result.now o.0 found.0 at, c.loop-i-test.false)) at (subst (Lacks _) (sym found.1.1) o.1.1.1)
]

pub loop-i-preserved : goal.loop-i-preserved
loop-i-preserved c k asked less at lacks = elim (cases_eq k c.loop-i.i) [
  | inl same ↦
      let calls = c.as_slice-calls.result.now in
      let here : slice_get calls c.loop-i.i ≡ Some c.index-calls-i.result = read_at calls c.loop-i.i c.index-calls-i.result (omega arith) c.index-calls-i.is in
      let is = same_Some asked c.index-calls-i.result (sym at ∙ ap (slice_get calls) same ∙ here) in
      c.lacks.ensures.no c.if-lacks.false (subst (λ (x : NodeView × AskedCall). Lacks x.0 (asked_view x.1).1) (λ i. (sym c.node.ensures.node i, is i)) lacks)
  | inr other ↦ c.loop-i.invariant k asked (omega (arith, less, other)) at lacks
]
