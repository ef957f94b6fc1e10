use Rattle.std.proofs.Common.{◌≡◌, ◌∙◌, ◌+◌, suc, Some, arith, false, subst, sym, take}
use Rattle.std.specs.Prelude.{slice_get}
use Rattle.mpx_world.proofs.Lists.{names_same}
use Rattle.mpx_threads.specs.Plans.{planned_results}
use Rattle.mpx_threads.specs.ToldCalls.{is_among}
use Rattle.mpx_threads.proofs.Jobs.{read_at}
use Rattle.mpx_threads.proofs.Telling.{among_at, among_next, at_other_call, at_other_name, at_same}
use Rattle.mpx_threads.proofs.told.Told.find.Goals as goal
use Rattle.mpx_threads.proofs.told.Told.find.Goals.{else-told-call-via-then-told-call+else-same, else-told-call-via-else-told-call}

pub returns-then-same-clause-some : goal.returns-then-same-clause-some
returns-then-same-clause-some g c =
    let t = c.told-item.result in
    let there = subst (λ xs. slice_get xs c.loop-told.told-index ≡ Some t) c.deref-told-items.ensures.value (read_at c.deref-told-items.result.now c.loop-told.told-index t c.loop-told-test.true c.told-item.is) in
    let name_is = names_same t.name c.args.name.now (sym c.same.ensures ∙ c.if-same.true) in
    (λ i. planned_results g.L.PortLock.setup g.L.PortLock.me (sym name_is i) (sym c.if-told-call.true i)) ∙ c.self.invariant c.loop-told.told-index t there

pub returns-then-same-clause-is_there : goal.returns-then-same-clause-is_there
returns-then-same-clause-is_there g c =
    let t = c.told-item.result in
    let there = subst (λ xs. slice_get xs c.loop-told.told-index ≡ Some t) c.deref-told-items.ensures.value (read_at c.deref-told-items.result.now c.loop-told.told-index t c.loop-told-test.true c.told-item.is) in
    let name_is = names_same t.name c.args.name.now (sym c.same.ensures ∙ c.if-same.true) in
    subst (λ xs. is_among xs c.args.name.now c.args.call ≡ _) c.self.view_is (among_at c.self.inside.calls.items c.loop-told.told-index t c.args.name.now c.args.call there (at_same c.args.name.now c.args.call t name_is c.if-told-call.true))

pub loop-told-preserved : goal.loop-told-preserved
loop-told-preserved g c =
    let t = c.told-item.result in
    let items = c.deref-told-items.result.now in
    let next = among_next items c.loop-told.told-index t c.args.name.now c.args.call (read_at items c.loop-told.told-index t c.loop-told-test.true c.told-item.is) c.loop-told.invariant in
    let more : suc c.loop-told.told-index ≡ c.loop-told.told-index + 1 = omega arith in
    subst (λ n. is_among (take n items) c.args.name.now c.args.call ≡ false) more (elim c.else-told-call.branch [
      | else-told-call-via-then-told-call+else-same w ↦ next (at_other_name c.args.name.now c.args.call t (sym w.same.ensures ∙ w.if-same.false))
      | else-told-call-via-else-told-call w ↦ next (at_other_call c.args.name.now c.args.call t w.if-told-call.false)
    ])
