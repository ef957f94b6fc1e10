use Rattle.std.proofs.Common.{◌≡◌, ◌∷◌, ◌++◌, ◌∙◌, [], Some, ap, refl, subst, sym}
use Rattle.std.specs.Prelude.{IfSome}
use Rattle.mpx_threads.specs.declared.told.ToldCall.{ToldCall}
use Rattle.mpx_threads.specs.Plans.{planned_results}
use Rattle.mpx_rank.specs.Answered.{answer_of}
use Rattle.mpx_threads.specs.ToldCalls.{told_of}
use Rattle.mpx_threads.proofs.Telling.{at_same, told_last}
use Rattle.mpx_threads.proofs.desk.ThreadDesk.tell.Goals as goal

pub returns-in_ok-add-in-Some-clause-hears : goal.returns-in_ok-add-in-Some-clause-hears
returns-in_ok-add-in-Some-clause-hears g c =
    let new : ToldCall = record { name = c.args.ticket.now.name; call = c.args.ticket.now.call; answered = c.in-Some.answered } in (
      (new ∷ [], ap (λ v. v.0 ++ new ∷ []) (sym c.self.view_is) ∙ sym c.in_ok-add-in-Some.ensures),
      ap (λ v. v.1) c.self.view_is,
    )

pub returns-in_ok-add-in-Some-clause-told : goal.returns-in_ok-add-in-Some-clause-told
returns-in_ok-add-in-Some-clause-told g c =
    let known = planned_results g.L.PortLock.setup g.L.PortLock.me in
    let new : ToldCall = record { name = c.args.ticket.now.name; call = c.args.ticket.now.call; answered = c.in-Some.answered } in
    let a = answer_of c.in-Some.answered in
    let name = c.args.ticket.now.name in
    let call = c.args.ticket.now.call in
    let so = subst (λ o. IfSome o (λ x. known name call ≡ Some (answer_of x))) c.in-Some.is c.in_ok-answered.ensures in (
      a,
      subst (λ xs. told_of known xs name call ≡ Some a) (sym c.in_ok-add-in-Some.ensures) (told_last known c.self.inside.told new name call a (at_same name call new refl refl) so),
      c.in_ok-said-in-Some.ensures.outcome,
      c.in_ok-said-in-Some.ensures.given,
    )
