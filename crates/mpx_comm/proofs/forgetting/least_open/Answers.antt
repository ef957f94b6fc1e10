use Rattle.std.proofs.Common.{◌≡◌, ◌+◌, ◌≤◌, ◌++◌, [], ◌∷◌, true, take, arith, sym, ap, ◌∙◌, subst}
use Rattle.std.proofs.lemmas.Bool.Decides.{nat_tests}
use Rattle.std.proofs.lemmas.List.{take_more}
use Rattle.mpx_name.specs.Name.{same_name}
use Rattle.mpx_name.specs.Order.{name_equality}
use Rattle.mpx_comm.specs.Forgetting.{IsLeastCall}
use Rattle.mpx_comm.proofs.Forgets.{least_less, least_same}
use Rattle.mpx_comm.proofs.forgetting.least_open.Goals as goal
use Rattle.mpx_comm.proofs.forgetting.least_open.Goals.{then-eq+then-call-least, else-eq, else-eq-via-then-eq+else-call-least, else-eq-via-else-eq}

pub loop-request-preserved : goal.loop-request-preserved
loop-request-preserved c =
    let most = c.args.most in
    let name = c.args.name.now in
    let before = take c.loop-request.request-index c.args.requests.now in
    let r = c.request-item.result in
    let here : c.eq.result ≡ same_name r.name name = rw c.name-at.ensures at c.eq.ensures in
    let called : c.call-call.result ≡ r.call = c.call-call.ensures in
    let more : take (c.loop-request.request-index + 1) c.args.requests.now ≡ before ++ r ∷ [] = take_more c.args.requests.now c.loop-request.request-index r c.loop-request-test.true ∙ ap (λ x. before ++ x ∷ []) (sym c.request-item.is) in
    subst (λ rs. IsLeastCall most name rs c.if-eq.least) (sym more)
    (elim c.if-eq.branch [
      | then-eq+then-call-least w ↦
          subst (IsLeastCall most name (before ++ r ∷ [])) (sym (w.least-is ∙ called))
          (least_less most name before c.loop-request.least r c.loop-request.invariant (name_equality.sound r.name name (sym here ∙ w.if-eq.true)) (grind (arith, nat_tests, called, w.if-call-least.true)))
      | else-eq w ↦
          subst (IsLeastCall most name (before ++ r ∷ [])) (sym w.least-is)
          (least_same most name before c.loop-request.least r c.loop-request.invariant
          (λ same. elim w.else-eq.branch [
            | else-eq-via-then-eq+else-call-least x ↦ grind (arith, nat_tests, called, x.if-call-least.false)
            | else-eq-via-else-eq x ↦
                let is : c.eq.result ≡ true = here ∙ subst (λ n. same_name r.name n ≡ true) same (name_equality.reflexive r.name) in
                absurd (cc (is, x.if-eq.false))
          ]))
    ])
