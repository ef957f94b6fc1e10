use Rattle.std.proofs.Common.{Ok, IfSome, ap, subst, sym, ◌∙◌, ◌≡◌, [], ◌∷◌, reverse, arith}
use Rattle.std.proofs.lemmas.List.{reverse-reverse}
use Rattle.mpx_format.specs.Fields.{name}
use Rattle.mpx_name.specs.declared.steps.Step.TheVariants.{Child}
use Rattle.std.proofs.lemmas.List.{nil_from_length}
use Rattle.mpx_format.proofs.FieldLaws.{name_laws}
use Rattle.mpx_decode.proofs.NearBytes.{some_on}
use Rattle.mpx_decode.proofs.NameFront.{one_alone}
use Rattle.mpx_decode.proofs.join_acks.NameFrontKey.behind.Goals as goal

pub returns-then-steps-eq0 : goal.returns-then-steps-eq0
returns-then-steps-eq0 c =
    let back : reverse c.steps-steps.result.now ≡ c.args.self.now = ap reverse c.steps-steps.ensures.value ∙ reverse-reverse c.args.self.now in
    some_on name_laws c.args.bytes.now (λ i. omega (arith, c.type_inv.bytes i)) c.behind_world.result (λ x. x.now) c.args.self.now
    (subst (λ n. IfSome c.behind_world.result (λ rest. name.read c.args.bytes.now ≡ Ok (n, rest.now))) (sym (ap reverse (nil_from_length c.steps-steps.result.now c.if-steps-eq0.true)) ∙ back) c.behind_world.ensures)

pub returns-in-Child : goal.returns-in-Child
returns-in-Child c =
    let back : reverse c.steps-steps.result.now ≡ c.args.self.now = ap reverse c.steps-steps.ensures.value ∙ reverse-reverse c.args.self.now in
    let one : c.steps-steps.result.now ≡ Child c.in-Child.call c.in-Child.colour ∷ [] = one_alone c.steps-steps.result.now c.index-steps-0.result c.if-steps-eq1.true c.index-steps-0.is ∙ ap (λ s. s ∷ []) c.in-Child.is in
    some_on name_laws c.args.bytes.now (λ i. omega (arith, c.type_inv.bytes i)) c.behind_only.result (λ x. x.now) c.args.self.now
    (subst (λ n. IfSome c.behind_only.result (λ rest. name.read c.args.bytes.now ≡ Ok (n, rest.now))) (sym (ap reverse one) ∙ back) c.behind_only.ensures)

pub returns : goal.returns
returns c =
    let back : reverse c.steps-steps.result.now ≡ c.args.self.now = ap reverse c.steps-steps.ensures.value ∙ reverse-reverse c.args.self.now in
    some_on name_laws c.args.bytes.now (λ i. omega (arith, c.type_inv.bytes i)) c.behind_counted.result (λ x. x.now) c.args.self.now
    (subst (λ n. IfSome c.behind_counted.result (λ rest. name.read c.args.bytes.now ≡ Ok (n, rest.now))) back c.behind_counted.ensures)
