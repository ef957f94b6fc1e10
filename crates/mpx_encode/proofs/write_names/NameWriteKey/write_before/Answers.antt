use Rattle.std.proofs.Common.{◌≡◌, [], ◌∷◌, ap, sym, ◌∙◌}
use Rattle.mpx_format.specs.Fields.{steps}
use Rattle.mpx_name.specs.declared.steps.Step.TheVariants.{Child}
use Rattle.mpx_encode.proofs.Births.{name_of_steps, one_alone}
use Rattle.mpx_encode.proofs.Maps.{told_before}
use Rattle.mpx_encode.proofs.write_names.NameWriteKey.write_before.Goals as goal

pub returns-in-Child : goal.returns-in-Child
returns-in-Child c =
    let one : c.steps-steps.result.now ≡ Child c.in-Child.call c.in-Child.colour ∷ [] = one_alone c.steps-steps.result.now c.index-steps-0.result c.if-steps-eq1.true c.index-steps-0.is ∙ ap (λ s. s ∷ []) c.in-Child.is in
    told_before c.write_only_before.result c.args.out.now c.write_only_before.new.out _ _ (c.args.byte ∷ [])
    (ap steps.spelling (sym one ∙ c.steps-steps.ensures.value) ∙ sym (name_of_steps c.args.self.now)) c.write_only_before.ensures
