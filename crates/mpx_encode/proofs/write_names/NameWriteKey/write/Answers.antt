use Rattle.std.proofs.Common.{◌≡◌, [], ◌∷◌, ap, sym, ◌∙◌}
use Rattle.mpx_format.specs.Fields.{steps}
use Rattle.mpx_name.specs.declared.steps.Step.TheVariants.{Child}
use Rattle.std.proofs.lemmas.List.{nil_from_length}
use Rattle.mpx_encode.proofs.Births.{name_fits_steps, name_of_steps, one_alone, steps_spelled}
use Rattle.mpx_encode.proofs.Maps.{told_as}
use Rattle.mpx_encode.proofs.write_names.NameWriteKey.write.Goals as goal

pub returns-then-steps-eq0 : goal.returns-then-steps-eq0
returns-then-steps-eq0 c =
    told_as c.write_u8.result c.args.out.now c.write_u8.new.out (0 ∷ []) _
    (sym (steps_spelled []) ∙ ap steps.spelling (sym (nil_from_length c.steps-steps.result.now c.if-steps-eq0.true)) ∙ ap steps.spelling c.steps-steps.ensures.value ∙ sym (name_of_steps c.args.self.now)) c.write_u8.ensures

pub returns-in-Child : goal.returns-in-Child
returns-in-Child c =
    let one : c.steps-steps.result.now ≡ Child c.in-Child.call c.in-Child.colour ∷ [] = one_alone c.steps-steps.result.now c.index-steps-0.result c.if-steps-eq1.true c.index-steps-0.is ∙ ap (λ s. s ∷ []) c.in-Child.is in
    told_as c.write_only.result c.args.out.now c.write_only.new.out _ _
    (ap steps.spelling (sym one ∙ c.steps-steps.ensures.value) ∙ sym (name_of_steps c.args.self.now)) c.write_only.ensures

pub write_counted-requires : goal.write_counted-requires
write_counted-requires c = ap steps.fits c.steps-steps.ensures.value ∙ sym (name_fits_steps c.args.self.now) ∙ c.requires

pub returns : goal.returns
returns c =
    told_as c.write_counted.result c.args.out.now c.write_counted.new.out _ _
    (ap steps.spelling c.steps-steps.ensures.value ∙ sym (name_of_steps c.args.self.now)) c.write_counted.ensures
