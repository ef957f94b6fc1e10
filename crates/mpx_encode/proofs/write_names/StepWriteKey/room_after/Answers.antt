use Rattle.std.proofs.Common.{◌≡◌, ◌+◌, length, sym, ap, ◌∙◌, arith}
use Rattle.mpx_format.specs.Fields.{step}
use Rattle.mpx_encode.specs.Room.{room_left}
use Rattle.mpx_encode.proofs.Births.{length-child, length-gathering}
use Rattle.mpx_encode.proofs.write_names.StepWriteKey.room_after.Goals as goal

pub returns-in-Child-clause-value : goal.returns-in-Child-clause-value
returns-in-Child-clause-value c =
    c.room_left.ensures ∙ ap (λ n. room_left n c.args.room) (sym (ap (λ s. length (step.spelling s)) c.in-Child.is ∙ length-child c.in-Child.call c.in-Child.colour))

pub returns-in-Gathering-clause-value : goal.returns-in-Gathering-clause-value
returns-in-Gathering-clause-value c =
    let few : 4 + c.from.result ≡ 4 + length c.in-Gathering.members = omega (arith, c.from.ensures, c.size.ensures.size) in
    c.room_left-in-Gathering.ensures ∙ ap (λ n. room_left n c.args.room) (few ∙ sym (ap (λ s. length (step.spelling s)) c.in-Gathering.is ∙ length-gathering c.in-Gathering.tag c.in-Gathering.members))
