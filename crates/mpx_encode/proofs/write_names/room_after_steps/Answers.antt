use Rattle.std.proofs.Common.{◌≡◌, length, sym, ap, ◌∙◌}
use Rattle.std.specs.List.{flat_map}
use Rattle.mpx_format.specs.Fields.{step}
use Rattle.mpx_encode.specs.Room.{room_left}
use Rattle.mpx_encode.proofs.Births.{length-child, one_spelled}
use Rattle.mpx_encode.proofs.Maps.{if_left}
use Rattle.mpx_encode.proofs.write_names.room_after_steps.Goals as goal

pub returns-in-Child-clause-value : goal.returns-in-Child-clause-value
returns-in-Child-clause-value c =
    let one = one_spelled step.spelling c.args.steps.now c.index-steps-0.result c.if-steps-eq1.true c.index-steps-0.is in
    let nine : length (flat_map step.spelling c.args.steps.now) ≡ 9 = ap length (one ∙ ap step.spelling c.in-Child.is) ∙ length-child c.in-Child.call c.in-Child.colour in
    c.room_left.ensures ∙ ap (λ n. room_left n c.args.room) (sym nine)

pub returns-in-Child-clause-fits : goal.returns-in-Child-clause-fits
returns-in-Child-clause-fits c = if_left c.room_left.result c.requires
