use Rattle.mpx_name.specs.declared.steps.Step.TheVariants.{Child}
use Rattle.mpx_decode.proofs.NameFront.{step_behind}
use Rattle.mpx_decode.proofs.join_acks.behind_only.Goals as goal

pub returns-then-count-eq1 : goal.returns-then-count-eq1
returns-then-count-eq1 c =
    step_behind c.behind_child.result (λ rest. rest.now) c.args.bytes.now c.in-Ok.rest.now c.in-Ok.count (Child c.args.call c.args.colour) c.in-Ok.ensures.gives c.if-count-eq1.true c.behind_child.ensures
