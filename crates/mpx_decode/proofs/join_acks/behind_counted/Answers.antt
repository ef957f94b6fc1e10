use Rattle.mpx_decode.proofs.NameFront.{name_behind}
use Rattle.mpx_decode.proofs.join_acks.behind_counted.Goals as goal

pub returns-then-count-steps : goal.returns-then-count-steps
returns-then-count-steps c =
    name_behind c.behind_steps.result (λ rest. rest.now) c.args.bytes.now c.in-Ok.rest.now c.in-Ok.count c.args.steps.now c.requires c.in-Ok.ensures.gives c.if-count-steps.true c.behind_steps.ensures
