use Rattle.mpx_decode.proofs.FrontBirths.{told_behind}
use Rattle.mpx_decode.proofs.join_births.behind_told.Goals as goal

pub returns-then-form-eq1 : goal.returns-then-form-eq1
returns-then-form-eq1 c = rw c.in-Known.is (told_behind c.behind_birth.result (λ x. x.now) c.in-Known.birth c.args.bytes.now c.in-Ok.rest.now c.in-Ok.form c.in-Ok.ensures.gives c.if-form-eq1.true c.behind_birth.ensures)
