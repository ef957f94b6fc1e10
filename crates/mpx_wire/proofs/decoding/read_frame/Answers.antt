use Rattle.std.proofs.lemmas.Result.{err_from_is_err_and}
use Rattle.mpx_decode.specs.Raising.{no_parts}
use Rattle.mpx_wire.proofs.Taking.{behind_it, front_fails, parts_fail, parts_found}
use Rattle.mpx_wire.proofs.decoding.read_frame.Goals as goal

pub returns-in_err-version-clause-gives : goal.returns-in_err-version-clause-gives
returns-in_err-version-clause-gives c =
    let p = err_from_is_err_and c.from_residual.result c.from_residual.ensures.1 in
    rw (p.1, p.2) (front_fails c.args.bytes.now c.in_err-version.field-0.0 c.in_err-version.ensures.gives)

pub returns-in_err-parts-clause-gives : goal.returns-in_err-parts-clause-gives
returns-in_err-parts-clause-gives c =
    let p = err_from_is_err_and c.from_residual-in_err-parts.result c.from_residual-in_err-parts.ensures.1 in
    rw (p.1, p.2) (parts_fail c.args.bytes.now c.in_ok-version.version c.in_ok-version.rest.now c.in_ok-version.ensures.gives c.in_err-parts.field-0.0 c.in_err-parts.ensures.gives)

pub returns-in_err-parts-clause-some : goal.returns-in_err-parts-clause-some
returns-in_err-parts-clause-some c =
    let p = err_from_is_err_and c.from_residual-in_err-parts.result c.from_residual-in_err-parts.ensures.1 in
    rw (p.1, p.2) (λ is w none. c.in_err-parts.ensures.some (behind_it c.args.bytes.now c.in_ok-version.version c.in_ok-version.rest.now c.in_ok-version.ensures.gives w no_parts none))

pub returns-clause-gives : goal.returns-clause-gives
returns-clause-gives c = parts_found c.args.bytes.now c.in_ok-version.version c.in_ok-version.rest.now c.in_ok-version.ensures.gives _ c.in_ok-parts.rest.now c.in_ok-parts.ensures.gives
