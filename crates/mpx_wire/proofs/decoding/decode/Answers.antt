use Rattle.std.proofs.Common.{Ok, ap, sym, subst, ◌∙◌, arith}
use Rattle.std.proofs.lemmas.Result.{err_from_is_err_and}
use Rattle.mpx_board.specs.Looks.{parts_of}
use Rattle.mpx_format.specs.Decoding.{Refuses}
use Rattle.mpx_format.proofs.Decoded.{decoded_found, decoded_again, frame_tidy}
use Rattle.mpx_wire.proofs.Taking.{spells_none}
use Rattle.mpx_wire.proofs.decoding.decode.Goals as goal

pub returns-in_err-parts-clause-only : goal.returns-in_err-parts-clause-only
returns-in_err-parts-clause-only c = λ v s.
    let p = err_from_is_err_and c.from_residual.result c.from_residual.ensures.1 in
    rw (p.1, p.2) (subst (λ r. Refuses c.in_err-parts.field-0.0 r) (decoded_again s.0 c.args.bytes.now v s.1) c.in_err-parts.ensures.err)

pub from_tidy-requires : goal.from_tidy-requires
from_tidy-requires c =
    let s = decoded_found c.args.bytes.now _ (λ i. omega (arith, c.type_inv.bytes i)) c.in_ok-parts.ensures.ok in
    frame_tidy s.0 _ s.1.fits

pub returns-clause-found : goal.returns-clause-found
returns-clause-found c = decoded_found c.args.bytes.now (parts_of c.from_tidy.result) (λ i. omega (arith, c.type_inv.bytes i)) (c.in_ok-parts.ensures.ok ∙ ap Ok (sym c.from_tidy.ensures))

pub returns-clause-only : goal.returns-clause-only
returns-clause-only c = λ v s. sym (decoded_again s.0 c.args.bytes.now v s.1) ∙ c.in_ok-parts.ensures.ok ∙ ap Ok (sym c.from_tidy.ensures)

pub returns-in_err-parts-clause-some : goal.returns-in_err-parts-clause-some
returns-in_err-parts-clause-some c =
    let p = err_from_is_err_and c.from_residual.result c.from_residual.ensures.1 in
    rw (p.1, p.2) (λ is v s none. c.in_err-parts.ensures.some is s.0 (spells_none c.args.bytes.now v s none))
