use Rattle.std.proofs.Common.{◌++◌, Ok, ap, arith, sym, ◌∙◌}
use Rattle.mpx_format.proofs.FieldLaws.{process_laws}
use Rattle.mpx_decode.proofs.NearBytes.{read_on}
use Rattle.mpx_decode.proofs.acks.ProcWireKey.read.Goals as goal

pub returns-clause-whole : goal.returns-clause-whole
returns-clause-whole c = λ more.
    read_on process_laws c.args.bytes.now c.in_ok-number.rest.now c.in_ok-number.number (λ i. omega (arith, c.type_inv.bytes i)) c.in_ok-number.ensures.read more
    ∙ ap (λ n. Ok (n, c.in_ok-number.rest.now ++ more)) (sym c.new.ensures)
