use Rattle.std.proofs.Common.{arith}
use Rattle.mpx_format.proofs.FieldLaws.{call_laws}
use Rattle.mpx_decode.proofs.NearBytes.{gives_on}
use Rattle.mpx_decode.proofs.contexts.U32WireKey.read.Goals as goal

pub returns-clause-whole : goal.returns-clause-whole
returns-clause-whole c = gives_on call_laws c.args.bytes.now (λ i. omega (arith, c.type_inv.bytes i)) c.read_call.result (λ x. (x.0, x.1.now)) c.read_call.ensures.read
