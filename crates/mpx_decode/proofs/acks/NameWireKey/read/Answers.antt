use Rattle.std.proofs.Common.{arith}
use Rattle.mpx_format.proofs.FieldLaws.{name_laws}
use Rattle.mpx_decode.proofs.NearBytes.{gives_on}
use Rattle.mpx_decode.proofs.acks.NameWireKey.read.Goals as goal

pub returns-clause-whole : goal.returns-clause-whole
returns-clause-whole c = gives_on name_laws c.args.bytes.now (λ i. omega (arith, c.type_inv.bytes i)) c.read_name.result (λ x. (x.0, x.1.now)) c.read_name.ensures
