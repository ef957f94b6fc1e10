use Rattle.std.proofs.Common.{arith}
use Rattle.mpx_format.proofs.FieldLaws.{some_calls_laws}
use Rattle.mpx_decode.proofs.NearBytes.{gives_then}
use Rattle.mpx_decode.proofs.join_acks.MaxWireJoin.read_new.Goals as goal

pub returns-clause-read : goal.returns-clause-read
returns-clause-read c = gives_then some_calls_laws c.args.bytes.now (λ i. omega (arith, c.type_inv.bytes i)) c.read.result (λ x. x.0.0) (λ x. x.1.now) c.read.ensures c.args.beyond.now
