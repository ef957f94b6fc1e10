use Rattle.std.proofs.Common.{arith}
use Rattle.mpx_board.specs.Views.{view_of_acks}
use Rattle.mpx_format.proofs.FieldLaws.{acks_laws}
use Rattle.mpx_decode.proofs.NearBytes.{gives_then}
use Rattle.mpx_decode.proofs.join_acks.DigestWireJoin.read_new.Goals as goal

pub returns-clause-read : goal.returns-clause-read
returns-clause-read c = gives_then acks_laws c.args.bytes.now (λ i. omega (arith, c.type_inv.bytes i)) c.read.result (λ x. view_of_acks x.0) (λ x. x.1.now) c.read.ensures c.args.beyond.now
