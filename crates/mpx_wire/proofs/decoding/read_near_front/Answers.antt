use Rattle.std.proofs.Common.{arith}
use Rattle.mpx_decode.proofs.NearBytes.{gives_on}
use Rattle.mpx_wire.proofs.Taking.{front_laws}
use Rattle.mpx_wire.proofs.decoding.read_near_front.Goals as goal

pub returns : goal.returns
returns c = gives_on front_laws c.args.bytes.now (λ i. omega (arith, c.type_inv.bytes i)) c.read_front.result (λ x. (x.0, x.1.now)) c.read_front.ensures.gives
