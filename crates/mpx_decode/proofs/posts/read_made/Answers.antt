use Rattle.std.proofs.Common.{arith}
use Rattle.mpx_format.proofs.PostLaws.{making_for_laws}
use Rattle.mpx_decode.proofs.NearBytes.{gives_on}
use Rattle.mpx_decode.proofs.posts.read_made.Goals as goal

pub returns-clause-whole : goal.returns-clause-whole
returns-clause-whole c = gives_on (making_for_laws c.args.makes) c.args.bytes.now (λ i. omega (arith, c.type_inv.bytes i)) c.read_making.result (λ x. (x.0, x.1.now)) c.read_making.ensures.read
