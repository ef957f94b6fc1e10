use Rattle.std.proofs.Common.{arith}
use Rattle.mpx_board.specs.Views.{view_of_call}
use Rattle.mpx_format.proofs.ContextLaws.{call_posts_laws}
use Rattle.mpx_decode.proofs.NearBytes.{gives_then}
use Rattle.mpx_decode.proofs.join_posts.CallPostsWireJoin.read_new.Goals as goal

pub returns-clause-read : goal.returns-clause-read
returns-clause-read c = gives_then (call_posts_laws c.args.version) c.args.bytes.now (λ i. omega (arith, c.type_inv.bytes i)) c.read.result (λ x. view_of_call x.0) (λ x. x.1.now) c.read.ensures c.args.beyond.now
