use Rattle.std.proofs.Common.{◌++◌, Some, arith}
use Rattle.join_core.specs.FlatSeen.{flat_view}
use Rattle.mpx_format.proofs.ContextLaws.{posted_laws}
use Rattle.mpx_format.proofs.FormatLaws.{byte_laws}
use Rattle.mpx_decode.proofs.FrontPosts.{told_behind}
use Rattle.mpx_decode.proofs.NearBytes.{gives_then, read_on}
use Rattle.mpx_decode.proofs.join_posts.FlatPostWireJoin.read_new.Goals as goal

pub returns-in-Ok-read_post-clause-read : goal.returns-in-Ok-read_post-clause-read
returns-in-Ok-read_post-clause-read c =
    let more = c.args.beyond.now in
    let form = read_on byte_laws c.args.bytes.now c.in-Ok.rest.now c.in-Ok.form (λ i. omega (arith, c.type_inv.bytes i)) c.in-Ok.ensures.gives more in
    told_behind (Some c.in-Ok-read_post.rest) (λ x. x.now ++ c.read_post.new.beyond) c.args.version c.in-Ok-read_post.post (c.args.bytes.now ++ more) (c.in-Ok.rest.now ++ more) c.in-Ok.form form c.if-form-eq1.true c.in-Ok-read_post.ensures.read

pub returns-clause-read : goal.returns-clause-read
returns-clause-read c = gives_then (posted_laws c.args.version) c.args.bytes.now (λ i. omega (arith, c.type_inv.bytes i)) c.read.result (λ x. flat_view (λ p. p) x.0) (λ x. x.1.now) c.read.ensures c.args.beyond.now
