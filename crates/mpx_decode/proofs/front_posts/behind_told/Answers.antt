use Rattle.std.proofs.Common.{◌++◌, arith}
use Rattle.mpx_format.proofs.FormatLaws.{byte_laws}
use Rattle.mpx_decode.proofs.FrontPosts.{told_behind}
use Rattle.mpx_decode.proofs.NearBytes.{read_on}
use Rattle.mpx_decode.proofs.front_posts.behind_told.Goals as goal

pub returns-then-form-eq1-clause-some : goal.returns-then-form-eq1-clause-some
returns-then-form-eq1-clause-some c =
    let more = c.args.beyond.now in
    let form = read_on byte_laws c.args.bytes.now c.in-Ok.rest.now c.in-Ok.form (λ i. omega (arith, c.type_inv.bytes i)) c.in-Ok.ensures.gives more in
    rw c.in-Known.is (told_behind c.behind_post.result (λ x. x.now ++ c.behind_post.new.beyond) c.args.version c.in-Known.post (c.args.bytes.now ++ more) (c.in-Ok.rest.now ++ more) c.in-Ok.form form c.if-form-eq1.true c.behind_post.ensures.some)
