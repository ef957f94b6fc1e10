use Rattle.mpx_format.specs.Posts.{post}
use Rattle.mpx_decode.proofs.NearBytes.{gives_near}
use Rattle.mpx_decode.proofs.posts.PostWireValue.read.Goals as goal

pub returns : goal.returns
returns c = gives_near (post c.args.version) c.args.bytes.now c.nothing.result c.nothing.ensures c.read_post.new.beyond c.read_post.ensures.less c.read_post.result (λ x. x.0) (λ x. x.1.now) c.read_post.ensures.read
