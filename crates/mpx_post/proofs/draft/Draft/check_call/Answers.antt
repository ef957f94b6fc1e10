use Rattle.std.proofs.Common.{arith}
use Rattle.mpx_post.specs.Drafts.{at}
use Rattle.mpx_post.proofs.Checks.{room_of_call}
use Rattle.mpx_post.proofs.draft.Draft.check_call.Goals as goal

pub returns-clause-room : goal.returns-clause-room
returns-clause-room g c =
    room_of_call _ c.args.birth.now c.args.me c.on.result (at c.args.name.now c.args.call c.args.closed) c.args.self c.check.result c.on.ensures (omega (arith, c.ranges.call.fits)) c.check.ensures
