use Rattle.mpx_board.specs.Looks.{parts_of}
use Rattle.mpx_board.specs.Views.{view_of_acks}
use Rattle.mpx_digest.specs.Digest.{numbers_acked}
use Rattle.mpx_delta.proofs.Saying.{raised_alone}
use Rattle.mpx_delta.proofs.lacking.raised_acks.Goals as goal

pub returns : goal.returns
returns c = raised_alone (parts_of c.args.board.now) c.args.me (numbers_acked (view_of_acks c.args.digest.now)) _ _ c.in_ok-said.ensures c.in_ok-raise_acks.ensures.ok
