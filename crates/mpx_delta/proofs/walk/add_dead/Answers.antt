-- One piece.
use Rattle.mpx_delta.proofs.Adding.{adds_piece}
use Rattle.mpx_delta.proofs.walk.add_dead.Goals as goal

pub returns : goal.returns
returns c = rw c.in_ok-push.ensures.items (adds_piece _ _ _ c.in_ok-dead_piece.ensures)
