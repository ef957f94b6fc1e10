-- Joined with the first, where that fits.
use Rattle.std.proofs.Common.{◌≤◌, subst}
use Rattle.mpx_delta.proofs.Joining.{says_first}
use Rattle.mpx_delta.proofs.packing.seam.Goals as goal

pub returns : goal.returns
returns c = (c.if-rest-lt1.false, says_first c.args.limit c.args.last.now c.in_ok-both.both c.index-rest-0.result c.args.rest.now c.if-rest-lt1.false c.index-rest-0.is c.in_ok-both.ensures (subst (λ n. n ≤ c.args.limit) c.frame_len.ensures c.if-limit-frame_len.false))
