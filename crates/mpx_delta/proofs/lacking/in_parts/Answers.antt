use Rattle.std.proofs.Common.{refl}
use Rattle.mpx_delta.proofs.Joining.{one_join}
use Rattle.mpx_delta.proofs.lacking.in_parts.Goals as goal

pub returns-clause-join : goal.returns-clause-join
returns-clause-join c = rw (c.in_ok-push.ensures.items, c.new-whole.ensures.items) (one_join c.args.board c.args.board refl)

pub returns-clause-few : goal.returns-clause-few
returns-clause-few c = rw (c.in_ok-push.ensures.items, c.new-whole.ensures.items) tt
