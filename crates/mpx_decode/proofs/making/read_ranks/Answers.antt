use Rattle.mpx_decode.proofs.Members.{distinct_members}
use Rattle.mpx_decode.proofs.making.read_ranks.Goals as goal

pub new-requires : goal.new-requires
new-requires c = record { below = c.in_ok-list.ensures.within; distinct = distinct_members _ _ c.in_ok-list.list.items c.in_ok-list.rest.now c.in_ok-list.ensures.read }
