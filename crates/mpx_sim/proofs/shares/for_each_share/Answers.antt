use Rattle.std.proofs.Common.{refl, subst, ◌+◌, arith}
use Rattle.std.specs.Prelude.{slice_index_or}
use Rattle.std.specs.Fork.{ChangesAt}
use Rattle.mpx_sim.proofs.shares.for_each_share.Goals as goal

pub returns : goal.returns
returns g c i d l =
    (refl, subst (λ n. ChangesAt g.F.Fn c.args.work.now n (slice_index_or c.args.places.now i d) (slice_index_or c.share_out.new.places i d)) {x = 0 + i} (omega arith) (c.share_out.ensures.each i d l))
