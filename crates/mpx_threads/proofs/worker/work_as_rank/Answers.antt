use Rattle.std.proofs.Common.{◌≡◌, arith, length, subst}
use Rattle.mpx_shared.specs.LawfulPorts.{made_in}
use Rattle.mpx_meaning.specs.Ends.{end_view}
use Rattle.mpx_threads.specs.Work.{HasCome}
use Rattle.mpx_threads.proofs.worker.work_as_rank.Goals as goal

pub with_port-requires-clause-come : goal.with_port-requires-clause-come
with_port-requires-clause-come g c =
    let d = g.L.PortLock in
    let script = c.args.script.now in
    let carried = c.in_ok-carried.carried in
    let posts : carried.poster.share.amount ≡ length (made_in c.into_port-port.result) = omega (arith, c.into_port-port.ensures.posts, c.requires.new.0) in
    subst (λ n. HasCome script d.setup d.me n (end_view carried.end)) posts
    (subst (λ p. HasCome script d.setup p carried.poster.share.amount (end_view carried.end)) c.requires.me.0 c.in_ok-carried.ensures.come)
