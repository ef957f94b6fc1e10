use Rattle.std.proofs.Common.{◌≡◌, length, arith}
use Rattle.mpx_format.specs.Births.{neighbours}
use Rattle.mpx_encode.proofs.Posts.{length-own}
use Rattle.mpx_encode.proofs.write_makings.own_len.Goals as goal

pub returns-clause-value : goal.returns-clause-value
returns-clause-value c =
    let n = c.args.own.now in
    let sources : c.neighbours_len.result ≡ length ((neighbours n.weighted).spelling n.sources) = rw (c.weighted.ensures, c.sources.ensures.value) at c.neighbours_len.ensures.value in
    let destinations : c.neighbours_len-2.result ≡ length ((neighbours n.weighted).spelling n.destinations) = rw (c.weighted-2.ensures, c.destinations.ensures.value) at c.neighbours_len-2.ensures.value in
    omega (arith, sources, destinations, length-own n)
