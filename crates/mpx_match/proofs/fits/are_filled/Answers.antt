use Rattle.std.proofs.Common.{◌≡◌, sum}
use Rattle.mpx_kind.specs.declared.kinds.Sent.TheVariants.{Rcounts, Scounts}
use Rattle.mpx_kind.specs.Kinds.{fields_of, number_in}
use Rattle.mpx_post.proofs.Sums.{sum-repeated}
use Rattle.mpx_match.proofs.fits.are_filled.Goals as goal

pub returns-in-Rcounts : goal.returns-in-Rcounts
returns-in-Rcounts c =
    let post = c.args.post.now in
    let number = c.in-Rcounts.number in
    let sent : (fields_of post.kind).sent ≡ Rcounts number = cc in
    let times : c.of-in-Rcounts.result ≡ number_in number c.args.seat.now = cc in
    let total : c.sum-in-Rcounts.result ≡ sum post.rcounts = cc in
    rw (sent, sum-repeated, ← times, ← total) c.gives-in-Rcounts.ensures

pub returns-in-Scounts : goal.returns-in-Scounts
returns-in-Scounts c =
    let post = c.args.post.now in
    let number = c.in-Scounts.number in
    let sent : (fields_of post.kind).sent ≡ Scounts number = cc in
    let times : c.of.result ≡ number_in number c.args.seat.now = cc in
    let total : c.sum.result ≡ sum post.scounts = cc in
    rw (sent, sum-repeated, ← times, ← total) c.gives.ensures
