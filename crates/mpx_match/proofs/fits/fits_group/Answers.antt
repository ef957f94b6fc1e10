use Rattle.std.proofs.Common.{refl}
use Rattle.mpx_match.proofs.fits.fits_group.Goals as goal

pub returns : goal.returns
returns c = let distinct = rw c.group.ensures.value at c.group.ensures.ranks.distinct in rw (c.are_below.ensures, c.group.ensures.value, distinct) refl
