use Rattle.mpx_meaning.proofs.Checked.{checked_fits}
use Rattle.mpx_meaning.proofs.fitting.checked_posts_fit.Goals as goal

pub returns : goal.returns
returns c = checked_fits
