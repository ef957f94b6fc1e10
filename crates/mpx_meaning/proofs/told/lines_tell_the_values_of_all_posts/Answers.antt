use Rattle.mpx_meaning.proofs.Tells.{lines_tell}
use Rattle.mpx_meaning.proofs.told.lines_tell_the_values_of_all_posts.Goals as goal

pub returns : goal.returns
returns c = lines_tell
