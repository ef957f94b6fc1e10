use Rattle.mpx_parts.proofs.Numbers.{put}
use Rattle.mpx_parts.proofs.laws.numbers_of_parts_are_put_together.Goals as goal

pub returns : goal.returns
returns g c each blocks lists are all = put each g.T.Item.numbers are blocks lists all
