use Rattle.join_core.specs.laws.Max.{numbers_are_whole}
use Rattle.join_core.proofs.laws.max_parts_laws.Goals as goal

pub returns : goal.returns
returns c = numbers_are_whole
