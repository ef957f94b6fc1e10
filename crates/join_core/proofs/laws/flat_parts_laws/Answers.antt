use Rattle.join_core.specs.laws.Flat.{flats_are_whole}
use Rattle.join_core.proofs.laws.flat_parts_laws.Goals as goal

pub returns : goal.returns
returns g c = flats_are_whole g.met.T.Exact.equality
