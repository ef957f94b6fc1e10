use Rattle.std.proofs.Common.{sym}
use Rattle.join_nest.proofs.Places.{find_at, holds}
use Rattle.join_nest.proofs.ends.lookup_from_ends.Goals as goal

pub returns-in-Some : goal.returns-in-Some
returns-in-Some g c = let there = c.in-Some.ensures in sym (find_at g.met.K.Ord.total c.args.key.now c.args.entries.now c.in-Some.at c.index-entries-at.result (holds _ c.requires) there.in_range (there.has_key _))
