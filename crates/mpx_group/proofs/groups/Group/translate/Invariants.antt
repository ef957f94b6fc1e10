use Rattle.std.proofs.Common.{◌≡◌, map, take}
use Rattle.mpx_group.specs.Translation.{translated}
use Rattle.mpx_group.proofs.groups.Group.translate.Given as goal

abbrev pub invariant-loop-rank : goal.invariant-loop-rank
invariant-loop-rank l = l.found.items ≡ map (translated l.self l.to) (take l.rank-index l.ranks)
