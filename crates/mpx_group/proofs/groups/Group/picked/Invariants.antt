use Rattle.std.proofs.Common.{◌≡◌, map, take, slice_index}
use Rattle.mpx_group.proofs.groups.Group.picked.Given as goal

abbrev pub invariant-loop-rank : goal.invariant-loop-rank
invariant-loop-rank l = l.members.items ≡ map (λ r. slice_index l.self-inside.members.items r) (take l.rank-index l.rank-items)
