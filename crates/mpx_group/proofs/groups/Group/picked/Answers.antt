use Rattle.std.proofs.Common.{◌<◌, All, length}
use Rattle.std.proofs.lemmas.List.{take_all}
use Rattle.mpx_group.proofs.Members.{IsGroup-map}
use Rattle.mpx_group.proofs.groups.Group.picked.Goals as goal

pub invariant_of-result : goal.invariant_of-result
invariant_of-result c =
    let within : All (λ r. r < length c.self.inside.members.items) c.ranks-rank-items.result.now = rw (c.ranks-rank-items.ensures.ranks, c.self.view_is) c.requires in
    rw (c.loop-rank.invariant, take_all c.loop-rank.rank-index c.ranks-rank-items.result.now c.loop-rank-test.false)
    (IsGroup-map _ _ c.self.invariant within c.ranks-rank-items.ensures.once)
