use Rattle.mpx_group.proofs.Members.{IsGroup-filter}
use Rattle.mpx_group.proofs.groups.Group.difference.Goals as goal

pub invariant_of-result : goal.invariant_of-result
invariant_of-result c = rw (c.in_ok-members.ensures, c.deref.ensures.value) (IsGroup-filter _ _ c.self.invariant)
