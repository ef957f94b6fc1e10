use Rattle.mpx_group.proofs.Members.{IsGroup-union}
use Rattle.mpx_group.proofs.groups.Group.union.Goals as goal

pub invariant_of-result : goal.invariant_of-result
invariant_of-result c =
    rw (c.in_ok-extend_from_slice.ensures.items, c.in_ok-members.ensures.items, c.deref.ensures.value, c.deref-4.ensures.value, c.in_ok-lacking.ensures, c.deref-2.ensures.value, c.deref-3.ensures.value)
    (IsGroup-union _ _ c.self.invariant c.other.invariant)
