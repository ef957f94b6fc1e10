use Rattle.std.proofs.Common.{◌≡◌, length, ap, ◌∙◌, arith}
use Rattle.mpx_group.specs.Group.{has_twice}
use Rattle.mpx_post.proofs.Gatherings.{some_is_more}
use Rattle.mpx_post.proofs.gathering.Gathering.birth.Goals as goal

pub of_members-requires-clause-some : goal.of_members-requires-clause-some
of_members-requires-clause-some c =
    let some = some_is_more c.self.inside.members c.self.invariant.1 in
    let is : length c.in_ok-members.members.items ≡ length c.self.inside.members = ap length (c.in_ok-members.ensures.items ∙ c.members.ensures) in
    omega (arith, some, is)

pub of_members-requires-clause-few : goal.of_members-requires-clause-few
of_members-requires-clause-few c =
    let few = c.self.invariant.2 in
    let is : length c.in_ok-members.members.items ≡ length c.self.inside.members = ap length (c.in_ok-members.ensures.items ∙ c.members.ensures) in
    omega (arith, few, is)

pub of_members-requires-clause-distinct : goal.of_members-requires-clause-distinct
of_members-requires-clause-distinct c = ap has_twice (c.in_ok-members.ensures.items ∙ c.members.ensures) ∙ c.size-size.ensures.group.distinct
