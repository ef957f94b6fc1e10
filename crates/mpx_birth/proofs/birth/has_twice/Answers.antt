use Rattle.std.proofs.Common.{◌≡◌, true, false, take, sym}
use Rattle.mpx_group.specs.Group.{has}
use Rattle.mpx_group.proofs.Members.{has_twice-found, has_twice-more}
use Rattle.mpx_birth.proofs.birth.has_twice.Goals as goal

pub returns-then-contains : goal.returns-then-contains
returns-then-contains c =
    let before : has (take c.loop-i.i c.args.members.now) c.index-members-i.result ≡ true = cc (c.contains.ensures.value) in
    sym (has_twice-found _ _ _ c.loop-i-test.true c.index-members-i.is before)

pub loop-i-preserved : goal.loop-i-preserved
loop-i-preserved c =
    let fresh : has (take c.loop-i.i c.args.members.now) c.index-members-i.result ≡ false = cc (c.contains.ensures.value) in
    has_twice-more _ _ _ c.loop-i-test.true c.index-members-i.is c.loop-i.invariant fresh
