use Rattle.std.proofs.Common.{◌≤◌, length, arith, subst}
use Rattle.mpx_rope.proofs.Weaves.{rope_many}
use Rattle.mpx_rope.proofs.rope_ref.RopeRef.in_one_place.Goals as goal

pub returns-else-self-eq0-clause-none : goal.returns-else-self-eq0-clause-none
returns-else-self-eq0-clause-none c =
    subst (λ bytes. 64 ≤ length bytes) c.self.view_is (rope_many c.self.inside.own.now c.self.inside.shared.now c.self.inside.carried c.self.invariant (omega (arith, c.if-self-eq0.false)))
