use Rattle.std.specs.Arc.{arc_value}
use Rattle.mpx_birth.proofs.Asked.{birth-spelled}
use Rattle.mpx_birth.proofs.birth.Birth.members.Goals as goal

pub returns-clause-kept : goal.returns-clause-kept
returns-clause-kept c = rw (← c.self.view_is) (birth-spelled (record { members = (arc_value c.self.inside.members).items; topology = c.self.inside.topology }) c.self.invariant)
