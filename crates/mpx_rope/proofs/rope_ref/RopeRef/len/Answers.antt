use Rattle.std.proofs.Common.{length, ap, sym, ◌∙◌}
use Rattle.mpx_rope.proofs.Weaves.{rope_length}
use Rattle.mpx_rope.proofs.rope_ref.RopeRef.len.Goals as goal

pub returns : goal.returns
returns c = sym (ap length (sym c.self.view_is) ∙ rope_length c.self.inside.own.now c.self.inside.shared.now c.self.inside.carried c.self.invariant)
