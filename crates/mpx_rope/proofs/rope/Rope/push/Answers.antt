use Rattle.std.proofs.Common.{[], ◌∷◌}
use Rattle.mpx_rope.proofs.Weaves.{grown, grown_err, grown_ok}
use Rattle.mpx_rope.proofs.rope.Rope.push.Goals as goal

pub invariant_of-self : goal.invariant_of-self
invariant_of-self c = grown c.self.inside.shared.items c.self.inside.carried c.push_byte.result c.self.inside.own.items c.push_byte.new.own.items (c.args.byte ∷ []) c.push_byte.ensures.ok c.push_byte.ensures.err c.self.invariant

pub returns : goal.returns
returns c = record {
  ok = grown_ok c.self.inside.shared.items c.self.inside.carried c.push_byte.result c.self.inside.own.items c.push_byte.new.own.items (c.args.byte ∷ []) _ c.push_byte.ensures.ok c.self.invariant c.self.view_is;
  err = grown_err c.self.inside.shared.items c.self.inside.carried c.push_byte.result c.self.inside.own.items c.push_byte.new.own.items _ c.push_byte.ensures.err c.self.view_is;
}
