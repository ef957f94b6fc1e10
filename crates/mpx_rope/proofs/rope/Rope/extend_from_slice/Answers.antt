use Rattle.mpx_rope.proofs.Weaves.{grown, grown_err, grown_ok}
use Rattle.mpx_rope.proofs.rope.Rope.extend_from_slice.Goals as goal

pub invariant_of-self : goal.invariant_of-self
invariant_of-self c = grown c.self.inside.shared.items c.self.inside.carried c.append.result c.self.inside.own.items c.append.new.own.items c.args.bytes.now c.append.ensures.ok c.append.ensures.err c.self.invariant

pub returns : goal.returns
returns c = record {
  ok = grown_ok c.self.inside.shared.items c.self.inside.carried c.append.result c.self.inside.own.items c.append.new.own.items c.args.bytes.now _ c.append.ensures.ok c.self.invariant c.self.view_is;
  err = grown_err c.self.inside.shared.items c.self.inside.carried c.append.result c.self.inside.own.items c.append.new.own.items _ c.append.ensures.err c.self.view_is;
}
