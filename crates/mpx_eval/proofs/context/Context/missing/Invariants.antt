use Rattle.std.proofs.Common.{◌≡◌, ◌++◌, drop}
use Rattle.mpx_eval.specs.Lacking.{lacking}
use Rattle.mpx_eval.proofs.context.Context.missing.Given as goal

abbrev pub invariant-loop-i : goal.invariant-loop-i
invariant-loop-i l = l.missing.items ++ lacking (drop l.i l.self.birth.members) (drop l.i l.self.posts) l.call ≡ lacking l.self.birth.members l.self.posts l.call
