use Rattle.std.proofs.Common.{refl}
use Rattle.mpx_rank.specs.Moves.{has_ended}
use Rattle.mpx_rank.proofs.Moving.{no_items}
use Rattle.mpx_rank.proofs.interpreter.Interpreter.do_next.Goals as goal

pub returns-in_default-clause-moves : goal.returns-in_default-clause-moves
returns-in_default-clause-moves g c = (refl, has_ended c.requires.waits (no_items c.args.self.now.todo.now c.in_default.ensures.cases))
