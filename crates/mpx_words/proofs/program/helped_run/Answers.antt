use Rattle.std.proofs.Common.{refl}
use Rattle.mpx_words.proofs.Commands.{same_globals, same_shape}
use Rattle.mpx_words.proofs.program.helped_run.Goals as goal

pub returns-in-Ok : goal.returns-in-Ok
returns-in-Ok c = record {
  shape = same_shape _ _ _ _ c.after_help.ensures refl c.in-Ok.ensures.shape;
  local = same_globals _ _ _ c.after_help.ensures refl c.in-Ok.ensures.local;
}
