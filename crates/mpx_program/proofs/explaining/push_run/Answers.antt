use Rattle.std.proofs.Common.{refl}
use Rattle.mpx_program.proofs.Telling.{told_of_run}
use Rattle.mpx_program.proofs.explaining.push_run.Goals as goal

pub returns : goal.returns
returns c = told_of_run _ c.args.script.now c.args.text.now c.args.told.now.items c.explain_run.new.told.items c.explain_run.result c.explain_run.ensures refl
