use Rattle.mpx_words.proofs.Commands.{has_made}
use Rattle.mpx_words.proofs.program.program.Goals as goal

pub returns : goal.returns
returns c =
    let one = has_made c.bare_program.result c.run.result c.with_command.result _ _ c.bare_program.ensures.app c.run.ensures.shape c.run.ensures.local c.with_command.ensures in
    let two = has_made c.with_command.result c.eval.result c.with_command-2.result _ _ one c.eval.ensures.shape c.eval.ensures.local c.with_command-2.ensures in
    has_made c.with_command-2.result c.check.result c.with_command-3.result _ _ two c.check.ensures.shape c.check.ensures.local c.with_command-3.ensures
