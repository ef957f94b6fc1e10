use Rattle.mpx_program.proofs.Ending.{if_ok}
use Rattle.mpx_program.proofs.process.seen_by.Goals as goal

pub returns-in-Ok-clause-trace : goal.returns-in-Ok-clause-trace
returns-in-Ok-clause-trace g c = if_ok c.args.asked.now c.in-Ok.call _ c.in-Ok.is c.of.ensures.trace

pub returns-in-Ok-clause-table : goal.returns-in-Ok-clause-table
returns-in-Ok-clause-table g c = if_ok c.args.asked.now c.in-Ok.call _ c.in-Ok.is c.of.ensures.table
