use Rattle.std.proofs.Common.{ap, map, string_bytes, ◌∙◌}
use Rattle.mpx_program.proofs.Ending.{ask_for, if_ok}
use Rattle.mpx_program.proofs.process.invocation_of.Goals as goal

pub returns-in_ok-words-in-Ok-clause-asks : goal.returns-in_ok-words-in-Ok-clause-asks
returns-in_ok-words-in-Ok-clause-asks c =
    if_ok c.args.args c.in-Ok.args _ c.in-Ok.is
    (ask_for _ _ c.call_of.result (ap (map string_bytes) (c.deref.ensures.value ∙ c.in_ok-words-in-Ok.ensures)) c.call_of.ensures.ok c.call_of.ensures.err c.call_of.ensures.kind)
