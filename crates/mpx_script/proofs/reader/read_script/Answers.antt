use Rattle.std.proofs.Common.{sym, ◌∙◌}
use Rattle.mpx_script.proofs.Progress.{bare_answer}
use Rattle.mpx_script.proofs.reader.read_script.Goals as goal

pub returns-then-is_bare : goal.returns-then-is_bare
returns-then-is_bare g c = bare_answer _ c.args.text.now c.bare_fault-what.result (sym c.is_bare.ensures ∙ c.if-is_bare.true) c.bare_fault-what.ensures
