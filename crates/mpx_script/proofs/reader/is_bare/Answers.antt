use Rattle.std.proofs.Common.{sym, ap, not, ◌∙◌, arith}
use Rattle.mpx_script.proofs.Progress.{bare_short, bare_long, not_not}
use Rattle.mpx_script.proofs.reader.is_bare.Goals as goal

pub returns-then-text-gt-BYTES : goal.returns-then-text-gt-BYTES
returns-then-text-gt-BYTES c = sym (bare_long c.args.text.now (omega arith))

pub returns : goal.returns
returns c = ap not c.has_counting_line.ensures ∙ not_not _ ∙ sym (bare_short c.args.text.now (omega arith))
