use Rattle.std.proofs.Common.{sym, arith}
use Rattle.std.proofs.lemmas.List.{take_all}
use Rattle.mpx_explain.proofs.blame.seen_part.Goals as goal

pub returns-else-text-gt-BYTES : goal.returns-else-text-gt-BYTES
returns-else-text-gt-BYTES c = sym (take_all 1048577 c.args.text.now (omega arith))
