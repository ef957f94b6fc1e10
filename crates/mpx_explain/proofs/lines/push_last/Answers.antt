use Rattle.mpx_explain.proofs.RefusedTexts.{nothing_told}
use Rattle.mpx_explain.proofs.lines.push_last.Goals as goal

pub returns-then-nth-gt0-clause-told : goal.returns-then-nth-gt0-clause-told
returns-then-nth-gt0-clause-told g c = nothing_told c.args.refusal c.args.told.now.items
