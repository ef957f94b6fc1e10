-- The code tests each value.
use Rattle.std.proofs.Common.{rules, tests}
use Rattle.std.proofs.lemmas.Iterator.{YieldsList-from_slice}
use Rattle.mpx_board.proofs.Shown.{all_seen}
use Rattle.mpx_board.proofs.nested.all_tidy.Goals as goal

pub returns : goal.returns
returns g c = all_seen g.J.Tidy.shown _ g.J.Tidy.tidy _ _ _ c.all.ensures.ran (YieldsList-from_slice c.args.entries.now cc) (λ x b q k. search (rules, tests))
