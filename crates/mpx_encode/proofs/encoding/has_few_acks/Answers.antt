use Rattle.std.proofs.Common.{rules, tests}
use Rattle.std.specs.Prelude.{nat_le}
use Rattle.std.specs.FinMap.{len}
use Rattle.std.proofs.lemmas.Iterator.{YieldsList-from_slice}
use Rattle.mpx_format.specs.Encoding.{most_names}
use Rattle.mpx_board.proofs.Shown.{all_shown}
use Rattle.mpx_encode.proofs.encoding.has_few_acks.Goals as goal

pub returns : goal.returns
returns c = all_shown _ _ _ c.entries-processes.ensures.entries (λ p a. nat_le (len a) most_names) _ _ _ c.all.ensures.ran (YieldsList-from_slice c.entries-processes.result.now cc) (λ x b q k. search (rules, tests))
