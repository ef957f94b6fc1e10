use Rattle.std.proofs.Common.{rules}
use Rattle.mpx_num.specs.Text.{number_text}
use Rattle.mpx_meaning.proofs.Spaced.{spaced_all, spaced_first, spaced_more}
use Rattle.mpx_meaning.proofs.transcript.push_numbers.Goals as goal

pub loop-number-init : goal.loop-number-init
loop-number-init c = spaced_first number_text _ _ c.in-Some.first.now _ _ (search rules) (search rules)

pub loop-number-preserved : goal.loop-number-preserved
loop-number-preserved c = spaced_more number_text _ c.loop-number.number-index _ _ _ _ (search rules) (search rules) c.loop-number.invariant c.in_ok-push_spaced_number.ensures

pub returns : goal.returns
returns c = spaced_all number_text _ c.loop-number.number-index _ _ (search rules) c.loop-number.invariant
