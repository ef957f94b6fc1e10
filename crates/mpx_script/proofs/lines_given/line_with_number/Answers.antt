use Rattle.mpx_script.proofs.Given.{at_start}
use Rattle.mpx_script.proofs.lines_given.line_with_number.Goals as goal

pub loop-rest-init : goal.loop-rest-init
loop-rest-init c = rw (c.seen_part-rest.ensures, c.saturating_sub-left.ensures) (at_start c.args.text.now c.args.number)
