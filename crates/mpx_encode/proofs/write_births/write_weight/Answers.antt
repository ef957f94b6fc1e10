use Rattle.std.proofs.Common.{sym}
use Rattle.std.proofs.lemmas.List.{append-nil}
use Rattle.mpx_format.specs.Births.{weight}
use Rattle.mpx_encode.proofs.Births.{weightless}
use Rattle.mpx_encode.proofs.write_births.write_weight.Goals as goal

pub returns-then-weighted : goal.returns-then-weighted
unfolding weight
returns-then-weighted c = rw c.if-weighted.true c.write_u32.ensures

pub returns-else-weighted : goal.returns-else-weighted
returns-else-weighted c = rw (c.if-weighted.false, weightless c.args.weight) (sym (append-nil c.args.out.now))
