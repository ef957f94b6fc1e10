-- Nobody is marked at first.
use Rattle.std.proofs.Common.{refl}
use Rattle.mpx_digest.proofs.Reaching.{no_marks}
use Rattle.mpx_digest.proofs.digest.marks_of.Goals as goal

pub loop-member-init : goal.loop-member-init
loop-member-init c = record { size = refl; marked = no_marks }
