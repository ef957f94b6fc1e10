use Rattle.mpx_threads.specs.Rest.{HaveEndedOrLack}
use Rattle.mpx_threads.proofs.rest.have_ended_or_lack.Given as goal

abbrev pub invariant-loop-p : goal.invariant-loop-p
invariant-loop-p l = HaveEndedOrLack l.p l.worked
