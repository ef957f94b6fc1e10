use Rattle.mpx_threads.specs.Rest.{HaveEnded}
use Rattle.mpx_threads.proofs.rest.have_ended.Given as goal

abbrev pub invariant-loop-p : goal.invariant-loop-p
invariant-loop-p l = HaveEnded l.p l.worked
