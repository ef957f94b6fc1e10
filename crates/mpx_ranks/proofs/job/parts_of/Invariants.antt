use Rattle.std.proofs.Common.{◌≡◌, map}
use Rattle.mpx_ranks.specs.Works.{answer_of, port_of}
use Rattle.mpx_ranks.proofs.job.parts_of.Given as goal

abbrev pub invariant-loop-one : goal.invariant-loop-one
invariant-loop-one g l = record {
  answers : l.answers.items ≡ map answer_of l.yielded;
  ports : l.ports.items ≡ map port_of l.yielded;
}
