use Rattle.mpx_bus.specs.Buses.{table_of}
use Rattle.mpx_ranks.specs.Works.{AreWorks}
use Rattle.mpx_ranks.proofs.job.works_of.Given as goal

abbrev pub invariant-loop-port : goal.invariant-loop-port
invariant-loop-port g l = AreWorks l.program (table_of l.bus) l.ranks l.size l.yielded l.works.items
