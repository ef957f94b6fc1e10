use Rattle.std.proofs.Common.{subst, sym}
use Rattle.mpx_bus.specs.Buses.{table_of}
use Rattle.mpx_bus.specs.declared.act.Setup.{Setup}
use Rattle.mpx_ranks.specs.Ranks.{AreQuitters}
use Rattle.mpx_ranks.proofs.Jobs.{has_worked}
use Rattle.mpx_ranks.proofs.work.carry_out.Goals as goal

pub work_as_rank-requires-clause-quitters : goal.work_as_rank-requires-clause-quitters
work_as_rank-requires-clause-quitters g c = subst (λ (s : Setup). AreQuitters (g.P.Program.gives c.args.work.program.now) (g.P.Program.has_given_up c.args.work.program.now) s g.K.Job.gave_up) (sym c.requires.port.setup_is) c.requires.quitters

pub returns-then-me-ranks : goal.returns-then-me-ranks
returns-then-me-ranks g c = has_worked (g.P.Program.gives c.args.work.program.now) _ c.args.work.ranks c.args.work.size c.args.work.me (table_of c.args.work.bus.now) c.args.work.port c.work_as_rank.result.port c.work_as_rank.result.answer c.requires.port c.work_as_rank.ensures.sits c.work_as_rank.ensures.gave

pub returns : goal.returns
returns g c = has_worked (g.P.Program.gives c.args.work.program.now) _ c.args.work.ranks c.args.work.size c.args.work.me (table_of c.args.work.bus.now) c.args.work.port c.work_as_relay-port.result _ c.requires.port c.work_as_relay-port.ensures tt
