use Rattle.std.proofs.Common.{subst}
use Rattle.std.specs.Prelude.{IfSome}
use Rattle.mpx_request.specs.declared.request.Request.{Request}
use Rattle.mpx_node.specs.declared.finished.Finished.{Finished}
use Rattle.process_tests.proofs.had.sum_of.Goals as goal

-- the request is of the next call on the communicator
pub returns-in-Ok-clause-had : goal.returns-in-Ok-clause-had
returns-in-Ok-clause-had g c =
    subst (λ (r : Request). IfSome c.waited.result (λ (f : Finished). g.H.Host.has_had c.waited.new.desk.host r.name r.call f)) c.in-Ok.ensures.asks.0 c.waited.ensures.had

pub returns-in-Ok-clause-stays : goal.returns-in-Ok-clause-stays
returns-in-Ok-clause-stays g c name call finished had =
    c.waited.ensures.stays name call finished (g.met.H.Host.had_later c.args.desk.now.host c.iallreduce.new.self.host 0 name call finished c.iallreduce.ensures.no_turn had)

pub returns-in-Err-clause-stays : goal.returns-in-Err-clause-stays
returns-in-Err-clause-stays g c name call finished had = g.met.H.Host.had_later c.args.desk.now.host c.iallreduce.new.self.host 0 name call finished c.iallreduce.ensures.no_turn had
