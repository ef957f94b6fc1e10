use Rattle.mpx_bus.specs.declared.act.Act.TheVariants as A
use Rattle.mpx_ranks.proofs.More.{does_one}
use Rattle.mpx_ranks.proofs.member.MemberHost.forget.Goals as goal

pub returns-clause-no_turn : goal.returns-clause-no_turn
returns-clause-no_turn g c = (c.forget.ensures.port.same, does_one c.args.self.now.port c.forget.new.self (A.Forgot c.args.name.now c.args.below) c.forget.ensures.journal)
