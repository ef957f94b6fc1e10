use Rattle.mpx_bus.specs.declared.act.Act.TheVariants as A
use Rattle.mpx_ranks.proofs.More.{does_or_not}
use Rattle.mpx_ranks.proofs.member.MemberHost.open_gathering.Goals as goal

pub returns-clause-no_turn : goal.returns-clause-no_turn
returns-clause-no_turn g c = (
  c.open_gathering.ensures.port.same,
  does_or_not c.open_gathering.result c.args.self.now.port c.open_gathering.new.self (A.Gathered c.args.parent.now _ c.args.ranks.now) c.open_gathering.ensures.ok c.open_gathering.ensures.err,
)
