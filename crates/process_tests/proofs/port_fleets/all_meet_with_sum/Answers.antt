use Rattle.std.specs.Prelude.{Some}
use Rattle.std.proofs.lemmas.List.Elements.{All-pop}
use Rattle.process_tests.specs.Homes.{IsHome}
use Rattle.process_tests.proofs.port_fleets.all_meet_with_sum.Goals as goal

pub meet_with_sum-requires-clause-others : goal.meet_with_sum-requires-clause-others
meet_with_sum-requires-clause-others g = (All-pop (IsHome g.args.bus.now g.args.ranks) _ _ (Some g.in-Some.first) g.in-Some.ensures.items g.requires).0
