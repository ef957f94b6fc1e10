use Rattle.std.proofs.Common.{◌∙◌, sym}
use Rattle.process_tests.proofs.NewHomes.{home_at}
use Rattle.process_tests.proofs.port_fleets.meet_with_sum.Goals as goal

pub meet_all-requires-clause-tables : goal.meet_all-requires-clause-tables
meet_all-requires-clause-tables g i b there = (home_at g.args.bus.now g.args.ranks g.args.others.items g.requires.others i b there).table

pub meet_all-requires-clause-setups : goal.meet_all-requires-clause-setups
meet_all-requires-clause-setups g i b there = (home_at g.args.bus.now g.args.ranks g.args.others.items g.requires.others i b there).setup_is ∙ sym g.requires.first.setup_is
