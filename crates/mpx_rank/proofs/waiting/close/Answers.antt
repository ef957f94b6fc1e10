use Rattle.std.proofs.Common.{ap, ◌∙◌}
use Rattle.std.specs.Option.{option_map}
use Rattle.mpx_meaning.specs.Standing.{looked_up}
use Rattle.mpx_meaning.proofs.Standing.{closed_seen}
use Rattle.mpx_rank.proofs.waiting.close.Goals as goal

pub returns-clause-requests : goal.returns-clause-requests
returns-clause-requests g c = λ other. ap (option_map g.C.Carrier.place) (c.remove.ensures.updates.0 other) ∙ closed_seen g.C.Carrier.place (looked_up c.args.requests.now) c.args.word.now other
