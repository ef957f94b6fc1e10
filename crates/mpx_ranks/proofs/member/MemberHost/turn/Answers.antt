use Rattle.std.proofs.Common.{◌≡◌, rules}
use Rattle.mpx_ranks.proofs.More.{goes_still}
use Rattle.mpx_ranks.proofs.member.MemberHost.turn.Goals as goal

pub returns-in-Some-clause-refused : goal.returns-in-Some-clause-refused
returns-in-Some-clause-refused g c =
    let same : c.if-is_none.self.port ≡ c.args.self.now.port = search rules in
    (goes_still c.args.self.now.port c.if-is_none.self.port same, search rules)
