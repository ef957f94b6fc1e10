use Rattle.std.proofs.Common.{rules, ◌≡◌}
use Rattle.std.specs.List.{All}
use Rattle.mpx_program_rank.proofs.rank.Rank.agree.Goals as goal

pub returns-then-are_all-clause-agreed : goal.returns-then-are_all-clause-agreed
returns-then-are_all-clause-agreed g c =
    let all : All (λ n. n ≡ c.args.count) c.in-Ok.counts.items = search rules in
    (c.in-Ok.counts, c.in-Ok.ensures.gives, all)
