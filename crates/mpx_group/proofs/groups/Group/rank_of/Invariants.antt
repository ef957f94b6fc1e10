use Rattle.std.proofs.Common.{◌≡◌, ◌==◌, drop}
use Rattle.std.specs.List.{position_from}
use Rattle.mpx_group.proofs.groups.Group.rank_of.Given as goal

abbrev pub invariant-loop-rank : goal.invariant-loop-rank
invariant-loop-rank l =
    position_from (λ q. q == l.process) l.rank (drop l.rank l.member-items) ≡ position_from (λ q. q == l.process) 0 l.member-items
