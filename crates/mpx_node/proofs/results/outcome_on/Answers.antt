use Rattle.std.proofs.Common.{sym, ◌∙◌, arith}
use Rattle.mpx_group.proofs.Members.{rank_in-below}
use Rattle.mpx_node.proofs.Calls.{members_of_row}
use Rattle.mpx_node.proofs.results.outcome_on.Goals as goal

pub outcome-requires-clause-members : goal.outcome-requires-clause-members
outcome-requires-clause-members g c = members_of_row _ _ c.in-Some.birth.now c.in-Some-2.row c.in-Some.ensures (sym c.in-Some-2.is ∙ c.in_ok-row.ensures.row)

pub outcome-requires-clause-rank : goal.outcome-requires-clause-rank
outcome-requires-clause-rank g c =
    omega (arith, members_of_row _ _ c.in-Some.birth.now c.in-Some-2.row c.in-Some.ensures (sym c.in-Some-2.is ∙ c.in_ok-row.ensures.row), rank_in-below c.args.me c.in-Some.birth.now.members c.in-Some-rank_of.rank (sym c.rank_of.ensures ∙ c.in-Some-rank_of.is))
