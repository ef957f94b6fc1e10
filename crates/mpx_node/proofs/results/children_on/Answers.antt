use Rattle.std.proofs.Common.{sym, ◌∙◌}
use Rattle.mpx_node.proofs.Calls.{members_of_row}
use Rattle.mpx_node.proofs.results.children_on.Goals as goal

pub children-requires-clause-members : goal.children-requires-clause-members
children-requires-clause-members g c = members_of_row _ _ c.in-Some.birth.now c.in-Some-2.row c.in-Some.ensures (sym c.in-Some-2.is ∙ c.in_ok-row.ensures.row)

pub returns-then-makes_none_on : goal.returns-then-makes_none_on
returns-then-makes_none_on g c = c.new-then-makes_none_on.ensures.items ∙ sym (c.makes_none_on.ensures c.if-makes_none_on.true _ (sym c.in-Some.ensures))
