use Rattle.std.proofs.Common.{◌≡◌, ◌∙◌, List, Some, ap, subst, sym, ℕ}
use Rattle.std.specs.Option.{option_copied}
use Rattle.std.proofs.lemmas.Option.{same_Some}
use Rattle.mpx_birth.specs.Births.{BirthView}
use Rattle.mpx_board.specs.Boards.{Look, told}
use Rattle.mpx_name.specs.Name.{Name}
use Rattle.mpx_meaning.specs.Ends.{asked_view}
use Rattle.mpx_node.specs.Nodes.{NodeView}
use Rattle.mpx_node.specs.Shown.{node_of}
use Rattle.mpx_threads.specs.Rest.{Lacks, OneLacks}
use Rattle.mpx_threads.proofs.rest.lacks.Goals as goal

lacks_one : (node : NodeView) (call : Name × ℕ) (birth : BirthView) → told (node.board.contexts call.0).birth ≡ Some birth → Lacks node call → OneLacks node.board call.0 call.1 birth.members
lacks_one node call birth born l = subst (λ (b : BirthView). OneLacks node.board call.0 call.1 b.members) (same_Some l.birth birth (sym l.born ∙ born)) l.one

pub returns-clause-no : goal.returns-clause-no
returns-clause-no c t l =
    let node = node_of c.args.node.now in
    let call : Name × ℕ = (asked_view c.args.asked.now).1 in
    let birth = c.in-Some.birth.now in
    let born : told (node.board.contexts call.0).birth ≡ Some birth = sym (ap (λ (b : Look). told (b.contexts call.0).birth) c.board.ensures) ∙ sym c.birth.ensures ∙ ap option_copied c.in-Some.is in
    c.one_lacks.ensures.no t (subst (λ (x : Look × List ℕ). OneLacks x.0 call.0 call.1 x.1) (λ i. (sym c.board-2.ensures i, sym c.members.ensures.value i)) (lacks_one node call birth born l))
