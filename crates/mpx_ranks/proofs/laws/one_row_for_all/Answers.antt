use Rattle.std.proofs.Common.{◌≡◌, ℕ, List, Some, ap, ◌∙◌}
use Rattle.std.specs.Prelude.{slice_get}
use Rattle.mpx_name.specs.Name.{Name}
use Rattle.mpx_node.specs.declared.finished.Finished.{Finished}
use Rattle.mpx_node.specs.Nodes.{NodeView, result_on}
use Rattle.mpx_num.specs.declared.own.Operation.{Operation}
use Rattle.mpx_ranks.proofs.Values.{values_of_one_row}
use Rattle.mpx_ranks.specs.Ranks.{AreOfOneHistory, world_in}
use Rattle.mpx_ranks.proofs.laws.one_row_for_all.Goals as goal

-- a result of a node is one of its process in the world
there : (operations : List Operation) (ranks size : ℕ) (nodes : List NodeView) (one : AreOfOneHistory operations ranks size nodes) (p : ℕ) (node : NodeView) (name : Name) (call : ℕ) (finished : Finished)
    → slice_get nodes p ≡ Some node → result_on node name call ≡ Some finished → result_on ((world_in operations ranks size nodes one).each p).node name call ≡ Some finished
there operations ranks size nodes one p node name call finished e f = ap (λ n. result_on n name call) (one.each p node e) ∙ f

pub returns-clause-values : goal.returns-clause-values
returns-clause-values c operations ranks size nodes one p node name call finished e f = one.sound.results p name call finished (there operations ranks size nodes one p node name call finished e f)

pub returns-clause-one_row : goal.returns-clause-one_row
returns-clause-one_row c operations ranks size nodes one p q first second name call x y e f g h =
    (one.agree p q).results name call x y (there operations ranks size nodes one p first name call x e g) (there operations ranks size nodes one q second name call y f h)

pub returns-clause-of_values : goal.returns-clause-of_values
returns-clause-of_values c w p q name call x y v u = values_of_one_row w p q name call x y v u
