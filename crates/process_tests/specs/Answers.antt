-- Answers that speak of results that ranks have had.
use Rattle.std.specs.Prelude.{◌≡◌, ℕ, List, [], Option, Some, IfSome, slice_get}
use Rattle.mpx_comm.specs.declared.comm.Comm.{Comm}
use Rattle.mpx_name.specs.Name.{Name}
use Rattle.mpx_node.specs.declared.finished.Finished.{Finished}
use Rattle.mpx_node.specs.Nodes.{NodeView, posted_on}
use Rattle.mpx_ranks.specs.Ranks.{AreOfOneHistory, world_in}
use Rattle.mpx_world.specs.Soundness.{IsValue}

-- where there is an answer, the rank has had it as its next call on the communicator
abbrev pub HadNext : Comm → NodeView → (had : Name → ℕ → Finished → Type 0) → Option Finished → Type 0
HadNext world before had answer = IfSome answer (λ finished. had world.name (posted_on before world.name) finished)

-- these nodes are of one history of so many ranks alone, and each answer is the standard's value of the ranks' first call there
pub record AreValues (ranks : ℕ) (answers : List (Option Finished)) (nodes : List NodeView) : Type 0 where
  pub one : AreOfOneHistory [] ranks ranks nodes
  pub each : (rank : ℕ) (finished : Finished) → slice_get answers rank ≡ Some (Some finished) → IsValue (world_in [] ranks ranks nodes one) rank [] 0 finished
