-- What the calls that make no turn do to a node, but for posts.
use Rattle.std.specs.Prelude.{◌≡◌, ℕ, List, is_some, Result}
use Rattle.join_core.specs.declared.memory.OutOfMemory.{OutOfMemory}
use Rattle.mpx_name.specs.Name.{Name}
use Rattle.mpx_num.specs.declared.own.Operation.{Operation}
use Rattle.mpx_node.specs.declared.node.Harvest.{Harvest}
use Rattle.mpx_node.specs.Harvests.{Harvests}
use Rattle.mpx_node.specs.Nodes.{NodeView, next_result}
use Rattle.mpx_request.specs.Later.{Later, IsPending}

-- a harvest of the next call on a context, with these operations of the job's own
abbrev pub HarvestsNext : List Operation → Name → Result Harvest OutOfMemory → (old new : NodeView) → Type 0
HarvestsNext ops name answer old new = Harvests ops (is_some (old.opened name)) name (next_result ops old name) answer old new

-- harvests, one after the other, of any contexts
pub data Harvested (ops : List Operation) : NodeView → NodeView → Type 0 where
  stay : (a b : NodeView) → b ≡ a → Harvested ops a b
  on : (a b c : NodeView) (name : Name) (answer : Result Harvest OutOfMemory) → HarvestsNext ops name answer a b → Harvested ops b c → Harvested ops a c

-- by harvests alone the one came to the other
pub record ComesByHarvests (ops : List Operation) (old new : NodeView) : Type 0 where
  pub later : Later old new
  pub harvests : Harvested ops old new

-- at some moment between the two, on the way of the harvests, the call was not done
pub record WasPending (ops : List Operation) (old new : NodeView) (name : Name) (call : ℕ) : Type 0 where
  pub moment : NodeView
  pub after : ComesByHarvests ops old moment
  pub before : ComesByHarvests ops moment new
  pub pending : IsPending moment name call
