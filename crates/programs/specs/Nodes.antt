-- Two nodes of one's own.
use Rattle.std.specs.Prelude.{◌≡◌, ℕ, List, [], ◌∷◌, set, slice_get, Some, is_some, IsTrue}
use Rattle.mpx_num.specs.declared.own.Operation.{Operation}
use Rattle.mpx_node.specs.declared.node.Node.{Node}
use Rattle.mpx_node.specs.Nodes.{NodeView, result_on}
use Rattle.mpx_node.specs.Shown.{node_of}
use Rattle.mpx_world.specs.Worlds.{Happening}
use Rattle.mpx_world.specs.Networks.{EachAgrees, NetworkGoesOn, IsNetwork, Network, world_in}

abbrev pub two : Node → Node → List NodeView
two left right = node_of left ∷ node_of right ∷ []

-- two ranks, which are all processes, after what has happened by these operations of the job's own; of the parts that were sent none is wanted any more
abbrev pub network_with : List Operation → List Happening → Node → Node → Network
network_with ops hs left right = record { ranks = 2; size = 2; operations = ops; happenings = hs; nodes = two left right; parts = [] }

-- where the two are a network, they are it later too
abbrev pub StayOne : List Operation → (left right new_left new_right : Node) → Type 0
StayOne ops left right new_left new_right = (hs : List Happening) → IsNetwork (network_with ops hs left right) → NetworkGoesOn (network_with ops hs left right) (two new_left new_right) []

-- one node's board comes to another: each network that has both goes on by it
abbrev pub Carries : (from old new : NodeView) → Type 0
Carries from old new = (n : Network) → IsNetwork n → (p q : ℕ) → slice_get n.nodes p ≡ Some from → slice_get n.nodes q ≡ Some old → NetworkGoesOn n (set n.nodes q new) n.parts

-- the node has the result of the first call on the world
abbrev pub HasSum : Node → Type 0
HasSum node = IsTrue (is_some (result_on (node_of node) [] 0))

-- the two are a network after some list of what can happen, and they agree: what both have finished of one call is of one row
pub record AreOne (ops : List Operation) (left right : Node) : Type 0 where
  pub happenings : List Happening
  pub network : IsNetwork (network_with ops happenings left right)
  pub agree : EachAgrees (world_in (network_with ops happenings left right)) (two left right) (two left right)
