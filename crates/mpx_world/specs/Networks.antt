-- Networks: nodes of one's own, and the parts of boards that go between them by one's own means.
use Rattle.std.specs.Prelude.{◌≡◌, ℕ, List, [], ◌++◌, set, slice_get, Some, Result, OnOk, OnErr}
use Rattle.mpx_name.specs.Name.{Name}
use Rattle.mpx_num.specs.declared.own.Operation.{Operation}
use Rattle.mpx_board.specs.declared.errors.PruneError.{PruneError}
use Rattle.mpx_board.specs.Boards.{Look, IsGone, gone}
use Rattle.mpx_board.specs.Changes.{pruned_on}
use Rattle.mpx_node.specs.declared.finished.Finished.{Finished}
use Rattle.mpx_node.specs.Nodes.{NodeView, learn_some, prune_part, start_node, result_on}
use Rattle.mpx_world.specs.Worlds.{WorldView, Happening, MayGoOn, start, world_by}
use Rattle.mpx_world.specs.Forgetting.{IsHeldOrGone}
use Rattle.mpx_world.specs.Soundness.{BoardsAgree, OfOneRow}

-- so many processes, of which the first are the ranks, the operations of the job's own, what has happened, nodes, each at the place of its number, and parts of boards
pub record Network : Type 0 where
  pub ranks : ℕ
  pub size : ℕ
  pub operations : List Operation
  pub happenings : List Happening
  pub nodes : List NodeView
  pub parts : List Look

-- the world that this leads to from the start
abbrev pub world_in : Network → WorldView
world_in n = world_by n.operations n.ranks n.size n.happenings

-- each of these boards is one of those
abbrev pub AreAmong : (these those : List Look) → Type 0
AreAmong these those = (i : ℕ) (part : Look) → slice_get these i ≡ Some part → (place : ℕ) × (slice_get those place ≡ Some part)

-- the nodes are those of the processes of one world to which what can happen leads, and the parts were sent in it
pub record IsNetwork (n : Network) : Type 0 where
  pub may : MayGoOn (start n.operations n.ranks n.size) n.happenings
  pub each : (p : ℕ) (node : NodeView) → slice_get n.nodes p ≡ Some node → node ≡ ((world_in n).each p).node
  pub sent : AreAmong n.parts (world_in n).parts

-- at the start, where nothing has happened and nothing was sent
abbrev pub new_network : List Operation → (ranks size : ℕ) → List NodeView → Network
new_network ops ranks size nodes = record { ranks = ranks; size = size; operations = ops; happenings = []; nodes = nodes; parts = [] }

-- each of these nodes is the process of its number before any post
abbrev pub AreNew : (ranks size : ℕ) → List NodeView → Type 0
AreNew ranks size nodes = (p : ℕ) (node : NodeView) → slice_get nodes p ≡ Some node → node ≡ start_node p ranks size

-- GOING ON

-- later, with these nodes and parts
abbrev pub later_network : Network → (later : List Happening) → List NodeView → List Look → Network
later_network n later nodes parts = record n { happenings = n.happenings ++ later; nodes = nodes; parts = parts }

-- more has happened in a network, and now its nodes are these, and these parts were sent
pub record NetworkGoesOn (n : Network) (nodes : List NodeView) (parts : List Look) : Type 0 where
  pub later : List Happening
  pub network : IsNetwork (later_network n later nodes parts)

-- that network
abbrev pub network_of : {n : Network} {nodes : List NodeView} {parts : List Look} → NetworkGoesOn n nodes parts → Network
network_of {n} {nodes} {parts} on = later_network n on.later nodes parts

-- a step of one node, with these operations: each network with them that has the node goes on by it
abbrev pub IsNodeStep : List Operation → (old new : NodeView) → Type 0
IsNodeStep ops old new = (n : Network) → IsNetwork n → n.operations ≡ ops → (p : ℕ) → slice_get n.nodes p ≡ Some old → NetworkGoesOn n (set n.nodes p new) n.parts

-- what a pruning leaves: just these calls are dropped, where they may be, or the context is dead
abbrev pub HasPruned : Name → ℕ → Result (Unit {0}) PruneError → (old new : NodeView) → Type 0
HasPruned name m result old new = (result ≡ pruned_on old.board name m) × OnOk result (new ≡ learn_some (prune_part old name m) old) × OnErr result (new ≡ old)

-- a step by which it takes a part: so does each network in which the part was sent
abbrev pub IsTake : (part : Look) → (old new : NodeView) → Type 0
IsTake part old new = (n : Network) → IsNetwork n → (p : ℕ) → slice_get n.nodes p ≡ Some old → (place : ℕ) → slice_get n.parts place ≡ Some part
    → NetworkGoesOn n (set n.nodes p new) n.parts

-- parts that a node gives: each network that has the node goes on by it, and in it they were sent
abbrev pub NodeGives : NodeView → (given : List Look) → Type 0
NodeGives node given = (n : Network) → IsNetwork n → (p : ℕ) → slice_get n.nodes p ≡ Some node → NetworkGoesOn n n.nodes (given ++ n.parts)

-- AGREEMENT

-- two nodes agree: their boards tell equal births, posts and rows, and their results of one call are what one row gives the two
pub record NodesAgree (w : WorldView) (p q : ℕ) (a b : NodeView) : Type 0 where
  pub boards : BoardsAgree a.board b.board
  pub results : (name : Name) (k : ℕ) (r s : Finished) → result_on a name k ≡ Some r → result_on b name k ≡ Some s → OfOneRow w p q name k r s

-- each of these agrees with each of those
abbrev pub EachAgrees : WorldView → (these those : List NodeView) → Type 0
EachAgrees w these those = (p q : ℕ) (a b : NodeView) → slice_get these p ≡ Some a → slice_get those q ≡ Some b → NodesAgree w p q a b

-- what these nodes have finished, they have finished later too, with equal results, or have let go
abbrev pub AreKept : (nodes later : List NodeView) → Type 0
AreKept nodes later = (p : ℕ) (a b : NodeView) → slice_get nodes p ≡ Some a → slice_get later p ≡ Some b
    → (name : Name) (k : ℕ) (r : Finished) → result_on a name k ≡ Some r → IsHeldOrGone b name k r

-- a context that is dead on the board of one of these nodes is dead there later too, and nothing else is known of it there
abbrev pub DeadStaysOn : (nodes later : List NodeView) → Type 0
DeadStaysOn nodes later = (p : ℕ) (a b : NodeView) → slice_get nodes p ≡ Some a → slice_get later p ≡ Some b
    → (name : Name) → IsGone a.board name → b.board.contexts name ≡ gone
