-- What a process has harvested and dropped of a context once it has settled there.
use Rattle.std.specs.Prelude.{◌≡◌, ◌≤◌, ◌⊎◌, ℕ, Bool, true, false, List, Option, Some, None, is_some}
use Rattle.mpx_name.specs.Name.{Name}
use Rattle.mpx_num.specs.declared.own.Operation.{Operation}
use Rattle.mpx_board.specs.Boards.{IsGone, floor_on}
use Rattle.mpx_node.specs.Harvests.{harvested}
use Rattle.mpx_node.specs.Nodes.{NodeView, has_next, is_past_free, learn_some, prune_part, results_on}

-- DROPPED POSTS

-- the posts of how many calls of the context the process has dropped
abbrev pub dropped_on : NodeView → Name → ℕ
dropped_on node name = (node.board.contexts name).dropped

-- the calls below the number are past a free whose row is fine and whose result the process has
abbrev pub is_past : NodeView → Name → (number : ℕ) → Bool
is_past node name number = is_past_free (results_on node name) number

-- the process has dropped all that every member of the context has harvested, as its board tells it, and no free of all is among it
abbrev pub HasDropped : Name → NodeView → Type 0
HasDropped name node = (floor : ℕ) → floor_on node.board name ≡ Some floor → (floor ≤ dropped_on node name) × (is_past node name floor ≡ false)

-- all that every member of the context has harvested, as the board tells it first, is dropped then, or the context is dead
abbrev pub DropsAll : Name → NodeView → NodeView → Type 0
DropsAll name old new = (floor : ℕ) → floor_on old.board name ≡ Some floor → IsGone new.board name ⊎ (floor ≤ dropped_on new name)

-- where every member has harvested a free of the context, as the board tells it first, the context is dead then
abbrev pub KillsFreed : Name → NodeView → NodeView → Type 0
KillsFreed name old new = (floor : ℕ) → floor_on old.board name ≡ Some floor → is_past old name floor ≡ true → IsGone new.board name

-- how many calls are to be dropped: as many as every member has harvested; none where these are dropped and no free of all is among them
abbrev pub IsToDrop : Name → NodeView → Option ℕ → Type 0
IsToDrop name node None = HasDropped name node
IsToDrop name node (Some number) = (floor_on node.board name ≡ Some number) × ¬ (HasDropped name node)

-- what a prune to this number leaves, or none
abbrev pub with_prune : Option ℕ → Name → NodeView → NodeView
with_prune None name node = node
with_prune (Some number) name node = learn_some (prune_part node name number) node

-- the process dropped what every member of the context has harvested, and did nothing else; whether there was any is answered
pub record Drops (name : Name) (answer : Bool) (old new : NodeView) : Type 0 where
  pub number : Option ℕ
  pub asked : IsToDrop name old number
  pub does : new ≡ with_prune number name old
  pub answers : answer ≡ is_some number
  pub drops : DropsAll name old new
  pub kills : KillsFreed name old new

-- HARVESTS

-- with these operations of the job's own
module _ (ops : List Operation) (name : Name) where
  -- the process harvested on the context, until no further result could be had
  pub record HarvestsAll (old new : NodeView) : Type 0 where
    pub times : ℕ
    pub does : new ≡ harvested ops times name old
    pub none_left : has_next new name ≡ false

  -- it harvested there, until memory was wanting to store a result that could be had
  pub record WantsResult (old new : NodeView) : Type 0 where
    pub times : ℕ
    pub does : new ≡ harvested ops times name old
    pub next : has_next new name ≡ true

  -- it harvested there, until no further result could be had, and then dropped what every member has harvested
  pub record Settles (answer : Bool) (old new : NodeView) : Type 0 where
    pub all : NodeView
    pub harvests : HarvestsAll old all
    pub drops : Drops name answer all new
