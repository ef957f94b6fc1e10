-- The port of a member.
use Rattle.std.specs.Prelude.{◌≡◌, ◌⊎◌, ◌||◌, ◌++◌, ◌∷◌, ℕ, Bool, List, [], Err, Ok, None, Option, Some, Result, false, is_err, true}
use Rattle.std.proofs.Common.{refl, ◌∙◌}
use Rattle.atomic_table.specs.Seated.{TableId}
use Rattle.join_core.specs.declared.memory.OutOfMemory.{OutOfMemory}
use Rattle.mpx_num.specs.declared.own.Operation.{Operation}
use Rattle.mpx_bus.specs.Answers.{FoundNone, PopsOne, PushesNext}
use Rattle.mpx_bus.specs.declared.act.Act.TheVariants as A
use Rattle.mpx_bus.specs.declared.act.Setup.{Setup}
use Rattle.mpx_bus.specs.declared.port.Pop.{Pop}
use Rattle.mpx_bus.specs.declared.port.Pop.TheVariants as O
use Rattle.mpx_bus.specs.declared.port.Push.{Push}
use Rattle.mpx_bus.specs.Ports.{IsSamePort, PortView, node_in}
use Rattle.mpx_request.specs.declared.answers.TurnError.{TurnError}
use Rattle.mpx_request.specs.declared.answers.TurnError.TheVariants as T
use Rattle.mpx_request.specs.Later.{Later}
use Rattle.mpx_name.specs.Name.{Name}
use Rattle.mpx_node.specs.Nodes.{NodeView}
use Rattle.mpx_node.specs.Settling.{DropsAll, HasDropped, IsToDrop, KillsFreed}

-- so many processes, of which the first are the ranks, with these operations of the job's own, and no plan of what they post
abbrev pub setup_of : List Operation → (ranks size : ℕ) → Setup
setup_of operations ranks size = record { ranks = ranks; size = size; operations = operations; planned = false; plan = [] }

-- the port of this process at this queue, under what all agree on
abbrev pub IsSeated : TableId → Setup → (me : ℕ) → PortView → Type 0
IsSeated table setup me b = (b.table ≡ table) × ((b.setup ≡ setup) × (b.me ≡ me))

-- A TURN

-- whether memory was wanting for the part of the frame that was popped
abbrev pub wanted_memory : Pop → Bool
wanted_memory (O.Took frame) = false
wanted_memory O.Empty = false
wanted_memory (O.OutOfMemory frame) = true

-- nothing was posted, harvested or opened, and what was told is told
abbrev pub HasHeard : NodeView → NodeView → Type 0
HasHeard old new = Later old new × (new.opened ≡ old.opened)

-- it drops all posts of one context that every member has harvested, as its board tells it; some weren't dropped, or a free of all is among them
pub record DropsOne (old new : PortView) : Type 0 where
  pub name : Name
  pub number : ℕ
  pub due : IsToDrop name (node_in old) (Some number)
  pub journal : new.journal ≡ old.journal ++ A.Pruned name number ∷ []
  pub kept : new.kept ≡ old.kept
  pub drops : DropsAll name (node_in old) (node_in new)
  pub kills : KillsFreed name (node_in old) (node_in new)

-- of no context there is any to drop
abbrev pub HasNoneToDrop : NodeView → Type 0
HasNoneToDrop node = (name : Name) → HasDropped name node

-- it drops those of one context; or there are none of any; or memory was wanting for the name of one of which there are. Else it does nothing
abbrev pub Prunes : Result (Unit {0}) OutOfMemory → PortView → PortView → Type 0
Prunes (Ok u) old new = DropsOne old new ⊎ ((new ≡ old) × HasNoneToDrop (node_in old))
Prunes (Err e) old new = (new ≡ old) × ((name : Name) × ¬ (HasDropped name (node_in old)))

-- how many calls are to be dropped of one context; or of none there are any; or memory was wanting for the name of one of which there are
abbrev pub FindsOne : Result (Option (Name × ℕ)) OutOfMemory → NodeView → Type 0
FindsOne (Ok (Some found)) node = IsToDrop found.0 node (Some found.1)
FindsOne (Ok None) node = HasNoneToDrop node
FindsOne (Err e) node = (name : Name) × ¬ (HasDropped name node)

-- it pushes the next frame of its list; or memory was wanting for a new list, and it does nothing
abbrev pub PushesAnother : Result Push OutOfMemory → PortView → PortView → Type 0
PushesAnother (Ok push) old new = PushesNext 1048576 push old new
PushesAnother (Err e) old new = (new ≡ old) × (old.kept ≡ [])

-- it pops, drops and pushes, once each and nothing else, and it tells want of memory just where memory was wanting for what it popped, for
-- what it was to drop or for what it was to push
pub record Turns (tells_want : Bool) (old new : PortView) : Type 0 where
  pub pop : Pop
  pub popped : PortView
  pub pops : PopsOne pop old popped
  pub found : FoundNone pop popped
  pub keeps : popped.kept ≡ old.kept
  pub pruned : PortView
  pub prune : Result (Unit {0}) OutOfMemory
  pub prunes : Prunes prune popped pruned
  pub push : Result Push OutOfMemory
  pub pushes : PushesAnother push pruned new
  pub told : tells_want ≡ (wanted_memory pop || (is_err prune || is_err push))

-- one that is refused: it was made, and memory was wanting, where the member has heard of no rank that gave up; or nothing was done, since this
-- rank has given up, of which the member has heard
abbrev pub RefusesTurn : (gave_up : ℕ → Type 0) → TurnError → (heard : Option ℕ) → PortView → PortView → Type 0
RefusesTurn gave_up T.OutOfMemory heard old new = (heard ≡ None) × Turns true old new
RefusesTurn gave_up (T.GaveUp rank) heard old new = (heard ≡ Some rank) × ∥ gave_up rank ∥₁ × (new ≡ old)

-- ONE PORT

pub same_itself : (a : PortView) → IsSamePort a a
same_itself a = record { table = refl; pass = refl; setup = refl; me = refl }

pub same_then : (a b c : PortView) → IsSamePort a b → IsSamePort b c → IsSamePort a c
same_then a b c x y = record { table = y.table ∙ x.table; pass = y.pass ∙ x.pass; setup = y.setup ∙ x.setup; me = y.me ∙ x.me }

-- by which operations it goes, whatever is lent
abbrev pub by_port : PortView → List Operation → List Operation
by_port b lent = b.setup.operations

pub same_operations : (a b : PortView) → IsSamePort a b → by_port b ≡ by_port a
same_operations a b same i lent = (same.setup i).operations
