-- What a pull and a put do to a port.
use Rattle.std.specs.Prelude.{◌≡◌, ◌+◌, ℕ, All, Bool, true, false, List, [], None, Some, Result, Ok, Err, slice_get}
use Rattle.join_core.specs.declared.memory.OutOfMemory.{OutOfMemory}
use Rattle.mpx_name.specs.Name.{Name}
use Rattle.mpx_node.specs.Nodes.{front_on, has_next as node_has_next, posted_on}
use Rattle.mpx_node.specs.Settling.{DropsAll, HasDropped, KillsFreed}
use Rattle.mpx_bus.specs.declared.act.Act.{Act}
use Rattle.mpx_bus.specs.declared.act.Act.TheVariants as A
use Rattle.mpx_bus.specs.declared.port.Pop.{Pop}
use Rattle.mpx_bus.specs.declared.port.Pop.TheVariants as O
use Rattle.mpx_bus.specs.declared.port.Push.{Push}
use Rattle.mpx_bus.specs.Answers.{FoundNone, PopsOne, PushesNext, TakesIn}
use Rattle.mpx_bus.specs.Ports.{PortView, node_in}
use Rattle.mpx_shared.specs.declared.pull.Pull.{Pull}
use Rattle.mpx_shared.specs.declared.pull.Pull.TheVariants as L
use Rattle.mpx_shared.specs.LawfulPorts.{IsListedContext, MakesNoPost}

-- HARVESTS AND PRUNINGS

-- whether a next result can be had on the context
abbrev pub has_next : PortView → Name → Bool
has_next port name = node_has_next (node_in port) name

-- an act that stores a result, or drops posts
abbrev pub IsHarvestOrPruning : Act → Type 0
IsHarvestOrPruning (A.Posted name draft) = ⊥
IsHarvestOrPruning (A.Harvested name) = Unit {0}
IsHarvestOrPruning (A.Gathered parent tag ranks) = ⊥
IsHarvestOrPruning (A.Pruned name n) = Unit {0}
IsHarvestOrPruning (A.Forgot name below) = ⊥
IsHarvestOrPruning (A.Took bytes) = ⊥
IsHarvestOrPruning (A.StoppedTaking bytes left) = ⊥
IsHarvestOrPruning (A.Acknowledged board) = ⊥
IsHarvestOrPruning (A.Pushed bytes) = ⊥
IsHarvestOrPruning (A.Popped bytes) = ⊥

-- the port harvested and pruned, and did nothing else
pub record HarvestsAndPrunes (old new : PortView) : Type 0 where
  pub no_post : MakesNoPost old new
  pub each : All IsHarvestOrPruning no_post.acts
  pub kept : new.kept ≡ old.kept

-- the port stored the next result of the context, where there was one; it has posted as many calls there as before
pub record PortHarvestsNext (had : Bool) (name : Name) (old new : PortView) : Type 0 where
  pub posted : posted_on (node_in new) name ≡ posted_on (node_in old) name
  pub stored : had ≡ true → front_on (node_in new) name ≡ front_on (node_in old) name + 1
  pub none : had ≡ false → has_next new name ≡ false

-- the port dropped the posts of the context that every member has harvested, or the context is dead; where it had dropped them all, and
-- no free of all is among them, nothing is done
pub record Prunes (name : Name) (old new : PortView) : Type 0 where
  pub does : HarvestsAndPrunes old new
  pub drops : DropsAll name (node_in old) (node_in new)
  pub kills : KillsFreed name (node_in old) (node_in new)
  pub none : HasDropped name (node_in old) → new ≡ old

-- the port harvested on the context until no further result could be had there, and then dropped what every member has harvested;
-- before and after that it harvested and pruned elsewhere
pub record Settles (name : Name) (old new : PortView) : Type 0 where
  pub harvested : PortView
  pub before : HarvestsAndPrunes old harvested
  pub none_left : has_next harvested name ≡ false
  pub pruned : PortView
  pub prunes : Prunes name harvested pruned
  pub after : HarvestsAndPrunes pruned new

-- the port settled each of these contexts
abbrev pub SettlesEach : List Name → PortView → PortView → Type 0
SettlesEach contexts old new = (i : ℕ) (name : Name) → slice_get contexts i ≡ Some name → Settles name old new

-- the port settled the world and each of these contexts
pub record SettlesAll (contexts : List Name) (old new : PortView) : Type 0 where
  pub each : (name : Name) → IsListedContext name contexts → Settles name old new

-- the port harvested and pruned, until memory was wanting to store a result that could be had
pub record WantsResult (old new : PortView) : Type 0 where
  pub harvests : HarvestsAndPrunes old new
  pub name : Name
  pub next : has_next new name ≡ true

-- PULLS

-- what came of a pop, and of harvests for which memory may be wanting
abbrev pub IsPullOf : Pop → Pull → Type 0
IsPullOf (O.Took frame) L.Took = Unit {0}
IsPullOf (O.Took frame) L.Empty = ⊥
IsPullOf (O.Took frame) (L.OutOfMemory lost) = lost ≡ None
IsPullOf O.Empty L.Took = ⊥
IsPullOf O.Empty L.Empty = Unit {0}
IsPullOf O.Empty (L.OutOfMemory lost) = lost ≡ None
IsPullOf (O.OutOfMemory frame) L.Took = ⊥
IsPullOf (O.OutOfMemory frame) L.Empty = ⊥
IsPullOf (O.OutOfMemory frame) (L.OutOfMemory lost) = lost ≡ Some frame

-- what follows the pop: the world and these contexts are settled; or nothing follows, where memory was wanting for a frame's part;
-- or memory is wanting for a result
abbrev pub SettlesAs : Pull → List Name → PortView → PortView → Type 0
SettlesAs L.Took contexts popped new = SettlesAll contexts popped new
SettlesAs L.Empty contexts popped new = SettlesAll contexts popped new
SettlesAs (L.OutOfMemory (Some frame)) contexts popped new = new ≡ popped
SettlesAs (L.OutOfMemory None) contexts popped new = WantsResult popped new

-- the port popped a frame, where there was one, took in its part, and then harvested and pruned on the world and on these contexts
pub record Pulls (pull : Pull) (contexts : List Name) (old new : PortView) : Type 0 where
  pub pop : Pop
  pub popped : PortView
  pub pops : PopsOne pop old popped
  pub found : FoundNone pop popped
  pub takes_in : TakesIn pop (node_in old) (node_in popped)
  pub kept : popped.kept ≡ old.kept
  pub then : SettlesAs pull contexts popped new
  pub pull_is : IsPullOf pop pull

-- PUTS

-- the most bytes of a frame
abbrev pub frame_limit : ℕ
frame_limit = 1048576

-- the port pushed the next frame of its list, or had it back from a full queue; or memory was wanting for a new list, since all
-- frames of the last one were sent, and the port has done nothing
abbrev pub Puts : Result Push OutOfMemory → PortView → PortView → Type 0
Puts (Ok push) old new = PushesNext frame_limit push old new
Puts (Err e) old new = (old.kept ≡ []) × (new ≡ old)
