-- What the gossip of a shared port tells of the port under its lock, at moments of the calls.
use Rattle.std.specs.Prelude.{◌≡◌, ◌<◌, ◌⊎◌, ℕ, List, length, Option, Result, Ok, Err}
use Rattle.atomic_table.specs.Seated.{TableId}
use Rattle.join_core.specs.declared.memory.OutOfMemory.{OutOfMemory}
use Rattle.mpx_name.specs.Name.{Name}
use Rattle.mpx_bus.specs.declared.act.Act.{Act}
use Rattle.mpx_bus.specs.declared.act.Setup.{Setup}
use Rattle.mpx_bus.specs.declared.port.Push.{Push}
use Rattle.mpx_bus.specs.Ports.{PortView}
use Rattle.mpx_shared.specs.declared.pull.Pull.{Pull}
use Rattle.mpx_shared.specs.declared.pull.Pull.TheVariants as L
use Rattle.mpx_shared.specs.LawfulPorts.{AreAllSince, HasGoneOn, IsLawful, MakesNoPost}
use Rattle.mpx_shared.specs.Gossip.{Pulls, Puts}

-- the port popped a frame or found none, harvested and pruned on the world and each context on which it has posted since it was
-- put under the lock, or met want of memory, as the answer says; it made no post
pub record PullsThen (table : TableId) (setup : Setup) (me : ℕ) (opening : List Act) (pull : Pull) : Type 0 where
  pub before : PortView
  pub after : PortView
  pub lawful_before : IsLawful table setup me before
  pub lawful_after : IsLawful table setup me after
  pub gone_on : HasGoneOn setup me opening before
  pub no_post : MakesNoPost before after
  pub contexts : List Name
  pub listed : AreAllSince setup me opening before contexts
  pub pulls : Pulls pull contexts before after

-- the port pushed the next frame of its list, had it back from a full queue, or met want of memory for a new list, as the answer
-- says; it made no post
pub record PutsThen (table : TableId) (setup : Setup) (me : ℕ) (opening : List Act) (put : Result Push OutOfMemory) : Type 0 where
  pub before : PortView
  pub after : PortView
  pub lawful_before : IsLawful table setup me before
  pub lawful_after : IsLawful table setup me after
  pub gone_on : HasGoneOn setup me opening before
  pub no_post : MakesNoPost before after
  pub puts : Puts put before after

-- memory sufficed for the pull
abbrev pub Sufficed : Pull → Type 0
Sufficed L.Took = Unit {0}
Sufficed L.Empty = Unit {0}
Sufficed (L.OutOfMemory lost) = ⊥

-- a turn for which memory sufficed: a pull at one moment of the call, and a put at another
pub record Turn (table : TableId) (setup : Setup) (me : ℕ) (opening : List Act) : Type 0 where
  pub pull : Pull
  pub sufficed : Sufficed pull
  pub pulls : PullsThen table setup me opening pull
  pub push : Push
  pub puts : PutsThen table setup me opening (Ok push)

-- a turn in which memory was wanting for the put
pub record WantsPut (table : TableId) (setup : Setup) (me : ℕ) (opening : List Act) (e : OutOfMemory) : Type 0 where
  pub pull : Pull
  pub sufficed : Sufficed pull
  pub pulls : PullsThen table setup me opening pull
  pub puts : PutsThen table setup me opening (Err e)

-- a turn in which memory was wanting: for the pull, or else for the put
abbrev pub WantsTurn : TableId → Setup → ℕ → List Act → OutOfMemory → Type 0
WantsTurn table setup me opening e = ((lost : Option (List ℕ)) × PullsThen table setup me opening (L.OutOfMemory lost)) ⊎ WantsPut table setup me opening e

-- so many turns were made, and memory sufficed for each; or fewer, and in the one that followed memory was wanting
abbrev pub TurnsThen : TableId → Setup → ℕ → List Act → (turns : ℕ) → Result (Unit {0}) OutOfMemory → Type 0
TurnsThen table setup me opening turns (Ok done) = (made : List (Turn table setup me opening)) × (length made ≡ turns)
TurnsThen table setup me opening turns (Err e) = ((made : List (Turn table setup me opening)) × (length made < turns)) × WantsTurn table setup me opening e
