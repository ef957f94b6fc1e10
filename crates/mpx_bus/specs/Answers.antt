-- What the calls of a bus answer and leave.
use Rattle.std.specs.Prelude.{◌≡◌, ◌≢◌, ◌⊎◌, ℕ, List, [], ◌∷◌, ◌++◌, Result, Ok, Err}
use Rattle.join_core.specs.declared.memory.OutOfMemory.{OutOfMemory}
use Rattle.mpx_name.specs.Name.{Name}
use Rattle.mpx_board.specs.declared.board.Board.{Board}
use Rattle.mpx_node.specs.declared.node.Harvest.{Harvest}
use Rattle.mpx_node.specs.declared.node.Harvest.TheVariants as H
use Rattle.mpx_bus.specs.declared.act.Act.TheVariants as A
use Rattle.mpx_bus.specs.declared.port.Push.{Push}
use Rattle.mpx_bus.specs.declared.port.Push.TheVariants as P
use Rattle.mpx_bus.specs.declared.port.Pop.{Pop}
use Rattle.mpx_bus.specs.declared.port.Pop.TheVariants as O
use Rattle.mpx_node.specs.Nodes.{NodeView, StopsTaking, learn}
use Rattle.mpx_bus.specs.Acts.{part_of}
use Rattle.crossbeam_queue.specs.Fifo.{Held}
use Rattle.mpx_bus.specs.Rule.{IsHeldAt}
use Rattle.mpx_bus.specs.Ports.{PortView, CanPush, HasListed, node_in, view_in}

-- the frame of these bytes is pushed; or it comes back, and the port has done nothing
abbrev pub PushesOne : List ℕ → Push → PortView → PortView → Type 0
PushesOne bytes P.Pushed old new = new.journal ≡ old.journal ++ A.Pushed bytes ∷ []
PushesOne bytes (P.Full frame) old new = (frame ≡ bytes) × (new ≡ old)

-- a frame comes back only where the queue had no room at a moment of the call: under its rule it held so many frames, while the port
-- stood as the queue has seen it
abbrev pub FoundNoRoom : (room : ℕ) → Push → PortView → Type 0
FoundNoRoom room P.Pushed new = Unit {0}
FoundNoRoom room (P.Full frame) new = Held room (IsHeldAt (view_in new))

-- a frame of these bytes is popped, and a take is refused
pub record Stopped (bytes : List ℕ) (old new : PortView) : Type 0 where
  pub left : Board
  pub journal : new.journal ≡ (old.journal ++ A.Popped bytes ∷ []) ++ A.StoppedTaking bytes left ∷ []
  pub board : StopsTaking (part_of bytes) (node_in old) (node_in new)

-- memory was wanting for a part that these bytes spell: the port has popped the frame, and nothing of it is on its board; or a take
-- has left a board between
abbrev pub Wants : List ℕ → PortView → PortView → Type 0
Wants bytes old new = (new.journal ≡ old.journal ++ A.Popped bytes ∷ []) ⊎ Stopped bytes old new

-- a frame is popped and its part joined; the queue is empty, and the port has done nothing; or a frame is popped, and memory was
-- wanting to join its part
abbrev pub PopsOne : Pop → PortView → PortView → Type 0
PopsOne (O.Took frame) old new = new.journal ≡ (old.journal ++ A.Popped frame ∷ []) ++ A.Took frame ∷ []
PopsOne O.Empty old new = new ≡ old
PopsOne (O.OutOfMemory frame) old new = Wants frame old new

-- no frame is popped only where the queue was empty at a moment of the call: under its rule it held none, while the port stood as the
-- queue has seen it
abbrev pub FoundNone : Pop → PortView → Type 0
FoundNone (O.Took frame) new = Unit {0}
FoundNone O.Empty new = Held 0 (IsHeldAt (view_in new))
FoundNone (O.OutOfMemory frame) new = Unit {0}

-- a frame that was popped may be pushed on
abbrev pub PassesOn : Pop → PortView → Type 0
PassesOn (O.Took frame) new = CanPush new frame
PassesOn O.Empty new = Unit {0}
PassesOn (O.OutOfMemory frame) new = CanPush new frame

-- the part is joined to the board; or nothing is; or memory was wanting, and the board is as it was or one between it and the join
abbrev pub TakesIn : Pop → NodeView → NodeView → Type 0
TakesIn (O.Took frame) old new = new ≡ learn (part_of frame) old
TakesIn O.Empty old new = new ≡ old
TakesIn (O.OutOfMemory frame) old new = (new ≡ old) ⊎ StopsTaking (part_of frame) old new

-- a harvest that is done stands in the journal; else the port has done nothing
abbrev pub HarvestsOne : Name → Result Harvest OutOfMemory → PortView → PortView → Type 0
HarvestsOne name (Ok (H.Done call)) old new = new.journal ≡ old.journal ++ A.Harvested name ∷ []
HarvestsOne name (Ok H.NotYet) old new = new ≡ old
HarvestsOne name (Ok H.NotOpened) old new = new ≡ old
HarvestsOne name (Err e) old new = new ≡ old

-- the port keeps frames of its list, or has made a new one, of frames of at most so many bytes
abbrev pub Lists : ℕ → PortView → PortView → Type 0
Lists limit old new = ((old.kept ≢ []) × (new ≡ old)) ⊎ ((old.kept ≡ []) × HasListed limit old new)

-- the next frame of the list of this port
abbrev pub PushesLast : List ℕ → Push → PortView → PortView → Type 0
PushesLast bytes P.Pushed old new = new.journal ≡ old.journal ++ A.Pushed bytes ∷ []
PushesLast bytes (P.Full frame) old new = (frame ≡ bytes) × ((new.journal ≡ old.journal) × CanPush new frame)

-- the port pushes the next frame of its list; where the queue is full, it comes back, and counts as sent. The limit is that of a
-- list made now: frames kept of an earlier one fit the limit which that was made with
pub record PushesNext (limit : ℕ) (push : Push) (old new : PortView) : Type 0 where
  pub listed : PortView
  pub lists : Lists limit old listed
  pub bytes : List ℕ
  pub next : listed.kept ≡ new.kept ++ bytes ∷ []
  pub pushes : PushesLast bytes push listed new
