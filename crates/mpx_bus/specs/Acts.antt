-- What the acts of a process come to.
use Rattle.std.specs.Prelude.{◌≡◌, ◌≤◌, ◌⊎◌, ℕ, List, [], ◌∷◌, ◌++◌, slice_get, Some}
use Rattle.mpx_name.specs.Name.{Name}
use Rattle.mpx_num.specs.declared.own.Operation.{Operation}
use Rattle.mpx_board.specs.declared.board.Board.{Board}
use Rattle.mpx_board.specs.Boards.{Fact, Has, IsBetween, Numbers}
use Rattle.mpx_board.specs.Looks.{look}
use Rattle.mpx_board.specs.Contexts.{look_of}
use Rattle.mpx_board.specs.Parts.{PartsView}
use Rattle.mpx_format.specs.Decoding.{IsSpelled}
use Rattle.mpx_delta.specs.Digests.{HasUpTo}
use Rattle.mpx_node.specs.Nodes.{NodeView}
use Rattle.mpx_world.specs.Worlds.{ProcessView, WorldView, harvests, gathers, prunes, lets_results_go, learns, acknowledges, start, IsSeen}
use Rattle.mpx_world.specs.Drafted.{posts}
use Rattle.mpx_bus.specs.declared.act.Act.{Act}
use Rattle.mpx_bus.specs.declared.act.Act.TheVariants as A
use Rattle.mpx_bus.specs.declared.act.Setup.{Setup}
pub use Rattle.mpx_bus.specs.Frames.{shown, part_of}

-- what the process says on this board that it has
abbrev pub said_on : Board → ProcessView → Numbers
said_on board v = (look board).acks v.node.me

-- with these operations of the job's own
module _ (ops : List Operation) where
  abbrev pub act_on : Act → ProcessView → ProcessView
  act_on (A.Posted name draft) v = posts ops name draft v
  act_on (A.Harvested name) v = harvests ops name v
  act_on (A.Gathered parent tag ranks) v = gathers parent tag ranks v
  act_on (A.Pruned name n) v = prunes name n v
  act_on (A.Forgot name below) v = lets_results_go name below v
  act_on (A.Took bytes) v = learns (part_of bytes) v
  act_on (A.StoppedTaking bytes left) v = learns (look left) v
  act_on (A.Acknowledged board) v = acknowledges (said_on board v) v
  act_on (A.Pushed bytes) v = v
  act_on (A.Popped bytes) v = v

  -- these acts, the oldest first
  abbrev pub after : List Act → ProcessView → ProcessView
  after [] v = v
  after (a ∷ more) v = after more (act_on a v)

-- the world before anything happens
abbrev pub start_of : Setup → WorldView
start_of setup = start setup.operations setup.ranks setup.size

-- a process before it does anything
abbrev pub at_start : Setup → (process : ℕ) → ProcessView
at_start setup p = (start_of setup).each p

-- a process once it has done these
abbrev pub process_at : Setup → (process : ℕ) → List Act → ProcessView
process_at setup p acts = after setup.operations acts (at_start setup p)

abbrev pub node_at : Setup → (process : ℕ) → List Act → NodeView
node_at setup p acts = (process_at setup p acts).node

-- the act stands in the journal
pub record DidIn (journal : List Act) (a : Act) : Type 0 where
  pub at : ℕ
  pub did : slice_get journal at ≡ Some a

-- an act that lets no results go
abbrev pub LetsNothingGo : Act → Type 0
LetsNothingGo (A.Forgot name below) = ⊥
LetsNothingGo a = Unit {0}

-- it has what it says there, or said so before
abbrev pub SaysNoMore : Board → ProcessView → Type 0
SaysNoMore board v = (name : Name) (m : ℕ) → HasUpTo v.node.board name m (said_on board v name m) ⊎ (said_on board v name m ≤ v.node.board.acks v.node.me name m)

-- what a port does between two steps on the queue, by what was published and as the process is then: of the parts it takes in
-- those alone that it had popped; a take that is refused leaves a board between the old one and the join; and it says no more
-- than it has
abbrev pub IsLocal : List Act → ProcessView → Act → Type 0
IsLocal published v (A.Posted name draft) = Unit {0}
IsLocal published v (A.Harvested name) = Unit {0}
IsLocal published v (A.Gathered parent tag ranks) = Unit {0}
IsLocal published v (A.Pruned name n) = Unit {0}
IsLocal published v (A.Forgot name below) = Unit {0}
IsLocal published v (A.Took bytes) = DidIn published (A.Popped bytes)
IsLocal published v (A.StoppedTaking bytes left) = DidIn published (A.Popped bytes) × IsBetween v.node.board (part_of bytes) (look left)
IsLocal published v (A.Acknowledged board) = SaysNoMore board v
IsLocal published v (A.Pushed bytes) = ⊥
IsLocal published v (A.Popped bytes) = ⊥

abbrev pub AreLocal : List Operation → List Act → ProcessView → List Act → Type 0
AreLocal ops published v [] = Unit {0}
AreLocal ops published v (a ∷ more) = IsLocal published v a × AreLocal ops published (act_on ops a v) more

-- the journal goes on from the published one by local events
pub record IsAhead (setup : Setup) (process : ℕ) (published journal : List Act) : Type 0 where
  pub locals : List Act
  pub whole : journal ≡ published ++ locals
  pub local : AreLocal setup.operations published (process_at setup process published) locals

-- the process may send the part that these bytes spell: it has seen each fact of it
pub record MaySendFrame (setup : Setup) (process : ℕ) (journal : List Act) (bytes : List ℕ) : Type 0 where
  pub view : PartsView
  pub spells : IsSpelled bytes view
  pub seen : (f : Fact) → Has (look_of view) f → IsSeen (process_at setup process journal) f

-- it may push these bytes: it may send the part, or it popped a frame of these bytes
abbrev pub MayPush : Setup → (process : ℕ) → List Act → List ℕ → Type 0
MayPush setup p journal bytes = MaySendFrame setup p journal bytes ⊎ DidIn journal (A.Popped bytes)
