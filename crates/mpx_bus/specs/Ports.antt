-- A port: a node, the pass that stands for it, and the frames of its list that are not sent yet.
use Rattle.std.specs.Prelude.{◌≡◌, ◌≢◌, ◌≤◌, ℕ, All, List, [], ◌∷◌, ◌++◌, map, Some, slice_get, length}
use Rattle.atomic_table.specs.Seated.{TableId}
use Rattle.mpx_board.specs.declared.board.Board.{Board}
use Rattle.mpx_board.specs.Boards.{join_all}
use Rattle.mpx_delta.specs.Facts.{OnlyFactsOf}
use Rattle.mpx_node.specs.Nodes.{NodeView}
use Rattle.mpx_node.specs.Deltas.{SaysWhatItHas, lacking_on}
use Rattle.mpx_world.specs.Worlds.{ProcessView, Happening, MayGoOn}
use Rattle.mpx_world.specs.Soundness.{Sound}
use Rattle.mpx_bus.specs.declared.act.Act.{Act}
use Rattle.mpx_bus.specs.declared.act.Act.TheVariants as A
use Rattle.mpx_bus.specs.declared.act.Setup.{Setup}
use Rattle.mpx_bus.specs.declared.act.View.{View}
use Rattle.mpx_bus.specs.Acts.{IsAhead, MayPush, part_of, process_at, node_at, start_of}
use Rattle.mpx_bus.specs.Views.{standing, seat_of, seen_as}
use Rattle.mpx_bus.specs.Rule.{Stood, IsPlanned, world_of}

-- what a contract sees of a port: which process it is, all that it did, what of it the queue has seen, the frames that it keeps,
-- and which pass of which queue it has
pub record PortView : Type 0 where
  pub me : ℕ
  pub setup : Setup
  pub journal : List Act
  pub published : List Act
  pub kept : List (List ℕ)
  pub table : TableId
  pub pass : ℕ

abbrev pub port_view : View → List Act → List (List ℕ) → TableId → ℕ → PortView
port_view v journal kept table pass = record { me = (seat_of v).me; setup = v.setup; journal = journal; published = (seat_of v).journal; kept = kept; table = table; pass = pass }

-- what its pass knows
abbrev pub view_in : PortView → View
view_in b = standing b.setup (seen_as b.me b.published ∷ [])

-- the process as it is
abbrev pub process_in : PortView → ProcessView
process_in b = process_at b.setup b.me b.journal

abbrev pub node_in : PortView → NodeView
node_in b = (process_in b).node

-- the port may push a frame of these bytes: it popped one, or has seen each fact of the part that they spell
abbrev pub CanPush : PortView → List ℕ → Type 0
CanPush b bytes = MayPush b.setup b.me b.journal bytes

-- what the port posted begins the plan of its process, where there is a plan
abbrev pub KeepsPlan : PortView → Type 0
KeepsPlan b = IsPlanned b.setup b.me b.journal

-- the pass stands for one process; the journal goes on by local events from what the queue has seen, and gives the node
pub record IsPort (node : NodeView) (v : View) (journal : List Act) : Type 0 where
  pub stands : v ≡ standing v.setup (seat_of v ∷ [])
  pub ahead : IsAhead v.setup (seat_of v).me (seat_of v).journal journal
  pub node_is : node ≡ node_at v.setup (seat_of v).me journal
  pub stood : Stood v.setup (seat_of v).me (seat_of v).journal

-- each of these frames may be pushed
pub record MayPushAll (setup : Setup) (process : ℕ) (journal : List Act) (frames : List (List ℕ)) : Type 0 where
  pub each : (k : ℕ) (bytes : List ℕ) → slice_get frames k ≡ Some bytes → MayPush setup process journal bytes

-- same queue, same pass, same setup, same process
pub record IsSamePort (a b : PortView) : Type 0 where
  pub table : b.table ≡ a.table
  pub pass : b.pass ≡ a.pass
  pub setup : b.setup ≡ a.setup
  pub me : b.me ≡ a.me

-- a port that makes a post: the same, which may push what it might
pub record PortGoes (a b : PortView) : Type 0 where
  pub same : IsSamePort a b
  pub keeps : (bytes : List ℕ) → CanPush a bytes → CanPush b bytes

-- a port that goes on: the same, which may push what it might, and posts no more than its plan
pub record PortGoesOn (a b : PortView) : Type 0 where
  pub same : IsSamePort a b
  pub keeps : (bytes : List ℕ) → CanPush a bytes → CanPush b bytes
  pub plan : KeepsPlan a → KeepsPlan b

-- the process says what it has, and these frames are its board without what all processes say that they have: each has at most so
-- many bytes and only facts of the board, and their join is that
pub record AreDeltas (limit : ℕ) (old new : NodeView) (frames : List (List ℕ)) : Type 0 where
  pub says : SaysWhatItHas old new
  pub fit : All (λ bytes. length bytes ≤ limit) frames
  pub facts : All (λ bytes. OnlyFactsOf (part_of bytes) new.board) frames
  pub join : join_all (map part_of frames) ≡ lacking_on new

-- the port made a new list, which it keeps, of frames of at most so many bytes
pub record HasListed (limit : ℕ) (old new : PortView) : Type 0 where
  pub said : Board
  pub journal : new.journal ≡ old.journal ++ A.Acknowledged said ∷ []
  pub deltas : AreDeltas limit (node_in old) (node_in new) new.kept

-- a port that has done nothing yet
pub record IsNew (setup : Setup) (table : TableId) (me : ℕ) (b : PortView) : Type 0 where
  pub me_is : b.me ≡ me
  pub journal_is : b.journal ≡ []
  pub published_is : b.published ≡ []
  pub kept_is : b.kept ≡ []
  pub setup_is : b.setup ≡ setup
  pub table_is : b.table ≡ table

-- a new port for each process
pub record IsFleet (setup : Setup) (table : TableId) (processes : ℕ) (ports : List PortView) : Type 0 where
  pub count : length ports ≡ processes
  pub each : (me : ℕ) (b : PortView) → slice_get ports me ≡ Some b → IsNew setup table me b

-- all that two ports did is of one sound world
pub record HaveMet (a b : PortView) : Type 0 where
  pub happenings : List Happening
  pub may : MayGoOn (start_of a.setup) happenings
  pub first : (world_of a.setup happenings).each a.me ≡ process_in a
  pub second : (world_of a.setup happenings).each b.me ≡ process_in b
  pub apart : a.me ≢ b.me
  pub sound : Sound (world_of a.setup happenings)
