-- What a turn of a run is.
use Rattle.std.specs.Prelude.{◌≡◌, ℕ, zero, suc, ◌<◌, ◌≤◌, ◌+◌, ◌++◌, All, true, nat_lt, List, [], ◌∷◌, length, map, Some, slice_get, nat_eq, ◌&&◌, if◌then◌else◌}
use Rattle.std.specs.List.{filter}
use Rattle.std.specs.List.Sorted.{IsPermutation}
use Rattle.mpx_num.specs.declared.own.Operation.{Operation}
use Rattle.mpx_board.specs.declared.board.Board.{Board}
use Rattle.mpx_board.specs.Boards.{IsBoardBelow, Look, join_all}
use Rattle.mpx_board.specs.Looks.{look}
use Rattle.mpx_delta.specs.Facts.{OnlyFactsOf}
use Rattle.mpx_delta.specs.Pieces.{AllFit, NoNeighboursFit}
use Rattle.mpx_node.specs.Deltas.{lacking_on}
use Rattle.mpx_node.specs.Nodes.{NodeView}
use Rattle.mpx_script.specs.ScriptView.{ScriptView}
use Rattle.mpx_world.specs.Worlds.{Posts, Harvests, Gathers, Prunes, Sends, Takes, TakesPartly, Acknowledges, Forgets}
use Rattle.mpx_meaning.specs.Evaluation.{State, Script}
use Rattle.mpx_meaning.specs.Reports.{is_left}
use Rattle.mpx_system.specs.Systems.{System, Doing, Nets, Drives, MayDoAll, does_all, start_system}
use Rattle.mpx_sim.specs.Draws.{ScheduleView, draw, drawn, drawn_again, drawn_once, first_schedule}
use Rattle.mpx_sim.specs.Senders.{SenderView, first_sender, receiver, then_by}

-- what goes on in a process by itself: its rank moves, it stores a result, or it drops posts
abbrev pub IsOwn : Doing → Type 0
IsOwn (Drives p) = Unit {0}
IsOwn (Nets (Posts p name draft)) = ⊥
IsOwn (Nets (Harvests p name)) = Unit {0}
IsOwn (Nets (Gathers p parent tag ranks)) = ⊥
IsOwn (Nets (Prunes p name n)) = Unit {0}
IsOwn (Nets (Sends p part)) = ⊥
IsOwn (Nets (Takes p place)) = ⊥
IsOwn (Nets (TakesPartly p place left)) = ⊥
IsOwn (Nets (Acknowledges p numbers)) = ⊥
IsOwn (Nets (Forgets p name below)) = ⊥

-- a process says what it has
abbrev pub IsSaid : Doing → Type 0
IsSaid (Drives p) = ⊥
IsSaid (Nets (Posts p name draft)) = ⊥
IsSaid (Nets (Harvests p name)) = ⊥
IsSaid (Nets (Gathers p parent tag ranks)) = ⊥
IsSaid (Nets (Prunes p name n)) = ⊥
IsSaid (Nets (Sends p part)) = ⊥
IsSaid (Nets (Takes p place)) = ⊥
IsSaid (Nets (TakesPartly p place left)) = ⊥
IsSaid (Nets (Acknowledges p numbers)) = Unit {0}
IsSaid (Nets (Forgets p name below)) = ⊥

-- a frame comes
abbrev pub IsTaken : Doing → Type 0
IsTaken (Drives p) = ⊥
IsTaken (Nets (Posts p name draft)) = ⊥
IsTaken (Nets (Harvests p name)) = ⊥
IsTaken (Nets (Gathers p parent tag ranks)) = ⊥
IsTaken (Nets (Prunes p name n)) = ⊥
IsTaken (Nets (Sends p part)) = ⊥
IsTaken (Nets (Takes p place)) = Unit {0}
IsTaken (Nets (TakesPartly p place left)) = ⊥
IsTaken (Nets (Acknowledges p numbers)) = ⊥
IsTaken (Nets (Forgets p name below)) = ⊥

abbrev pub AreAllSo : (Doing → Type 0) → List Doing → Type 0
AreAllSo P [] = Unit {0}
AreAllSo P (d ∷ ds) = P d × AreAllSo P ds

-- doings of this sort alone lead there; there may be none
pub record LeadsBy (P : Doing → Type 0) (ranks : ℕ) (from to : System) : Type 0 where
  pub doings : List Doing
  pub are : AreAllSo P doings
  pub may : MayDoAll ranks from doings
  pub reached : does_all from doings ≡ to

-- some rank has something left
pub record IsLeft (ranks : ℕ) (s : State) : Type 0 where
  pub rank : ℕ
  pub among : rank < ranks
  pub left : is_left (s rank).todo ≡ true

-- FRAMES

-- a frame: from which process to which it goes, the turn in which it comes, and the board that its bytes spell
pub record FrameView : Type 0 where
  pub from : ℕ
  pub to : ℕ
  pub turn : ℕ
  pub part : Look

-- the frames of these parts: one comes in each turn, from this one on
abbrev pub one_a_turn : (from to turn : ℕ) → List Look → List FrameView
one_a_turn from to turn [] = []
one_a_turn from to turn (part ∷ parts) = record { from = from; to = to; turn = turn; part = part } ∷ one_a_turn from to (suc turn) parts

-- what a process makes in a turn: nothing where its last list isn't out; else the frames of a list, which say only what its board has, and together all that
-- others may lack of it. All go to the process that is next by the shifts. Each has a mebibyte at most, and no two neighbours would fit into one
pub data IsListOf (shifts : List ℕ) (size turn p : ℕ) (sender : SenderView) (node : NodeView) : List FrameView → Type 0 where
  no_list : turn < sender.out → IsListOf shifts size turn p sender node []
  a_list : (parts : List Board) → sender.out ≤ turn → All (λ part. OnlyFactsOf (look part) node.board) parts → join_all (map look parts) ≡ lacking_on node → AllFit 1048576 parts → NoNeighboursFit 1048576 parts
      → IsListOf shifts size turn p sender node (one_a_turn p (receiver shifts size p sender.place) turn (map look parts))

-- the frames of all these lists, one behind the other
abbrev pub joined : List (List FrameView) → List FrameView
joined [] = []
joined (list ∷ lists) = list ++ joined lists

-- those of some frames that go out: for each a number below a hundred is drawn, once, and it goes out where that isn't below the loss, or else is lost
abbrev pub those_out : ScheduleView → List FrameView → List FrameView
those_out s [] = []
those_out s (f ∷ made) = if nat_lt (draw 100 s.draws) s.loss then those_out (drawn_once s) made else (f ∷ those_out (drawn_once s) made)

-- a number was drawn for each of them
abbrev pub drawn_for : List FrameView → ScheduleView → ScheduleView
drawn_for [] s = s
drawn_for (f ∷ made) s = drawn_for made (drawn_once s)

-- the schedule once a frame was asked whether it comes again, which is drawn where it has come in this turn
abbrev pub asked : (turn : ℕ) → FrameView → ScheduleView → ScheduleView
asked turn f s = if nat_eq f.turn turn then drawn_again s else s

-- the frame then: where the number below four is 0, it comes again, by the next number one to four turns later
abbrev pub put_off : (turn : ℕ) → FrameView → ScheduleView → FrameView
put_off turn f s = if nat_eq f.turn turn && nat_eq (draw 4 s.draws) 0 then record { from = f.from; to = f.to; turn = turn + suc (draw 4 (drawn s.draws)); part = f.part } else f

-- the same of each of these frames, one after the other
abbrev pub drawn_again_for : (turn : ℕ) → List FrameView → ScheduleView → ScheduleView
drawn_again_for turn [] s = s
drawn_again_for turn (f ∷ frames) s = drawn_again_for turn frames (asked turn f s)

abbrev pub all_put_off : (turn : ℕ) → List FrameView → ScheduleView → List FrameView
all_put_off turn [] s = []
all_put_off turn (f ∷ frames) s = put_off turn f s ∷ all_put_off turn frames (asked turn f s)

-- those of them that come in later turns
abbrev pub those_left : (turn : ℕ) → List FrameView → ScheduleView → List FrameView
those_left turn frames s = filter (λ (f : FrameView). nat_lt turn f.turn) (all_put_off turn frames s)

-- they are sent
abbrev pub sends_each : List FrameView → List Doing
sends_each frames = map (λ (f : FrameView). Nets (Sends f.from f.part)) frames

abbrev pub IsUnder : List FrameView → FrameView → Type 0
IsUnder frames f = (place : ℕ) × (slice_get frames place ≡ Some f)

-- TURNS

-- a system, the frames that are under way in it, the schedule that drives it, and how far each process has come with sending
pub record Moment : Type 0 where
  pub system : System
  pub frames : List FrameView
  pub schedule : ScheduleView
  pub senders : ℕ → SenderView

-- the one before the first turn: no frame is under way, and nothing was sent
abbrev pub first_moment : List Operation → Script → (ranks size : ℕ) → ScheduleView → Moment
first_moment ops script ranks size first = record { system = start_system ops script ranks size; frames = []; schedule = first; senders = λ p. first_sender }

-- what goes on in each process by itself, if anything, has gone on; some rank has something left then; and processes, if any, have said what they have
pub record HasSaid (ranks : ℕ) (from : System) (to : System) : Type 0 where
  pub alone : System
  pub own : LeadsBy IsOwn ranks from alone
  pub left : IsLeft ranks alone.ranks
  pub says : LeadsBy IsSaid ranks alone to

-- then each process has made a list of frames or none, and those that weren't lost are under way behind the others
pub record HasSent (ranks size turn : ℕ) (from to : Moment) : Type 0 where
  pub said : System
  pub before : HasSaid ranks from.system said
  pub lists : List (List FrameView)
  pub count : length lists ≡ size
  pub made : (p : ℕ) (list : List FrameView) → slice_get lists p ≡ Some list → IsListOf from.schedule.shifts size turn p (from.senders p) (said.world.each p).node list
  pub senders_are : (p : ℕ) (list : List FrameView) → slice_get lists p ≡ Some list → to.senders p ≡ then_by from.schedule.shifts turn (length list) (from.senders p)
  pub system_is : to.system ≡ does_all said (sends_each (those_out from.schedule (joined lists)))
  pub frames_are : to.frames ≡ from.frames ++ those_out from.schedule (joined lists)
  pub schedule_is : to.schedule ≡ drawn_for (joined lists) from.schedule

-- and then frames come, so far these, in an order that is drawn: for each frame that is under way, one number
pub record IsComing (ranks size turn : ℕ) (from : Moment) (schedule : ScheduleView) (to : System) : Type 0 where
  pub sent : Moment
  pub going : HasSent ranks size turn from sent
  pub comes : LeadsBy IsTaken ranks sent.system to
  pub mixed : schedule ≡ drawn_for sent.frames sent.schedule

-- the turn of this number: each frame of it has come, so that its process's board has what it says, and those of later turns are still under way. For each
-- that has come it is drawn, in their order, whether it comes again
pub record IsTurn (ranks size turn : ℕ) (from to : Moment) : Type 0 where
  pub mixed : ScheduleView
  pub coming : IsComing ranks size turn from mixed to.system
  pub order : List FrameView
  pub ordered : IsPermutation coming.sent.frames order
  pub frames_are : to.frames ≡ those_left turn order mixed
  pub schedule_is : to.schedule ≡ drawn_again_for turn order mixed
  pub senders_are : to.senders ≡ coming.sent.senders
  pub came : All (λ (f : FrameView). f.turn ≡ turn → f.to < size → IsBoardBelow f.part (to.system.world.each f.to).node.board) coming.sent.frames
  pub still : All (λ (f : FrameView). turn < f.turn → IsUnder to.frames f) coming.sent.frames

-- so many turns, one after the other, from the first on
abbrev pub AreTurns : (turns ranks size : ℕ) → Moment → Moment → Type 0
AreTurns zero ranks size from to = from ≡ to
AreTurns (suc n) ranks size from to = (mid : Moment) × AreTurns n ranks size from mid × IsTurn ranks size n mid to

-- the phases of a turn
pub data Phase : Type 0 where
  Alone : Phase
  Saying : Phase
  Coming : (turn : ℕ) → ScheduleView → Phase

abbrev pub IsIn : Phase → Doing → Type 0
IsIn Alone d = IsOwn d
IsIn Saying d = IsSaid d
IsIn (Coming turn s) d = IsTaken d

-- what has been done in a turn that is in this phase, where these frames are under way
abbrev pub Since : (ranks size : ℕ) (begun : Moment) → Phase → List FrameView → System → Type 0
Since ranks size begun Alone frames to = LeadsBy IsOwn ranks begun.system to × (frames ≡ begun.frames)
Since ranks size begun Saying frames to = HasSaid ranks begun.system to × (frames ≡ begun.frames)
Since ranks size begun (Coming turn s) frames to = (coming : IsComing ranks size turn begun s to) × IsPermutation coming.sent.frames frames

-- so many turns of a schedule with this loss and seed, and what goes on in each process by itself then, lead from the start of the script's run with so
-- many relays to processes with these nodes. No frame is under way before the first turn
pub record AreAfter (ops : List Operation) (script : ScriptView) (relays seed loss turns : ℕ) (nodes : List NodeView) : Type 0 where
  pub begun : Moment
  pub made : AreTurns turns script.ranks (script.ranks + relays) (first_moment ops script.statements script.ranks (script.ranks + relays) (first_schedule (script.ranks + relays) seed loss)) begun
  pub system : System
  pub own : LeadsBy IsOwn script.ranks begun.system system
  pub nodes_are : (p : ℕ) (node : NodeView) → slice_get nodes p ≡ Some node → node ≡ (system.world.each p).node
