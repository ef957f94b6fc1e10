-- What the processes of a run do side by side, each by itself.
use Rattle.std.specs.Prelude.{◌≡◌, ◌&&◌, ◌++◌, ℕ, suc, ◌≤◌, Bool, nat_eq, nat_lt, List, [], ◌∷◌, length, map, take, drop, Option, Some, IfSome, slice_get, if◌then◌else◌}
use Rattle.std.specs.List.{filter}
use Rattle.std.proofs.Common.{set}
use Rattle.mpx_num.specs.declared.own.Operation.{Operation}
use Rattle.mpx_board.specs.Boards.{join_all}
use Rattle.mpx_delta.specs.declared.framed.NewFrames.{NewFrames}
use Rattle.mpx_node.specs.Deltas.{AreLacked, LackFrames, lacking_on}
use Rattle.mpx_node.specs.Nodes.{NodeView, learn}
use Rattle.mpx_meaning.specs.Evaluation.{Script}
use Rattle.mpx_sim.specs.declared.frame_under_way.FrameUnderWay.{FrameUnderWay}
use Rattle.mpx_sim.specs.declared.process.Process.{Process}
use Rattle.mpx_sim.specs.Running.{IsUnderWay, Keeps, ProcessView}
use Rattle.mpx_sim.specs.Senders.{then_by}
use Rattle.mpx_sim.specs.Shown.{frame_of, part_of, process_of}
use Rattle.mpx_sim.specs.Turns.{Alone, FrameView, IsListOf, Moment, Saying}

-- FRAMES COME

-- whether a frame comes to the process of this number in this turn
abbrev pub comes : (place turn : ℕ) → FrameUnderWay → Bool
comes place turn f = nat_eq f.to place && nat_eq f.turn turn

-- the process of this number once the frame has come, where it comes to it in this turn
abbrev pub took : (place turn : ℕ) → FrameUnderWay → ProcessView → ProcessView
took place turn f v = if comes place turn f then record { rank = v.rank; node = learn (part_of f) v.node; sender = v.sender } else v

-- the same of each of these frames, one after the other
abbrev pub taken : (place turn : ℕ) → List FrameUnderWay → ProcessView → ProcessView
taken place turn [] v = v
taken place turn (f ∷ frames) v = taken place turn frames (took place turn f v)

-- all processes, from this number on, once these frames have come to them
abbrev pub all_taken : (place turn : ℕ) → List FrameUnderWay → List ProcessView → List ProcessView
all_taken place turn frames [] = []
all_taken place turn frames (v ∷ vs) = taken place turn frames v ∷ all_taken (suc place) turn frames vs

-- the frames in front of a place, and behind it those that come in later turns
abbrev pub left_from : (turn place : ℕ) → List FrameView → List FrameView
left_from turn place frames = take place frames ++ filter (λ (f : FrameView). nat_lt turn f.turn) (drop place frames)

-- EACH GOES ON

-- the process of this number goes on by itself, where so many are ranks: in its place in a run stands the other
abbrev pub GoesOn : List Operation → (count place : ℕ) → (old new : ProcessView) → Type 0
GoesOn ops count place old new = (script : Script) (ranks size : ℕ) (begun : Moment) (processes : List ProcessView) (frames : List FrameView) → count ≤ ranks → slice_get processes place ≡ Some old
    → IsUnderWay ops script ranks size begun Alone processes frames → IsUnderWay ops script ranks size begun Alone (set processes place new) frames

-- each process takes the frames that come to it, and goes on by itself then
abbrev pub AllGoOn : List Operation → (count turn : ℕ) → List FrameUnderWay → (old new : List ProcessView) → Type 0
AllGoOn ops count turn frames old new = (length new ≡ length old) × ((place : ℕ) (v w : ProcessView) → slice_get old place ≡ Some v → slice_get new place ≡ Some w → GoesOn ops count place (taken place turn frames v) w)

-- EACH MAKES ITS FRAMES

-- frames that are made ahead, if any, are those of the node as it stands; and so is the one frame that is kept of a list, if any
abbrev pub AreMade : NodeView → Option NewFrames → Option (List ℕ) → Type 0
AreMade node ahead last = IfSome ahead (λ (made : NewFrames). LackFrames 1048576 node made.said made.frames.items) × IfSome last (λ frame. AreLacked 1048576 node (frame ∷ []))

-- the frames that a process has made ahead, and the one that it keeps of its last list, are those of its board as it stands
abbrev pub IsReady : Process → Type 0
IsReady p = AreMade (process_of p).node p.notes.ahead p.notes.last

abbrev pub AreReady : List Process → Type 0
AreReady ps = (place : ℕ) (p : Process) → slice_get ps place ≡ Some p → IsReady p

-- the frames that a process has to send
abbrev pub to_send : Process → List FrameView
to_send p = map frame_of p.notes.made.items

-- a process says what it has, and makes a list of frames, or none; one whose last list is out makes frames of all that others may lack of its board. What
-- it keeps of the list is that of its board
pub record Makes (shifts : List ℕ) (size turn : ℕ) (old new : Process) : Type 0 where
  pub says : (ops : List Operation) → Keeps Saying ops (process_of old) (process_of new)
  pub list : IsListOf shifts size turn (process_of new).rank.me (process_of old).sender (process_of new).node (to_send new)
  pub sender : (process_of new).sender ≡ then_by shifts turn (length (to_send new)) (process_of old).sender
  pub whole : old.sender.out ≤ turn → join_all (map part_of new.notes.made.items) ≡ lacking_on (process_of new).node
  pub ready : IsReady new

-- each process does
abbrev pub AllMake : (shifts : List ℕ) (size turn : ℕ) → (old new : List Process) → Type 0
AllMake shifts size turn old new = (length new ≡ length old) × ((place : ℕ) (p q : Process) → slice_get old place ≡ Some p → slice_get new place ≡ Some q → Makes shifts size turn p q)
