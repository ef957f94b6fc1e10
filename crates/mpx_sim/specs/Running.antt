-- The processes and frames of a run, and which system they show.
use Rattle.std.specs.Prelude.{◌≡◌, ℕ, ◌<◌, ◌+◌, Bool, false, List, length, slice_get, Option, Some, None}
use Rattle.std.proofs.Common.{set}
use Rattle.std.specs.List.{All}
use Rattle.std.specs.Option.{option_map}
use Rattle.mpx_num.specs.declared.own.Operation.{Operation}
use Rattle.mpx_name.specs.Name.{Name}
use Rattle.mpx_board.specs.Boards.{IsBoardBelow, Look}
use Rattle.mpx_node.specs.Nodes.{NodeView}
use Rattle.mpx_script.specs.ScriptView.{ScriptView}
use Rattle.mpx_meaning.specs.Ranks.{Local}
use Rattle.mpx_meaning.specs.Evaluation.{Script}
use Rattle.mpx_rank.specs.Moves.{RankView, is_waiting}
use Rattle.mpx_rank.specs.Places.{CommunicatorView, StandsInScript}
use Rattle.mpx_system.specs.Systems.{System, Leads, start_system}
use Rattle.mpx_sim.specs.Draws.{ScheduleView, first_schedule}
use Rattle.mpx_sim.specs.Senders.{SenderView}
use Rattle.mpx_sim.specs.Turns.{Alone, AreTurns, Coming, FrameView, IsTurn, Moment, Phase, Saying, Since, first_moment}

-- a process: its rank, its node, and how far it has come with sending
pub record ProcessView : Type 0 where
  pub rank : RankView Name
  pub node : NodeView
  pub sender : SenderView

-- whether there is one whose rank waits for an outcome, or has statements left
abbrev pub is_waiting_at : Option ProcessView → Bool
is_waiting_at None = false
is_waiting_at (Some v) = is_waiting v.rank

-- the name of a communicator, where it is one
abbrev pub name_of : Option CommunicatorView → Option Name
name_of o = option_map (λ (c : CommunicatorView). c.0) o

-- the rank, whose words are bound to this
abbrev pub with_births : (List ℕ → Option (Option CommunicatorView)) → RankView Name → RankView CommunicatorView
with_births bound r = record { me = r.me; bound = bound; requests = r.requests; todo = r.todo; waits = r.waits; lines = r.lines; origins = r.origins }

-- it stands there in its script, where its words are bound to communicators that came to be somehow, of which it has the names
pub record StandsBy (r : RankView Name) (s : Local) : Type 0 where
  pub bound : List ℕ → Option (Option CommunicatorView)
  pub names : (word : List ℕ) → r.bound word ≡ option_map name_of (bound word)
  pub stands : StandsInScript (with_births bound r) s

-- the process is the one of this number in the system
pub record IsAt (ranks : ℕ) (s : System) (p : ℕ) (v : ProcessView) : Type 0 where
  pub me : v.rank.me ≡ p
  pub node : v.node ≡ (s.world.each p).node
  pub stands : p < ranks → StandsBy v.rank (s.ranks p)

abbrev pub IsAmong : List Look → Look → Type 0
IsAmong parts b = (place : ℕ) × (slice_get parts place ≡ Some b)

-- each process has come so far with sending
abbrev pub HaveSent : (ℕ → SenderView) → List ProcessView → Type 0
HaveSent senders processes = (p : ℕ) (v : ProcessView) → slice_get processes p ≡ Some v → v.sender ≡ senders p

-- that is so before the lists of a turn are made, and after it; while they are made, one process after the other, nothing is said of it
abbrev pub SendBy : (ranks size : ℕ) (begun : Moment) (phase : Phase) (frames : List FrameView) (system : System) → Since ranks size begun phase frames system → List ProcessView → Type 0
SendBy ranks size begun Alone frames system since processes = HaveSent begun.senders processes
SendBy ranks size begun Saying frames system since processes = Unit {0}
SendBy ranks size begun (Coming turn s) frames system since processes = HaveSent since.0.sent.senders processes

-- the processes and frames under way of a run of the script, in a phase of a turn: the processes of a system to which doings lead from the start, and
-- which is in this phase of the turn that began there; and frames of which each was sent there
pub record IsUnderWay (ops : List Operation) (script : Script) (ranks size : ℕ) (begun : Moment) (phase : Phase) (processes : List ProcessView) (frames : List FrameView) : Type 0 where
  pub system : System
  pub led : Leads ranks (start_system ops script ranks size) system
  pub since : Since ranks size begun phase frames system
  pub count : length processes ≡ size
  pub each : (p : ℕ) (v : ProcessView) → slice_get processes p ≡ Some v → IsAt ranks system p v
  pub sent : All (λ (f : FrameView). IsAmong system.world.parts f.part) frames
  pub senders : SendBy ranks size begun phase frames system since processes

-- where a frame is one of this turn, what it says stands on its process's board
abbrev pub HasCome : (turn : ℕ) → List ProcessView → FrameView → Type 0
HasCome turn processes f = f.turn ≡ turn → (v : ProcessView) → slice_get processes f.to ≡ Some v → IsBoardBelow f.part v.node.board

abbrev pub HaveCome : (turn : ℕ) → List FrameView → List ProcessView → Type 0
HaveCome turn frames processes = All (HasCome turn processes) frames

-- what stands on a process's board stands on that of the other in its place
abbrev pub HaveGrown : (old new : List ProcessView) → Type 0
HaveGrown old new = (place : ℕ) (v w : ProcessView) → slice_get old place ≡ Some v → slice_get new place ≡ Some w → IsBoardBelow v.node.board w.node.board

-- these are the processes of a run of the script with so many relays after so many turns of a schedule with this seed and loss, before frames go out once
-- more, whatever its frames are
pub record AreOfRun (ops : List Operation) (script : ScriptView) (relays seed loss turns : ℕ) (processes : List ProcessView) : Type 0 where
  pub begun : Moment
  pub made : AreTurns turns script.ranks (script.ranks + relays) (first_moment ops script.statements script.ranks (script.ranks + relays) (first_schedule (script.ranks + relays) seed loss)) begun
  pub frames : List FrameView
  pub run : IsUnderWay ops script.statements script.ranks (script.ranks + relays) begun Alone processes frames

-- the turn of this number, of so many, that began there is made. Where it isn't the last, the next one begins with this schedule and these frames
pub record HasTurned (ops : List Operation) (script : Script) (ranks size turns turn : ℕ) (begun : Moment) (schedule : ScheduleView) (processes : List ProcessView) (frames : List FrameView) : Type 0 where
  pub next : Moment
  pub turn_is : IsTurn ranks size turn begun next
  pub run : IsUnderWay ops script ranks size next Alone processes next.frames
  pub goes_on : turn + 1 < turns → (next.frames ≡ frames) × (next.schedule ≡ schedule)

-- in place of the one in a run stands the other, in this phase of a turn
abbrev pub Keeps : Phase → List Operation → (old new : ProcessView) → Type 0
Keeps phase ops old new = (script : Script) (ranks size : ℕ) (begun : Moment) (processes : List ProcessView) (frames : List FrameView) (p : ℕ) → slice_get processes p ≡ Some old
    → IsUnderWay ops script ranks size begun phase processes frames → IsUnderWay ops script ranks size begun phase (set processes p new) frames

-- the same of a process whose node alone changes
abbrev pub KeepsNode : Phase → List Operation → (old new : NodeView) → Type 0
KeepsNode phase ops old new = (r : RankView Name) (s : SenderView) → Keeps phase ops (record { rank = r; node = old; sender = s }) (record { rank = r; node = new; sender = s })

-- the same of a process that is a rank, and goes on by itself
abbrev pub Moves : List Operation → (old new : ProcessView) → Type 0
Moves ops old new = (script : Script) (ranks size : ℕ) (begun : Moment) (processes : List ProcessView) (frames : List FrameView) (p : ℕ) → p < ranks → slice_get processes p ≡ Some old
    → IsUnderWay ops script ranks size begun Alone processes frames → IsUnderWay ops script ranks size begun Alone (set processes p new) frames
