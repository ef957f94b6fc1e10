-- What the program's processes show.
use Rattle.std.specs.Prelude.{ℕ, List, map, Result, Ok, Err}
use Rattle.mpx_board.specs.Boards.{Look}
use Rattle.mpx_format.specs.Decoding.{decoded}
pub use Rattle.mpx_format.specs.Decoding.{shown}
use Rattle.mpx_name.specs.Name.{Name}
use Rattle.mpx_post.specs.declared.draft.PostError.{PostError}
use Rattle.mpx_node.specs.Shown.{node_of}
use Rattle.mpx_request.specs.declared.request.Request.{Request}
use Rattle.mpx_rank.specs.Shown.{rank_of}
use Rattle.mpx_system.specs.Systems.{System}
use Rattle.mpx_sim.specs.declared.frame_under_way.FrameUnderWay.{FrameUnderWay}
use Rattle.mpx_sim.specs.declared.network.Network.{Network}
use Rattle.mpx_sim.specs.declared.process.Process.{Process}
use Rattle.mpx_sim.specs.declared.schedule.Schedule.{Schedule}
use Rattle.mpx_sim.specs.declared.sender.Sender.{Sender}
use Rattle.mpx_sim.specs.Senders.{SenderView}
use Rattle.mpx_sim.specs.Draws.{ScheduleView}
use Rattle.mpx_sim.specs.Turns.{FrameView, Moment}
use Rattle.mpx_sim.specs.Running.{ProcessView}

abbrev pub call_of : Request → Name × ℕ
call_of request = (request.name, request.call)

-- the call that was posted, where it was accepted
abbrev pub call_in : Result Request PostError → Result (Name × ℕ) PostError
call_in (Ok request) = Ok (call_of request)
call_in (Err refusal) = Err refusal

-- how far it has come with sending
abbrev pub sender_of : Sender → SenderView
sender_of s = record { place = s.place; out = s.out }

abbrev pub process_of : Process → ProcessView
process_of p = record { rank = rank_of call_of p.rank; node = node_of p.carrier.desk.host; sender = sender_of p.sender }

-- the board that a frame's bytes spell
abbrev pub part_of : FrameUnderWay → Look
part_of f = shown (decoded f.bytes)

-- a frame
abbrev pub frame_of : FrameUnderWay → FrameView
frame_of f = record { from = f.from; to = f.to; turn = f.turn; part = part_of f }

-- how many of a hundred frames are lost, the generator, and the shifts
abbrev pub schedule_of : Schedule → ScheduleView
schedule_of s = record { loss = s.loss; draws = s.words; shifts = s.shifts.items }

-- the frames that are under way
abbrev pub frames_of : Network → List FrameView
frames_of n = map frame_of n.frames.items

-- the system, with what is under way there, the schedule, and how far processes have come with sending
abbrev pub moment_of : System → Network → (ℕ → SenderView) → Moment
moment_of system n senders = record { system = system; frames = frames_of n; schedule = schedule_of n.schedule; senders = senders }
