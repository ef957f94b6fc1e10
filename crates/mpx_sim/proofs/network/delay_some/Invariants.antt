use Rattle.std.proofs.Common.{◌≡◌, ◌≤◌, ◌++◌, drop, length, map, Some, take, ℕ}
use Rattle.std.specs.Prelude.{slice_get}
use Rattle.mpx_sim.specs.declared.frame_under_way.FrameUnderWay.{FrameUnderWay}
use Rattle.mpx_sim.specs.Shown.{frames_of, part_of, schedule_of}
use Rattle.mpx_sim.specs.Turns.{all_put_off, drawn_again_for}
use Rattle.mpx_sim.proofs.network.delay_some.Given as goal

-- what comes of the frames that are left, behind those that were asked, is the same as of all of them
abbrev pub invariant-loop-i : goal.invariant-loop-i
invariant-loop-i l = record {
  parts : map part_of l.network.frames.items ≡ map part_of l.fn.network.frames.items;
  off : take l.i (frames_of l.network) ++ all_put_off l.fn.turn (drop l.i (frames_of l.fn.network)) (schedule_of l.network.schedule) ≡ all_put_off l.fn.turn (frames_of l.fn.network) (schedule_of l.fn.network.schedule);
  rest : (q : ℕ) (x : FrameUnderWay) → l.i ≤ q → slice_get l.network.frames.items q ≡ Some x → slice_get l.fn.network.frames.items q ≡ Some x;
  schedule : drawn_again_for l.fn.turn (drop l.i (frames_of l.fn.network)) (schedule_of l.network.schedule) ≡ drawn_again_for l.fn.turn (frames_of l.fn.network) (schedule_of l.fn.network.schedule);
  many : length l.network.frames.items ≡ length l.fn.network.frames.items;
}
