use Rattle.std.proofs.Common.{◌≡◌, length}
use Rattle.mpx_sim.specs.Draws.{all_below, powers_below}
use Rattle.mpx_sim.proofs.schedule.Schedule.new.Given as goal

abbrev pub invariant-loop-place : goal.invariant-loop-place
invariant-loop-place l = record {
  count : length l.shifts.items ≡ powers_below l.place l.processes;
  shifts : l.shifts.items ≡ all_below l.place l.processes;
}
