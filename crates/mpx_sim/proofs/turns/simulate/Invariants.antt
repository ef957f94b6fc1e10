use Rattle.std.proofs.Common.{◌≡◌, map, length, ◌<◌, ◌≤◌, ◌+◌}
use Rattle.mpx_num.specs.Own.{operation_of}
use Rattle.mpx_sim.specs.Draws.{first_schedule}
use Rattle.mpx_sim.specs.Running.{IsUnderWay}
use Rattle.mpx_sim.specs.Turns.{Alone, AreTurns, Moment, first_moment}
use Rattle.mpx_sim.specs.Shown.{frames_of, process_of, schedule_of}
use Rattle.mpx_sim.specs.SideBySide.{AreReady}
use Rattle.mpx_sim.proofs.turns.simulate.Given as goal

abbrev pub invariant-loop-number : goal.invariant-loop-number
invariant-loop-number g l = record {
  count : l.script.ranks ≤ length l.processes.items;
  loss : l.network.schedule.loss ≡ l.options.loss;
  ready : l.number < l.options.turns → AreReady l.processes.items;
  run : (begun : Moment)
      × AreTurns l.number l.script.ranks (l.script.ranks + l.options.relays) (first_moment (map (λ b. let o = goal.OwnOp-dyn g (b.vtable, b.value) in operation_of (o.word_bytes b.value) (o.fits_type b.value) (o.combination b.value)) l.ops.list.items) l.script.statements l.script.ranks (l.script.ranks + l.options.relays) (first_schedule (l.script.ranks + l.options.relays) l.options.seed l.options.loss)) begun
      × IsUnderWay (map (λ b. let o = goal.OwnOp-dyn g (b.vtable, b.value) in operation_of (o.word_bytes b.value) (o.fits_type b.value) (o.combination b.value)) l.ops.list.items) l.script.statements l.script.ranks (l.script.ranks + l.options.relays) begun Alone (map process_of l.processes.items) begun.frames
      × (l.number < l.options.turns → (begun.frames ≡ frames_of l.network) × (begun.schedule ≡ schedule_of l.network.schedule));
}
