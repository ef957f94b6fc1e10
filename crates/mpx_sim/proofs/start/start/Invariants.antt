use Rattle.std.proofs.Common.{◌≡◌, ◌+◌, List, Some, ℕ, length, map}
use Rattle.std.specs.Prelude.{slice_get}
use Rattle.mpx_num.specs.declared.own.Operation.{Operation}
use Rattle.mpx_system.specs.Systems.{start_system}
use Rattle.mpx_sim.specs.Running.{IsAt, ProcessView}
use Rattle.mpx_sim.specs.Senders.{first_sender}
use Rattle.mpx_sim.specs.Shown.{process_of}
use Rattle.mpx_sim.specs.SideBySide.{AreReady}
use Rattle.mpx_sim.proofs.start.start.Given as goal

abbrev pub invariant-loop-me : goal.invariant-loop-me
invariant-loop-me l = record {
  ready : AreReady l.processes.items;
  count : length (map process_of l.processes.items) ≡ l.me;
  first : (p : ℕ) (v : ProcessView) → slice_get (map process_of l.processes.items) p ≡ Some v → v.sender ≡ first_sender;
  each : (ops : List Operation) (p : ℕ) (v : ProcessView) → slice_get (map process_of l.processes.items) p ≡ Some v → IsAt l.script.ranks (start_system ops l.script.statements l.script.ranks (l.script.ranks + l.relays)) p v;
}
