-- The work of all processes of a job.
use Rattle.std.specs.Prelude.{◌≡◌, ℕ, List, Option, Some, length, slice_get}
use Rattle.atomic_table.specs.Seated.{TableId}
use Rattle.mpx_bus.specs.Buses.{table_of}
use Rattle.mpx_bus.specs.declared.act.Setup.{Setup}
use Rattle.mpx_bus.specs.Ports.{PortView}
use Rattle.std.specs.declared.sync.ledger.Ledger.{Ghosts as LedgerOf}
use Rattle.mpx_ranks.specs.declared.crew.Job.{Ghosts as JobOf}
use Rattle.mpx_ranks.specs.declared.work.Work.{Work}
use Rattle.mpx_ranks.specs.declared.work.Worked.{Worked}

-- each has a place at the queue, under what all agree on
abbrev pub AreOfBus : Setup → TableId → List PortView → Type 0
AreOfBus setup table ports = (i : ℕ) (b : PortView) → slice_get ports i ≡ Some b → (b.table ≡ table) × (b.setup ≡ setup)

-- the work of one process, at this place, with this port
pub record IsWork {K P R : Type 0} {job : JobOf K} {ledger : LedgerOf K} (program : P) (table : TableId) (ranks size me : ℕ) (port : PortView) (work : Work K P R job ledger) : Type 0 where
  pub program_is : work.program.now ≡ program
  pub bus_is : table_of work.bus.now ≡ table
  pub ranks_is : work.ranks ≡ ranks
  pub size_is : work.size ≡ size
  pub me_is : work.me ≡ me
  pub port_is : work.port ≡ port

-- one for each port, in their order
pub record AreWorks {K P R : Type 0} {job : JobOf K} {ledger : LedgerOf K} (program : P) (table : TableId) (ranks size : ℕ) (ports : List PortView) (works : List (Work K P R job ledger)) : Type 0 where
  pub count : length works ≡ length ports
  pub each : (i : ℕ) (port : PortView) (work : Work K P R job ledger) → slice_get ports i ≡ Some port → slice_get works i ≡ Some work → IsWork program table ranks size i port work

abbrev pub answer_of : {A : Type 0} → Worked A → Option A
answer_of worked = worked.answer

abbrev pub port_of : {A : Type 0} → Worked A → PortView
port_of worked = worked.port
