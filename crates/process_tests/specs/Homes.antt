-- Ports of one bus, without a plan.
use Rattle.std.specs.Prelude.{◌≡◌, ℕ, false, []}
use Rattle.mpx_bus.specs.declared.act.Setup.{Setup}
use Rattle.mpx_bus.specs.declared.port.Bus.{Bus}
use Rattle.mpx_bus.specs.Ports.{PortView}
use Rattle.mpx_bus.specs.Buses.{table_of}

-- so many ranks, which are all processes, without operations of the job's own and a plan
abbrev pub ranks_alone : ℕ → Setup
ranks_alone ranks = record { ranks = ranks; size = ranks; operations = []; planned = false; plan = [] }

-- the port is of this bus, whose ports are those of so many ranks alone
pub record IsHome (bus : Bus) (ranks : ℕ) (b : PortView) : Type 0 where
  pub table : b.table ≡ table_of bus
  pub setup_is : b.setup ≡ ranks_alone ranks
  pub plan : b.setup.planned ≡ false
  pub list : [] ≡ b.setup.operations
