-- New ports.
use Rattle.std.specs.Prelude.{◌≡◌, ℕ, List, length, false}
use Rattle.atomic_table.specs.Seated.{TableId}
use Rattle.mpx_num.specs.declared.own.Operation.{Operation}
use Rattle.mpx_bus.specs.Ports.{PortView}
use Rattle.mpx_shared.specs.LawfulPorts.{IsLawful, made_in}

-- the port of this process at this queue, which has posted nothing, with these operations of the job's own and without a plan
pub record IsFresh (ops : List Operation) (table : TableId) (me : ℕ) (b : PortView) : Type 0 where
  pub lawful : IsLawful table b.setup me b
  pub none : length (made_in b) ≡ 0
  pub plan : b.setup.planned ≡ false
  pub list : ops ≡ b.setup.operations

-- the ports of ranks 0 and 1 of one bus
pub record ArePair (ops : List Operation) (table : TableId) (a b : PortView) : Type 0 where
  pub first : IsFresh ops table 0 a
  pub second : IsFresh ops table 1 b
  pub setup : b.setup ≡ a.setup
