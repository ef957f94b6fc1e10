-- What a harvest comes to.
use Rattle.std.specs.Prelude.{◌≡◌, ℕ, zero, suc, Bool, true, false, List, Option, Some, None, Result, Ok, Err}
use Rattle.join_core.specs.declared.memory.OutOfMemory.{OutOfMemory}
use Rattle.mpx_name.specs.Name.{Name}
use Rattle.mpx_num.specs.declared.own.Operation.{Operation}
use Rattle.mpx_node.specs.declared.node.Harvest.{Harvest}
use Rattle.mpx_node.specs.declared.node.Harvest.TheVariants.{Done, NotYet, NotOpened}
use Rattle.mpx_node.specs.declared.finished.Finished.{Finished}
use Rattle.mpx_node.specs.Nodes.{NodeView, add_result, children_on, front_on, next_result}

-- with these operations of the job's own
module _ (ops : List Operation) where
  -- done where there is a next result, and not yet where there is none; memory can be wanting only where there is one, and
  -- changes nothing
  abbrev pub HarvestsOpened : Name → Option Finished → Result Harvest OutOfMemory → NodeView → NodeView → Type 0
  HarvestsOpened name (Some finished) (Ok (Done call)) old new = (call ≡ front_on old name) × (new ≡ add_result name finished (children_on ops old.board name (front_on old name)) old)
  HarvestsOpened name (Some finished) (Ok NotYet) old new = ⊥
  HarvestsOpened name (Some finished) (Ok NotOpened) old new = ⊥
  HarvestsOpened name None (Ok (Done call)) old new = ⊥
  HarvestsOpened name None (Ok NotYet) old new = new ≡ old
  HarvestsOpened name None (Ok NotOpened) old new = ⊥
  HarvestsOpened name None (Err e) old new = ⊥
  HarvestsOpened name (Some finished) (Err e) old new = new ≡ old

  -- on a context that isn't opened, just that is answered
  abbrev pub Harvests : (is_opened : Bool) → Name → Option Finished → Result Harvest OutOfMemory → NodeView → NodeView → Type 0
  Harvests false name next result old new = (result ≡ Ok NotOpened) × (new ≡ old)
  Harvests true name next result old new = HarvestsOpened name next result old new

  -- what a harvest on a context leaves that memory serves: where there is a next result, it is stored
  abbrev pub with_next : Option Finished → Name → NodeView → NodeView
  with_next None name node = node
  with_next (Some finished) name node = add_result name finished (children_on ops node.board name (front_on node name)) node

  -- what so many of them leave, one after the other
  abbrev pub harvested : ℕ → Name → NodeView → NodeView
  harvested zero name node = node
  harvested (suc n) name node = with_next (next_result ops (harvested n name node) name) name (harvested n name node)
