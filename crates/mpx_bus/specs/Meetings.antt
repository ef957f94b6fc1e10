-- Ports that meet.
use Rattle.std.specs.Prelude.{◌≡◌, ℕ, List, Some, slice_get}
use Rattle.mpx_world.specs.Worlds.{Happening, MayGoOn}
use Rattle.mpx_world.specs.Soundness.{Sound}
use Rattle.mpx_bus.specs.declared.act.Setup.{Setup}
use Rattle.mpx_bus.specs.Acts.{start_of}
use Rattle.mpx_bus.specs.Ports.{PortView, process_in}
use Rattle.mpx_bus.specs.Rule.{world_of}

-- all that these ports did is of one sound world, and they are different processes of it
pub record HaveAllMet (setup : Setup) (ports : List PortView) : Type 0 where
  pub happenings : List Happening
  pub may : MayGoOn (start_of setup) happenings
  pub each : (i : ℕ) (b : PortView) → slice_get ports i ≡ Some b → (world_of setup happenings).each b.me ≡ process_in b
  pub apart : (i j : ℕ) (a b : PortView) → slice_get ports i ≡ Some a → slice_get ports j ≡ Some b → a.me ≡ b.me → i ≡ j
  pub sound : Sound (world_of setup happenings)
