-- The ports of a new bus are at home there.
use Rattle.std.proofs.Common.{◌≡◌, ℕ, List, All, Some, get_or, slice_get, sym, ap, subst}
use Rattle.std.proofs.lemmas.Option.{get_or_from_slice_get, slice_get-get_or, slice_get_within}
use Rattle.mpx_bus.specs.declared.act.Setup.{Setup}
use Rattle.mpx_bus.specs.declared.port.Bus.{Bus}
use Rattle.mpx_bus.specs.Ports.{PortView, IsFleet}
use Rattle.mpx_bus.specs.Buses.{table_of}
use Rattle.process_tests.specs.Homes.{IsHome, ranks_alone}

pub at_home : (bus : Bus) (ranks : ℕ) (ports : List PortView) → IsFleet (ranks_alone ranks) (table_of bus) ranks ports → All (IsHome bus ranks) ports
at_home bus ranks ports fleet k d lt =
    let new = fleet.each k (get_or ports k d) (slice_get-get_or ports k d lt) in
    record {
      table = new.table_is;
      setup_is = new.setup_is;
      plan = ap (λ (s : Setup). s.planned) new.setup_is;
      list = sym (ap (λ (s : Setup). s.operations) new.setup_is);
    }

-- what is so of all is so of the one at a place
pub home_at : (bus : Bus) (ranks : ℕ) (ports : List PortView) → All (IsHome bus ranks) ports → (i : ℕ) (b : PortView) → slice_get ports i ≡ Some b → IsHome bus ranks b
home_at bus ranks ports all i b there = subst (IsHome bus ranks) (get_or_from_slice_get ports i b b there) (all i b (slice_get_within ports i b there))
