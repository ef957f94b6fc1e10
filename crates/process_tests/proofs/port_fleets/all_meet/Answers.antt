use Rattle.std.proofs.Common.{◌∙◌, All, sym, subst}
use Rattle.std.proofs.lemmas.List.{take_at}
use Rattle.process_tests.specs.Homes.{IsHome}
use Rattle.process_tests.proofs.NewHomes.{at_home}
use Rattle.process_tests.proofs.port_fleets.all_meet.Goals as goal

pub go_on-did-requires-clause-homes : goal.go_on-did-requires-clause-homes
go_on-did-requires-clause-homes g c =
    subst (All (IsHome c.in_ok-bus.bus 8)) (sym c.as_mut_slice.ensures.value) (at_home c.in_ok-bus.bus 8 c.in_ok-bus.ports.items c.in_ok-bus.ensures.ports)

pub all_meet_with_sum-met-requires : goal.all_meet_with_sum-met-requires
all_meet_with_sum-met-requires g c =
    subst (All (IsHome c.in_ok-bus.bus 8)) (sym (take_at c.go_on-did.new.ports _ _ (c.go_on-did.auto.ports ∙ c.as_mut_slice.ensures.len))) c.go_on-did.ensures
