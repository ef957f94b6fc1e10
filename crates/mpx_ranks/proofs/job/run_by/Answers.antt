use Rattle.std.proofs.Common.{◌+◌, refl, arith, subst, sym, ◌∙◌}
use Rattle.mpx_bus.specs.Buses.{table_of}
use Rattle.mpx_bus.specs.declared.act.Setup.{Setup}
use Rattle.mpx_bus.specs.Ports.{IsFleet}
use Rattle.mpx_ranks.proofs.Jobs.{counted, of_bus, ran_so, ready_at}
use Rattle.mpx_ranks.specs.Ranks.{AreQuitters}
use Rattle.mpx_ranks.proofs.job.run_by.Goals as goal

pub all_at_once-requires-after_bounds : goal.all_at_once-requires-after_bounds
all_at_once-requires-after_bounds g c κs within =
    let size = c.args.ranks + c.args.relays in
    let table = table_of c.in_ok-bus.bus in
    let fleet = subst (λ (s : Setup). IsFleet s table size c.in_ok-bus.ports.items) c.requires.setup c.in_ok-bus.ensures.ports in
    ready_at g.P.Program.gives g.P.Program.has_given_up g.K.Job.gave_up c.args.program.now _ c.args.ranks size table c.in_ok-bus.ports.items c.in_ok-works.works.items (let few = c.requires.few in omega (arith, few)) fleet c.in_ok-works.ensures
    (subst (λ (s : Setup). AreQuitters (g.P.Program.gives c.args.program.now) (g.P.Program.has_given_up c.args.program.now) s g.K.Job.gave_up) c.requires.setup c.requires.quitters)

pub told_of-requires-clause-some : goal.told_of-requires-clause-some
told_of-requires-clause-some g c =
    let size = c.args.ranks + c.args.relays in
    let table = table_of c.in_ok-bus.bus in
    let fleet = subst (λ (s : Setup). IsFleet s table size c.in_ok-bus.ports.items) c.requires.setup c.in_ok-bus.ensures.ports in
    let n = counted g.P.Program.gives c.args.program.now _ c.args.ranks size table c.in_ok-bus.ports.items c.in_ok-works.works.items c.in_ok-worked.worked.items fleet c.in_ok-works.ensures c.in_ok-worked.ensures in
    let some = c.requires.some in
    omega (arith, n, some)

pub told_of-requires-clause-ports : goal.told_of-requires-clause-ports
told_of-requires-clause-ports g c =
    let size = c.args.ranks + c.args.relays in
    let table = table_of c.in_ok-bus.bus in
    let fleet = subst (λ (s : Setup). IsFleet s table size c.in_ok-bus.ports.items) c.requires.setup c.in_ok-bus.ensures.ports in
    let all = of_bus g.P.Program.gives c.args.program.now _ c.args.ranks size table c.in_ok-bus.ports.items c.in_ok-works.works.items c.in_ok-worked.worked.items fleet c.in_ok-works.ensures c.in_ok-worked.ensures in
    λ i b e. let x = all i b e in (x.0, x.1 ∙ sym c.requires.setup)

pub returns : goal.returns
returns g c =
    let size = c.args.ranks + c.args.relays in
    let table = table_of c.in_ok-bus.bus in
    let fleet = subst (λ (s : Setup). IsFleet s table size c.in_ok-bus.ports.items) c.requires.setup c.in_ok-bus.ensures.ports in
    ran_so g.P.Program.gives c.args.program.now _ c.args.ranks size table c.in_ok-bus.ports.items c.in_ok-works.works.items c.in_ok-worked.worked.items fleet c.in_ok-works.ensures c.in_ok-worked.ensures
    (omega arith) g.N.Named.setup c.requires.setup c.told_of.result c.told_of.ensures.answers c.told_of.ensures.nodes c.told_of.ensures.history
