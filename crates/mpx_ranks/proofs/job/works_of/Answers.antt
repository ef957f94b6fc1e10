use Rattle.std.proofs.Common.{◌≡◌, ◌∷◌, ◌++◌, [], length, refl, rules, subst, sym}
use Rattle.mpx_bus.specs.Buses.{table_of}
use Rattle.mpx_ranks.specs.Works.{AreWorks}
use Rattle.mpx_ranks.proofs.Jobs.{one_work_more}
use Rattle.mpx_ranks.proofs.job.works_of.Goals as goal

pub loop-port-preserved : goal.loop-port-preserved
loop-port-preserved g c =
    let me : c.in-Ok.me ≡ length c.loop-port.works.items = search rules in
    subst (AreWorks c.args.program.now (table_of c.args.bus.now) c.args.ranks c.args.size (c.loop-port.yielded ++ c.in-Some.port ∷ [])) (sym c.in_ok-push.ensures.items)
    (one_work_more c.args.program.now (table_of c.args.bus.now) c.args.ranks c.args.size c.loop-port.yielded c.loop-port.works.items c.in-Some.port _ c.loop-port.invariant
    (record { program_is = refl; bus_is = refl; ranks_is = refl; size_is = refl; me_is = me; port_is = refl }))
