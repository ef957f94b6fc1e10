use Rattle.std.proofs.Common.{◌≡◌, map, suc, refl, sym, subst}
use Rattle.std.specs.Prelude.{IfOk, OnOk}
use Rattle.mpx_bus.specs.Buses.{table_of}
use Rattle.mpx_bus.specs.Meetings.{HaveAllMet}
use Rattle.mpx_bus.specs.Ports.{node_in}
use Rattle.mpx_node.specs.Shown.{node_of}
use Rattle.mpx_ranks.specs.Works.{AreOfBus}
use Rattle.mpx_ranks.proofs.Jobs.{first_and_others}
use Rattle.mpx_ranks.proofs.job.met.Goals as goal

pub meet_all-requires-clause-first : goal.meet_all-requires-clause-first
meet_all-requires-clause-first g c =
    let whole = first_and_others c.args.ports.items c.remove-first.new.self.items c.remove-first.result c.requires.some c.remove-first.ensures.value c.remove-first.ensures.items in
    let all = subst (AreOfBus g.N.Named.setup (table_of c.args.bus.now)) (sym whole) c.requires.ports in
    all 0 c.remove-first.result refl

pub meet_all-requires-clause-tables : goal.meet_all-requires-clause-tables
meet_all-requires-clause-tables g c i b e =
    let whole = first_and_others c.args.ports.items c.remove-first.new.self.items c.remove-first.result c.requires.some c.remove-first.ensures.value c.remove-first.ensures.items in
    let all = subst (AreOfBus g.N.Named.setup (table_of c.args.bus.now)) (sym whole) c.requires.ports in
    (all (suc i) b e).0

pub meet_all-requires-clause-setups : goal.meet_all-requires-clause-setups
meet_all-requires-clause-setups g c i b e =
    let whole = first_and_others c.args.ports.items c.remove-first.new.self.items c.remove-first.result c.requires.some c.remove-first.ensures.value c.remove-first.ensures.items in
    let all = subst (AreOfBus g.N.Named.setup (table_of c.args.bus.now)) (sym whole) c.requires.ports in
    (all (suc i) b e).1

pub returns-clause-nodes : goal.returns-clause-nodes
returns-clause-nodes g c =
    let whole = first_and_others c.args.ports.items c.remove-first.new.self.items c.remove-first.result c.requires.some c.remove-first.ensures.value c.remove-first.ensures.items in
    subst (λ ps. IfOk c.meet_all.result (λ nodes. map node_of nodes.items ≡ map node_in ps)) whole c.meet_all.ensures.nodes

pub returns-clause-history : goal.returns-clause-history
returns-clause-history g c =
    let whole = first_and_others c.args.ports.items c.remove-first.new.self.items c.remove-first.result c.requires.some c.remove-first.ensures.value c.remove-first.ensures.items in
    subst (λ ps. OnOk c.meet_all.result (HaveAllMet g.N.Named.setup ps)) whole c.meet_all.ensures.history
