use Rattle.std.proofs.Common.{◌≡◌, ◌<◌, length, map, rules, take, sym, ap, ◌∙◌, subst}
use Rattle.std.proofs.lemmas.List.{length-map}
use Rattle.mpx_bus.specs.Buses.{table_of}
use Rattle.mpx_bus.specs.Meetings.{HaveAllMet}
use Rattle.mpx_bus.specs.Ports.{node_in}
use Rattle.mpx_ranks.specs.Works.{AreOfBus, answer_of, port_of}
use Rattle.mpx_ranks.proofs.job.told_of.Goals as goal

pub met-requires-clause-some : goal.met-requires-clause-some
met-requires-clause-some g c = subst (λ n. 0 < n) (sym (ap length c.in_ok-said.ensures.ports ∙ length-map c.args.worked.items port_of)) c.requires.some

pub met-requires-clause-ports : goal.met-requires-clause-ports
met-requires-clause-ports g c = subst (AreOfBus g.N.Named.setup (table_of c.args.bus.now)) (sym c.in_ok-said.ensures.ports) c.requires.ports

pub returns-clause-answers : goal.returns-clause-answers
returns-clause-answers g c =
    let count : c.from.result ≡ c.args.ranks = search rules in
    c.in_ok-answers.ensures ∙ c.truncate.ensures.items ∙ ap (take c.from.result) c.in_ok-said.ensures.answers ∙ ap (λ n. take n (map answer_of c.args.worked.items)) count

pub returns-clause-nodes : goal.returns-clause-nodes
returns-clause-nodes g c = c.in_ok-nodes.ensures.nodes ∙ ap (map node_in) c.in_ok-said.ensures.ports

pub returns-clause-history : goal.returns-clause-history
returns-clause-history g c = subst (HaveAllMet g.N.Named.setup) c.in_ok-said.ensures.ports c.in_ok-nodes.ensures.history
