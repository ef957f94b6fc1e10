use Rattle.mpx_graph.proofs.Graphs.{graph-more}
use Rattle.mpx_graph.proofs.topologies.put.Goals as goal

pub returns-clause-graph : goal.returns-clause-graph
returns-clause-graph c = λ before is.
    rw (c.from.ensures, c.from-2.ensures)
    (graph-more _ before c.args.edge c.requires.source c.requires.destination _ c.index_mut.result.now _ c.index_mut-2.result.now _ is
    (rw c.from.ensures at c.index_mut.ensures.value) c.in_ok-add_destination.ensures.ok
    (rw (c.from.ensures, c.from-2.ensures) at c.index_mut-2.ensures.value) c.in_ok-add_source.ensures.ok)
