use Rattle.std.proofs.Common.{◌∙◌, pos}
use Rattle.mpx_post.specs.Drafts.{is_edge, edge_of}
use Rattle.mpx_post.proofs.Lists.{all_at, map_all, map_pushed}
use Rattle.mpx_post.proofs.graph_fields.edge_list.Goals as goal

pub given_edge-requires : goal.given_edge-requires
given_edge-requires c = all_at (is_edge 64 c.args.weighted) c.args.edges.now c.loop-edge.edge-index (record { source = pos 0; destination = pos 0; weight = pos 0 }) c.loop-edge-test.true c.requires

pub loop-edge-preserved : goal.loop-edge-preserved
loop-edge-preserved c = map_pushed (edge_of c.args.weighted) c.args.edges.now c.loop-edge.edge-index (record { source = pos 0; destination = pos 0; weight = pos 0 }) c.loop-edge-test.true _ _ _ c.loop-edge.invariant c.in_ok-push.ensures.items c.given_edge.ensures

pub returns : goal.returns
returns c = c.loop-edge.invariant ∙ map_all (edge_of c.args.weighted) c.args.edges.now c.loop-edge.edge-index c.loop-edge-test.false
