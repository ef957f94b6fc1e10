use Rattle.std.proofs.Common.{List, map, subst}
use Rattle.mpx_node.specs.Shown.{node_of}
use Rattle.mpx_num.specs.declared.own.Operation.{Operation}
use Rattle.mpx_ranks.specs.Ranks.{HaveRun}
use Rattle.process_tests.proofs.Values.{gives_next, values_of}
use Rattle.process_tests.proofs.had.three_ranks.Goals as goal

pub returns : goal.returns
returns g c =
    let run = subst (λ (operations : List Operation). HaveRun gives_next operations 3 3 c.in_ok-ran.ran.answers.items (map node_of c.in_ok-ran.ran.nodes.items)) c.none-ops.ensures c.in_ok-ran.ensures.ran in
    values_of 3 c.in_ok-ran.ran.answers.items (map node_of c.in_ok-ran.ran.nodes.items) run
