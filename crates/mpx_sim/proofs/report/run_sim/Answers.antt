use Rattle.std.proofs.Common.{◌≡◌, ap, sym, ◌∙◌, arith, inl, inr, map, take}
use Rattle.mpx_node.specs.Shown.{node_of}
use Rattle.mpx_meaning.specs.Ends.{end_view, waiting_among}
use Rattle.mpx_rank.specs.Places.{end_of_rank}
use Rattle.mpx_sim.specs.Running.{ProcessView}
use Rattle.mpx_sim.specs.Shown.{process_of}
use Rattle.mpx_system.proofs.Results.{map_taken}
use Rattle.mpx_sim.proofs.Results.{all_said, begin_said, is_after, over_said, run_said, whole_said}
use Rattle.mpx_sim.proofs.report.run_sim.Goals as goal

pub returns-in-Ok-clause-run : goal.returns-in-Ok-clause-run
returns-in-Ok-clause-run g c =
    let ran = c.in_ok-processes.ensures.run in
    let processes = map process_of c.in_ok-processes.processes.items in
    let report = c.in-Ok.report in
    let ends : map end_view report.ends.items ≡ take c.ranks-ranks.result (map (λ (v : ProcessView). end_of_rank v.rank) processes) = ap (λ v. map end_view v.items) c.in-Ok.ensures.ends ∙ ap (map end_view) c.truncate.ensures.items ∙ map_taken end_view c.ranks-ranks.result c.in_ok-ends.ends.items ∙ ap (take c.ranks-ranks.result) c.in_ok-ends.ensures.ends in
    let waiting : report.waiting.items ≡ waiting_among (map end_view report.ends.items) = c.in-Ok.ensures.waiting ∙ ap (λ v. waiting_among (map end_view v.items)) (sym c.in-Ok.ensures.ends) in
    run_said _ c.args.script.now c.args.options.now.relays c.ranks-ranks.result c.ranks-ranks.ensures.ranks ran.begun processes ran.frames ran.run (map node_of c.in_ok-ends.nodes.items) report.ends.items report.waiting.items c.in_ok-ends.ensures.nodes ends waiting

pub returns-in-Ok-clause-begins : goal.returns-in-Ok-clause-begins
returns-in-Ok-clause-begins g c =
    let ran = c.in_ok-processes.ensures.run in
    let processes = map process_of c.in_ok-processes.processes.items in
    let report = c.in-Ok.report in
    let ends : map end_view report.ends.items ≡ take c.ranks-ranks.result (map (λ (v : ProcessView). end_of_rank v.rank) processes) = ap (λ v. map end_view v.items) c.in-Ok.ensures.ends ∙ ap (map end_view) c.truncate.ensures.items ∙ map_taken end_view c.ranks-ranks.result c.in_ok-ends.ends.items ∙ ap (take c.ranks-ranks.result) c.in_ok-ends.ensures.ends in
    let waiting : report.waiting.items ≡ waiting_among (map end_view report.ends.items) = c.in-Ok.ensures.waiting ∙ ap (λ v. waiting_among (map end_view v.items)) (sym c.in-Ok.ensures.ends) in
    begin_said _ c.args.script.now c.args.options.now.relays c.ranks-ranks.result c.ranks-ranks.ensures.ranks ran.begun processes ran.frames ran.run (map node_of c.in_ok-ends.nodes.items) report.ends.items report.waiting.items c.in_ok-ends.ensures.nodes ends waiting

pub returns-in-Ok-clause-whole : goal.returns-in-Ok-clause-whole
returns-in-Ok-clause-whole g c =
    let ran = c.in_ok-processes.ensures.run in
    let processes = map process_of c.in_ok-processes.processes.items in
    let report = c.in-Ok.report in
    let ends : map end_view report.ends.items ≡ take c.ranks-ranks.result (map (λ (v : ProcessView). end_of_rank v.rank) processes) = ap (λ v. map end_view v.items) c.in-Ok.ensures.ends ∙ ap (map end_view) c.truncate.ensures.items ∙ map_taken end_view c.ranks-ranks.result c.in_ok-ends.ends.items ∙ ap (take c.ranks-ranks.result) c.in_ok-ends.ensures.ends in
    let waiting : report.waiting.items ≡ waiting_among (map end_view report.ends.items) = c.in-Ok.ensures.waiting ∙ ap (λ v. waiting_among (map end_view v.items)) (sym c.in-Ok.ensures.ends) in
    whole_said _ c.args.script.now c.args.options.now.relays c.ranks-ranks.result c.ranks-ranks.ensures.ranks ran.begun processes ran.frames ran.run (map node_of c.in_ok-ends.nodes.items) report.ends.items report.waiting.items c.in_ok-ends.ensures.nodes ends waiting

pub returns-in-Ok-clause-ended : goal.returns-in-Ok-clause-ended
returns-in-Ok-clause-ended g c =
    let ran = c.in_ok-processes.ensures.run in
    let processes = map process_of c.in_ok-processes.processes.items in
    let report = c.in-Ok.report in
    let ends : map end_view report.ends.items ≡ take c.ranks-ranks.result (map (λ (v : ProcessView). end_of_rank v.rank) processes) = ap (λ v. map end_view v.items) c.in-Ok.ensures.ends ∙ ap (map end_view) c.truncate.ensures.items ∙ map_taken end_view c.ranks-ranks.result c.in_ok-ends.ends.items ∙ ap (take c.ranks-ranks.result) c.in_ok-ends.ensures.ends in
    let waiting : report.waiting.items ≡ waiting_among (map end_view report.ends.items) = c.in-Ok.ensures.waiting ∙ ap (λ v. waiting_among (map end_view v.items)) (sym c.in-Ok.ensures.ends) in
    elim c.in_ok-processes.ensures.ended [
      | inl all ↦ inl all
      | inr rest ↦ inr (rest.0, over_said _ c.args.script.now c.args.options.now.relays c.ranks-ranks.result c.ranks-ranks.ensures.ranks ran.begun processes ran.frames ran.run (map node_of c.in_ok-ends.nodes.items) report.ends.items report.waiting.items c.in_ok-ends.ensures.nodes ends waiting c.args.options.now.loss rest.1)
    ]

pub returns-in-Ok-clause-rests : goal.returns-in-Ok-clause-rests
returns-in-Ok-clause-rests g c less some_come e is =
    let ran = c.in_ok-processes.ensures.run in
    let processes = map process_of c.in_ok-processes.processes.items in
    let report = c.in-Ok.report in
    let ends : map end_view report.ends.items ≡ take c.ranks-ranks.result (map (λ (v : ProcessView). end_of_rank v.rank) processes) = ap (λ v. map end_view v.items) c.in-Ok.ensures.ends ∙ ap (map end_view) c.truncate.ensures.items ∙ map_taken end_view c.ranks-ranks.result c.in_ok-ends.ends.items ∙ ap (take c.ranks-ranks.result) c.in_ok-ends.ensures.ends in
    let waiting : report.waiting.items ≡ waiting_among (map end_view report.ends.items) = c.in-Ok.ensures.waiting ∙ ap (λ v. waiting_among (map end_view v.items)) (sym c.in-Ok.ensures.ends) in
    elim c.in_ok-processes.ensures.ended [
      | inl all ↦ absurd (omega (arith, all, less))
      | inr rest ↦ all_said _ c.args.script.now c.args.options.now.relays c.ranks-ranks.result c.ranks-ranks.ensures.ranks ran.begun processes ran.frames ran.run (map node_of c.in_ok-ends.nodes.items) report.ends.items report.waiting.items c.in_ok-ends.ensures.nodes ends waiting c.args.options.now.loss some_come (omega (arith, c.ranks-ranks.ensures.each_rank, c.ranks-ranks.ensures.ranks)) rest.1 e is
    ]

pub returns-in-Ok-clause-turns : goal.returns-in-Ok-clause-turns
returns-in-Ok-clause-turns g c =
    let ran = c.in_ok-processes.ensures.run in
    is_after _ c.args.script.now c.args.options.now.relays ran.begun (map process_of c.in_ok-processes.processes.items) ran.frames ran.run (map node_of c.in_ok-ends.nodes.items) c.in_ok-ends.ensures.nodes c.args.options.now.seed c.args.options.now.loss c.in_ok-processes.turns ran.made
