use Rattle.std.proofs.Common.{◌≡◌, ◌+◌, ◌∙◌, ℕ, List, ap, map, subst, sym, take}
use Rattle.std.specs.Prelude.{slice_get}
use Rattle.mpx_bus.specs.Buses.{table_of}
use Rattle.mpx_meaning.specs.Ends.{end_view, waiting_among}
use Rattle.mpx_threads.specs.declared.worker.Worked.{Worked}
use Rattle.mpx_threads.specs.Rest.{HaveComeToRest}
use Rattle.mpx_threads.specs.Work.{gossip_at}
use Rattle.mpx_threads.proofs.Jobs.{gave_up_among, if_err}
use Rattle.mpx_threads.proofs.Reporting.{all_lent, begins_lent, run_lent, whole_lent}
use Rattle.mpx_threads.proofs.run.run_threads.Goals as goal

pub returns-in_err-none_gave_up-clause-gate : goal.returns-in_err-none_gave_up-clause-gate
returns-in_err-none_gave_up-clause-gate g c =
    let ws = c.in_ok-worked.worked.items in
    let gave = c.in_err-none_gave_up.ensures.err.1 in
    if_err c.from_residual-in_err-none_gave_up.result (λ e is. gave_up_among (g.G.Gate.gives_up c.args.gate.now) (c.args.script.now.ranks + c.args.options.now.relays) c.args.options.now.turns ws
    c.in_ok-worked.ensures.gate c.in_ok-worked.ensures.worked.1.0.count gave.0 (ap (λ xs. gossip_at (slice_get xs gave.0)) (sym c.as_slice.ensures.value) ∙ gave.1))

pub returns-clause-run : goal.returns-clause-run
returns-clause-run g c =
    let script = c.args.script.now in
    let made = c.in_ok-worked.ensures.worked in
    let ws = c.in_ok-worked.worked.items in
    let report = c.in_ok-report.report in
    let ends : report.ends.items ≡ take script.ranks (map (λ (w : Worked). w.end) ws) = ap (λ v. v.items) c.in_ok-report.ensures.ends ∙ c.truncate.ensures.items ∙ ap (take c.ranks-2.result) c.in_ok-ends.ensures.ends ∙ ap (λ n. take n (map (λ (w : Worked). w.end) ws)) c.ranks-2.ensures.ranks in
    let waiting : report.waiting.items ≡ waiting_among (map end_view report.ends.items) = c.in_ok-report.ensures.waiting ∙ ap (λ v. waiting_among (map end_view v.items)) (sym c.in_ok-report.ensures.ends) in
    run_lent _ script c.args.options.now.relays made.0 (table_of c.in_ok-bus.bus) ws made.1.0 made.1.1 c.in_ok-ends.ports.items report.ends.items report.waiting.items c.in_ok-ends.ensures.ports ends waiting c.are_at_rest-rests.result
    (λ so. subst (λ (x : ℕ × List Worked). HaveComeToRest x.0 x.1) (λ i. (c.ranks.ensures.ranks i, c.as_slice-2.ensures.value i)) (c.are_at_rest-rests.ensures.yes so))
    (λ so rest. c.are_at_rest-rests.ensures.no so (subst (λ (x : ℕ × List Worked). HaveComeToRest x.0 x.1) (λ i. (sym c.ranks.ensures.ranks i, sym c.as_slice-2.ensures.value i)) rest))

pub returns-clause-begins : goal.returns-clause-begins
returns-clause-begins g c =
    let script = c.args.script.now in
    let made = c.in_ok-worked.ensures.worked in
    let ws = c.in_ok-worked.worked.items in
    let report = c.in_ok-report.report in
    let ends : report.ends.items ≡ take script.ranks (map (λ (w : Worked). w.end) ws) = ap (λ v. v.items) c.in_ok-report.ensures.ends ∙ c.truncate.ensures.items ∙ ap (take c.ranks-2.result) c.in_ok-ends.ensures.ends ∙ ap (λ n. take n (map (λ (w : Worked). w.end) ws)) c.ranks-2.ensures.ranks in
    let waiting : report.waiting.items ≡ waiting_among (map end_view report.ends.items) = c.in_ok-report.ensures.waiting ∙ ap (λ v. waiting_among (map end_view v.items)) (sym c.in_ok-report.ensures.ends) in
    begins_lent _ script c.args.options.now.relays made.0 (table_of c.in_ok-bus.bus) ws made.1.0 made.1.1 c.in_ok-ends.ports.items report.ends.items report.waiting.items c.in_ok-ends.ensures.ports ends waiting

pub returns-clause-whole : goal.returns-clause-whole
returns-clause-whole g c =
    let script = c.args.script.now in
    let made = c.in_ok-worked.ensures.worked in
    let ws = c.in_ok-worked.worked.items in
    let report = c.in_ok-report.report in
    let ends : report.ends.items ≡ take script.ranks (map (λ (w : Worked). w.end) ws) = ap (λ v. v.items) c.in_ok-report.ensures.ends ∙ c.truncate.ensures.items ∙ ap (take c.ranks-2.result) c.in_ok-ends.ensures.ends ∙ ap (λ n. take n (map (λ (w : Worked). w.end) ws)) c.ranks-2.ensures.ranks in
    let waiting : report.waiting.items ≡ waiting_among (map end_view report.ends.items) = c.in_ok-report.ensures.waiting ∙ ap (λ v. waiting_among (map end_view v.items)) (sym c.in_ok-report.ensures.ends) in
    whole_lent _ script c.args.options.now.relays made.0 (table_of c.in_ok-bus.bus) ws made.1.0 made.1.1 c.in_ok-ends.ports.items report.ends.items report.waiting.items c.in_ok-ends.ensures.ports ends waiting

pub returns-clause-rests : goal.returns-clause-rests
returns-clause-rests g c so evaluation is =
    let script = c.args.script.now in
    let made = c.in_ok-worked.ensures.worked in
    let ws = c.in_ok-worked.worked.items in
    let report = c.in_ok-report.report in
    let ends : report.ends.items ≡ take script.ranks (map (λ (w : Worked). w.end) ws) = ap (λ v. v.items) c.in_ok-report.ensures.ends ∙ c.truncate.ensures.items ∙ ap (take c.ranks-2.result) c.in_ok-ends.ensures.ends ∙ ap (λ n. take n (map (λ (w : Worked). w.end) ws)) c.ranks-2.ensures.ranks in
    let waiting : report.waiting.items ≡ waiting_among (map end_view report.ends.items) = c.in_ok-report.ensures.waiting ∙ ap (λ v. waiting_among (map end_view v.items)) (sym c.in_ok-report.ensures.ends) in
    let rest = subst (λ (x : ℕ × List Worked). HaveComeToRest x.0 x.1) (λ i. (c.ranks.ensures.ranks i, c.as_slice-2.ensures.value i)) (c.are_at_rest-rests.ensures.yes so) in
    all_lent _ script c.args.options.now.relays made.0 (table_of c.in_ok-bus.bus) ws made.1.0 made.1.1 c.in_ok-ends.ports.items report.ends.items report.waiting.items c.in_ok-ends.ensures.ports ends waiting rest evaluation is
