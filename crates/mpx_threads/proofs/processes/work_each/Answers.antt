use Rattle.std.proofs.Common.{◌≡◌, arith, length}
use Rattle.std.proofs.lemmas.Result.{IfOk-weaker}
use denote.Param.Send.{sendable}
use Rattle.mpx_bus.specs.Buses.{table_of}
use Rattle.mpx_threads.proofs.Jobs.{given_up_all, list_at, read_at, ready_at, worked_all}
use Rattle.mpx_threads.proofs.processes.work_each.Goals as goal

pub map_at_once-requires-after_bounds : goal.map_at_once-requires-after_bounds
map_at_once-requires-after_bounds g c κs within = λ i x l e.
    let script = c.args.script.now in
    let bench = c.args.bench.now in
    let ready = c.requires.ready in
    let at = read_at c.args.jobs.items i x l e in
    ((ready_at script bench.relays ready.0 (table_of bench.bus.now) c.args.jobs.items ready.1.0 i x at, (c.requires.ranks, (c.requires.few, list_at _ script bench.relays ready.0 (table_of bench.bus.now) c.args.jobs.items ready.1.0 ready.1.1 i x at))), (search sendable depth 20, search sendable depth 20))

pub returns : goal.returns
returns g c =
    let script = c.args.script.now in
    let bench = c.args.bench.now in
    let relays = bench.relays in
    let table = table_of bench.bus.now in
    let jobs = c.args.jobs.items in
    let rs = c.in_ok-worked.worked.items in
    let ready = c.requires.ready in
    let count : length rs ≡ length jobs = omega (arith, c.in_ok-worked.ensures.len, c.in_ok-worked.worked.ok.0, c.args.jobs.ok.0) in
    record {
      worked = IfOk-weaker c.all_worked.result _ _
          (λ ws all. (
            ready.0,
            (
              worked_all script relays ready.0 table jobs rs ws.items ready.1.0 count
                  (λ i d l. let gives = c.in_ok-worked.ensures.each i d l in (gives.1.job, (gives.1.job_read, gives.1.call.met.0))) all,
              ready.1.1,
            ),
          ))
          c.all_worked.ensures;
      gate = IfOk-weaker c.all_worked.result _ _
          (λ ws all. given_up_all (g.G.Gate.gives_up bench.gate.now) bench.turns script relays ready.0 table jobs rs ws.items ready.1.0 count
          (λ i d l. let gives = c.in_ok-worked.ensures.each i d l in (gives.1.job, (gives.1.job_read, gives.1.call.met.1))) all)
          c.all_worked.ensures;
    }
