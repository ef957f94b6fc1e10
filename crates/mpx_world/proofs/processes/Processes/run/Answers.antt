use Rattle.std.proofs.Common.{◌<◌, ◌≤◌, refl, length, arith, take}
use Rattle.std.proofs.lemmas.Option.{slice_get_read}
use Rattle.mpx_world.proofs.Showing.{operations_after, ran_all, ran_more}
use Rattle.mpx_world.proofs.processes.Processes.run.Goals as goal

pub loop-at-preserved : goal.loop-at-preserved
loop-at-preserved g c w same s =
    let within : c.loop-at.at < length c.args.events.now = omega (arith, c.loop-at-test.true) in
    ran_more _ c.args.events.now c.loop-at.at c.index-events-at.result c.loop-at.replies.items c.tell.new.replies.items c.loop-at.self c.tell.new.self w same within c.index-events-at.is (c.loop-at.invariant w same s) c.in-Ok.ensures.ok c.in-Ok.ensures.answered

pub returns-in-Err-clause-stopped : goal.returns-in-Err-clause-stopped
returns-in-Err-clause-stopped g c w same s =
    let within : c.loop-at.at < length c.args.events.now = omega (arith, c.loop-at-test.true) in
    record {
      event = c.index-events-at.result;
      at = slice_get_read c.args.events.now (length c.args.events.now) c.loop-at.at c.index-events-at.result refl within c.index-events-at.is;
      stops = c.in-Err.ensures.err _ (operations_after _ (take c.loop-at.at c.args.events.now) w same) (c.loop-at.invariant w same s).shown;
    }

pub returns-clause-ok : goal.returns-clause-ok
returns-clause-ok g c w same s =
    let past : length c.args.events.now ≤ c.loop-at.at = omega (arith, c.loop-at-test.false) in
    ran_all c.args.events.now c.loop-at.at c.loop-at.replies.items c.loop-at.self w past (c.loop-at.invariant w same s)
