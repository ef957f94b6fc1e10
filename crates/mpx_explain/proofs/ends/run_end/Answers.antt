use Rattle.std.proofs.Common.{◌∷◌, [], arith, map}
use Rattle.mpx_eval.specs.Found.{waiting_view}
use Rattle.mpx_explain.specs.RunEnds.{first_view, firsts_at, served_at, unmade_at, waits_at}
use Rattle.mpx_explain.proofs.FoundEnds.{tells_run, told_more}
use Rattle.mpx_explain.proofs.ends.run_end.Goals as goal

pub loop-rank-preserved : goal.loop-rank-preserved
loop-rank-preserved c =
    let run = c.args.run.now in
    let n = c.loop-rank.rank in
    let had = c.loop-rank.end in
    let was = c.loop-rank.invariant in
    let did = c.in_ok-push_rank.ensures in
    record {
      waiting = told_more run (λ rank w. waits_at run rank w ∷ []) n (map waiting_view had.waiting.items) _ was.waiting did.waiting;
      earlier = told_more run (firsts_at run) n (map first_view had.earlier.items) _ was.earlier did.earlier;
      served = told_more run (served_at run) n had.served.items _ was.served did.served;
      unmade = told_more run (unmade_at run) n had.unmade.items _ was.unmade did.unmade;
    }

pub returns : goal.returns
returns c =
    let was = c.loop-rank.invariant in
    tells_run c.args.run.now c.loop-rank.end c.loop-rank.rank c.ranks-rank-end.result (omega (arith, c.loop-rank-test.false, c.loop-rank.auto.rank-end)) c.ranks-rank-end.ensures.ranks was.waiting was.earlier was.served was.unmade
