use Rattle.std.proofs.Common.{◌∷◌, [], map, refl}
use Rattle.mpx_eval.specs.Found.{waiting_view}
use Rattle.mpx_meaning.specs.Ends.{waits_at_view}
use Rattle.mpx_explain.specs.RunEnds.{first_view, firsts_at, served_at, unmade_at, waits_at}
use Rattle.mpx_explain.proofs.FoundEnds.{told_nowhere, told_where}
use Rattle.mpx_explain.proofs.ends.push_rank.Goals as goal

pub returns-in-Some : goal.returns-in-Some
returns-in-Some c =
    let run = c.args.run.now in
    let rank = c.args.rank in
    let w = waits_at_view c.in-Some.waits.now in
    let old = c.args.end.now in
    let new = c.push_waiting.new.end in
    let did = c.push_waiting.ensures in
    record {
      waiting = told_where c.push_waiting.result run rank (λ v. waits_at run rank v ∷ []) w (map waiting_view old.waiting.items) (map waiting_view new.waiting.items) c.in-Some.ensures did.waiting;
      earlier = told_where c.push_waiting.result run rank (firsts_at run rank) w (map first_view old.earlier.items) (map first_view new.earlier.items) c.in-Some.ensures did.earlier;
      served = told_where c.push_waiting.result run rank (served_at run rank) w old.served.items new.served.items c.in-Some.ensures did.served;
      unmade = told_where c.push_waiting.result run rank (unmade_at run rank) w old.unmade.items new.unmade.items c.in-Some.ensures did.unmade;
    }

pub returns-in-None : goal.returns-in-None
returns-in-None c =
    let run = c.args.run.now in
    let rank = c.args.rank in
    let old = c.args.end.now in
    record {
      waiting = told_nowhere run rank (λ v. waits_at run rank v ∷ []) (map waiting_view old.waiting.items) (map waiting_view old.waiting.items) c.in-None.ensures refl;
      earlier = told_nowhere run rank (firsts_at run rank) (map first_view old.earlier.items) (map first_view old.earlier.items) c.in-None.ensures refl;
      served = told_nowhere run rank (served_at run rank) old.served.items old.served.items c.in-None.ensures refl;
      unmade = told_nowhere run rank (unmade_at run rank) old.unmade.items old.unmade.items c.in-None.ensures refl;
    }
