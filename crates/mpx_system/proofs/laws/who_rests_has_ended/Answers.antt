use Rattle.std.proofs.Common.{◌∙◌, ap, refl, sym}
use Rattle.mpx_meaning.specs.Ranks.{Local}
use Rattle.mpx_meaning.specs.Evaluation.{known}
use Rattle.mpx_meaning.proofs.Ahead.{finished, on_way-reached}
use Rattle.mpx_system.specs.Systems.{does_all, start_system}
use Rattle.mpx_system.proofs.Settled.{rest_ends}
use Rattle.mpx_system.proofs.Leading.{coupled}
use Rattle.mpx_system.proofs.Possible.{end_there, round_there}
use Rattle.mpx_system.proofs.Rounds.{rounds_end}
use Rattle.mpx_system.proofs.laws.who_rests_has_ended.Goals as goal

pub returns-clause-rest : goal.returns-clause-rest
returns-clause-rest c ops script ranks size doings few m rest = rest_ends ops script ranks size (does_all (start_system ops script ranks size) doings) (record { doings = doings; may = m; reached = refl }) few rest

pub returns-clause-rounds : goal.returns-clause-rounds
returns-clause-rounds c ops script ranks size doings rounds few m full l = rounds_end ops script ranks size few rounds (does_all (start_system ops script ranks size) doings) (record { doings = doings; may = m; reached = refl }) full l

pub returns-clause-round : goal.returns-clause-round
returns-clause-round c ops script ranks size doings m = let s = does_all (start_system ops script ranks size) doings in round_there ops script ranks s (coupled ops script ranks size s (record { doings = doings; may = m; reached = refl }))

pub returns-clause-end : goal.returns-clause-end
returns-clause-end c ops script ranks size doings few m = end_there ops script ranks size (does_all (start_system ops script ranks size) doings) (record { doings = doings; may = m; reached = refl }) few

pub returns-clause-always : goal.returns-clause-always
returns-clause-always c ops script ranks size doings few m rest others other n p e =
    let s = does_all (start_system ops script ranks size) doings in
    let t = does_all (start_system ops script ranks others) other in
    let is = rest_ends ops script ranks size s (record { doings = doings; may = m; reached = refl }) few rest in
    let reached = (coupled ops script ranks others t (record { doings = other; may = n; reached = refl })).reached in
    ap (λ (x : Local). x.todo) (sym (finished ops (known ops ranks s.ranks p) (t.ranks p) (s.ranks p) ((on_way-reached ops script ranks s.ranks t.ranks is reached).each p) e)) ∙ e
