use Rattle.std.proofs.Common.{sym, ap, cond, is_some, ◌∙◌}
use Rattle.std.specs.FinMap.{insert}
use Rattle.std.specs.Option.{option_map}
use Rattle.join_nest.specs.Keyed.{replaced}
use Rattle.mpx_board.specs.Raised.{stored, view_of_raised}
use Rattle.mpx_board.specs.Views.{view_of_acks, view_of_all_acks}
use Rattle.mpx_board.proofs.Exchanging.{replaced_back}
use Rattle.mpx_board.proofs.acks.exchange_acks.Goals as goal

pub returns-in-Nothing-clause-new : goal.returns-in-Nothing-clause-new
returns-in-Nothing-clause-new c = sym (ap (λ r. stored (view_of_raised r) (view_of_all_acks c.args.acks.now)) c.in-Nothing.is)

pub returns-in-None-clause-new : goal.returns-in-None-clause-new
returns-in-None-clause-new c = c.replace.ensures.new ∙ sym (ap (λ r. stored (view_of_raised r) (view_of_all_acks c.args.acks.now)) c.in-Row.is)

pub returns-in-None-clause-back : goal.returns-in-None-clause-back
returns-in-None-clause-back c =
    let all = view_of_all_acks c.args.acks.now in
    c.replace.ensures.new ∙ ap (λ o. cond (is_some o) (insert all c.in-Row.process (view_of_acks c.in-Row.row)) all) (sym c.replace.ensures.old ∙ ap (option_map view_of_acks) c.in-None.is)

pub returns-in-Some-clause-new : goal.returns-in-Some-clause-new
returns-in-Some-clause-new c = c.replace.ensures.new ∙ sym (ap (λ r. stored (view_of_raised r) (view_of_all_acks c.args.acks.now)) c.in-Row.is)

pub returns-in-Some-clause-back : goal.returns-in-Some-clause-back
returns-in-Some-clause-back c =
    let all = view_of_all_acks c.args.acks.now in
    ap (λ m. replaced m c.in-Row.process (view_of_acks c.in-Some.before)) c.replace.ensures.new
    ∙ replaced_back all c.in-Row.process (view_of_acks c.in-Row.row) (view_of_acks c.in-Some.before) (sym c.replace.ensures.old ∙ ap (option_map view_of_acks) c.in-Some.is)

pub returns-in-All-clause-new : goal.returns-in-All-clause-new
returns-in-All-clause-new c = ap view_of_all_acks c.replace-in-All.ensures.after ∙ sym (ap (λ r. stored (view_of_raised r) (view_of_all_acks c.args.acks.now)) c.in-All.is)

pub returns-in-All-clause-back : goal.returns-in-All-clause-back
returns-in-All-clause-back c = ap view_of_all_acks c.replace-in-All.ensures.value
