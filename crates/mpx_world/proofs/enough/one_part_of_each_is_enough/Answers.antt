use Rattle.std.proofs.Common.{refl}
use Rattle.mpx_world.proofs.Progress.{lacking_tells, send_and_take_below, serve_after, serve_below, take_below, takes_below}
use Rattle.mpx_world.proofs.Answering.{answer_done, heard_of, is_now, learned_stands, stands_later, was_since}
use Rattle.mpx_world.proofs.enough.one_part_of_each_is_enough.Goals as goal

pub returns-clause-deltas : goal.returns-clause-deltas
returns-clause-deltas c = lacking_tells

pub returns-clause-sent : goal.returns-clause-sent
returns-clause-sent c = send_and_take_below

pub returns-clause-taken_by_event : goal.returns-clause-taken_by_event
returns-clause-taken_by_event c = take_below

pub returns-clause-told_by_events : goal.returns-clause-told_by_events
returns-clause-told_by_events c = serve_after

pub returns-clause-taken : goal.returns-clause-taken
returns-clause-taken c = takes_below

pub returns-clause-told : goal.returns-clause-told
returns-clause-told c = serve_below

pub returns-clause-now : goal.returns-clause-now
returns-clause-now c = is_now

pub returns-clause-since : goal.returns-clause-since
returns-clause-since c = was_since

pub returns-clause-learned : goal.returns-clause-learned
returns-clause-learned c = learned_stands

pub returns-clause-stays : goal.returns-clause-stays
returns-clause-stays c = stands_later

pub returns-clause-heard : goal.returns-clause-heard
returns-clause-heard c = heard_of

pub returns-clause-answers : goal.returns-clause-answers
returns-clause-answers c w p name k opened done count l = answer_done count w p name (w.each p).node refl opened (done count l)
