use Rattle.std.proofs.Common.{Some, refl, sym, ap, subst, ◌∙◌}
use Rattle.mpx_statement.specs.declared.statement.Statement.TheVariants.{Wait}
use Rattle.std.specs.Prelude.{slice_get}
use Rattle.std.specs.Option.{option_copied, option_map}
use Rattle.mpx_node.specs.Shown.{node_of}
use Rattle.mpx_rank.specs.Shown.{rank_of}
use Rattle.mpx_sim.specs.Ends.{OneIsOpen}
use Rattle.mpx_sim.specs.Running.{ProcessView}
use Rattle.mpx_sim.specs.Shown.{call_of, sender_of}
use Rattle.mpx_sim.proofs.Resting.{awaited_lacks, if_ok_then, waiting_lacks}
use Rattle.mpx_sim.specs.Keeping.{keeps_node_itself}
use Rattle.mpx_sim.proofs.Tried.{on_each_ok}
use Rattle.mpx_sim.specs.Turns.{Alone}
use Rattle.mpx_sim.proofs.process.Process.lacks.Goals as goal

pub returns-in-Some-clause-keeps : goal.returns-in-Some-clause-keeps
returns-in-Some-clause-keeps g c = on_each_ok c.is_open.result (λ h. h.0 (rank_of call_of c.args.self.now.rank) (sender_of c.args.self.now.sender)) c.is_open.ensures.harvested

pub returns-in-Some-clause-lacks : goal.returns-in-Some-clause-lacks
returns-in-Some-clause-lacks g c =
    let v : ProcessView = record { rank = rank_of call_of c.args.self.now.rank; node = node_of c.is_open.new.self.desk.host; sender = sender_of c.args.self.now.sender } in
    if_ok_then c.is_open.result (λ pends h e. awaited_lacks v (call_of c.in-Some.call.now) (sym c.awaited.ensures ∙ ap (λ o. option_map call_of (option_copied o)) c.in-Some.is) (h e)) c.is_open.ensures.pending

pub returns-in_default-first-clause-keeps : goal.returns-in_default-first-clause-keeps
returns-in_default-first-clause-keeps g c = keeps_node_itself Alone _ (node_of c.args.self.now.carrier.desk.host) (node_of c.args.self.now.carrier.desk.host) refl (rank_of call_of c.args.self.now.rank) (sender_of c.args.self.now.sender)

pub returns-in-Wait-clause-keeps : goal.returns-in-Wait-clause-keeps
returns-in-Wait-clause-keeps g c = on_each_ok c.one_is_open.result (λ h. h.0 (rank_of call_of c.args.self.now.rank) (sender_of c.args.self.now.sender)) c.one_is_open.ensures.harvested

pub returns-in-Post-clause-keeps : goal.returns-in-Post-clause-keeps
returns-in-Post-clause-keeps g c = keeps_node_itself Alone _ (node_of c.args.self.now.carrier.desk.host) (node_of c.args.self.now.carrier.desk.host) refl (rank_of call_of c.args.self.now.rank) (sender_of c.args.self.now.sender)

pub returns-in-Ask-clause-keeps : goal.returns-in-Ask-clause-keeps
returns-in-Ask-clause-keeps g c = keeps_node_itself Alone _ (node_of c.args.self.now.carrier.desk.host) (node_of c.args.self.now.carrier.desk.host) refl (rank_of call_of c.args.self.now.rank) (sender_of c.args.self.now.sender)

pub returns-in-Wait-clause-lacks : goal.returns-in-Wait-clause-lacks
returns-in-Wait-clause-lacks g c =
    let v : ProcessView = record { rank = rank_of call_of c.args.self.now.rank; node = node_of c.one_is_open.new.self.desk.host; sender = sender_of c.args.self.now.sender } in
    let none = sym c.awaited.ensures ∙ ap (λ o. option_map call_of (option_copied o)) c.in_default.is in
    let first = ap (λ xs. slice_get xs 0) (sym c.todo.ensures) ∙ sym c.first.ensures.value ∙ ap option_copied c.in-Some-first.is in
    if_ok_then c.one_is_open.result (λ pends h e. waiting_lacks v c.as_slice.result.now none (first ∙ ap Some (c.in-Wait.is ∙ ap Wait (sym c.as_slice.ensures))) (subst (λ r. OneIsOpen v.node r c.as_slice.result.now) c.requests.ensures (h e))) c.one_is_open.ensures.pending
