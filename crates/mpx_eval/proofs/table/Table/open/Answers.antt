use Rattle.std.proofs.Common.{sym, subst, Some}
use Rattle.std.specs.BTreeMap.{Updates}
use Rattle.mpx_name.specs.Order.{name_cmp}
use Rattle.mpx_eval.specs.Contexts.{ContextView, fresh}
use Rattle.mpx_eval.proofs.Tables.{open_already, open_new}
use Rattle.mpx_eval.proofs.table.Table.open.Goals as goal

pub returns-then-contains_key : goal.returns-then-contains_key
returns-then-contains_key c = open_already c.args.self.now.contexts c.args.name.now c.args.birth.now (sym c.if-contains_key.ensures)

pub returns-in_ok-insert-in-Ok : goal.returns-in_ok-insert-in-Ok
returns-in_ok-insert-in-Ok c =
    open_new c.args.self.now.contexts c.args.name.now c.args.birth.now c.insert.new.self (sym c.if-contains_key.ensures)
    (subst (λ k. Updates name_cmp c.args.self.now.contexts c.insert.new.self k (Some (fresh c.args.birth.now))) c.in-Ok.ensures
    (subst (λ (x : ContextView). Updates name_cmp c.args.self.now.contexts c.insert.new.self c.in-Ok.name (Some x)) c.in_ok-context.ensures
    c.in_ok-insert-in-Ok.ensures.updates))
