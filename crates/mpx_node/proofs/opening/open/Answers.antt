use Rattle.std.proofs.Common.{sym, subst, Some}
use Rattle.std.specs.BTreeMap.{Updates}
use Rattle.mpx_name.specs.Order.{name_cmp}
use Rattle.mpx_node.proofs.Openings.{open_already, open_new}
use Rattle.mpx_node.proofs.opening.open.Goals as goal

pub returns-then-contains_key-clause-ok : goal.returns-then-contains_key-clause-ok
returns-then-contains_key-clause-ok c = open_already c.args.opened.now c.args.name.now (sym c.if-contains_key.ensures)

pub returns-clause-ok : goal.returns-clause-ok
returns-clause-ok c =
    open_new c.args.opened.now c.args.name.now c.insert.new.self c.new.result (sym c.if-contains_key.ensures) c.new.ensures
    (subst (λ k. Updates name_cmp c.args.opened.now c.insert.new.self k (Some c.new.result)) c.in_ok-copy.ensures c.in_ok-insert.ensures.updates)
