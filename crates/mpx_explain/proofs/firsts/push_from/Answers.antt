use Rattle.std.proofs.Common.{Some, ap, map, subst, sym, refl, ◌∙◌}
use Rattle.std.specs.BTreeMap.{Updates}
use Rattle.std.specs.Option.{option_map}
use Rattle.mpx_eval.specs.Found.{missing_view}
use Rattle.mpx_name.specs.Order.{name_cmp}
use Rattle.mpx_node.specs.Shown.{node_of}
use Rattle.mpx_explain.specs.RunEnds.{first_lacking, first_view}
use Rattle.mpx_explain.proofs.FirstCalls.{looked_more, looked_pushed, none_either, told_first, told_none}
use Rattle.mpx_explain.proofs.firsts.push_from.Goals as goal

pub returns-in_ok-push-in-Some-clause-looked : goal.returns-in_ok-push-in-Some-clause-looked
returns-in_ok-push-in-Some-clause-looked c =
    let had = c.args.firsts.now.told.items in
    looked_pushed c.args.waiter.now.run.now (node_of c.args.waiter.now.node.now) (map first_view had) c.args.firsts.now.looked (c.args.waiter.now.rank, c.args.waiter.now.statement) had c.push.new.self.items c.earlier_call.result c.insert.new.self c.args.asked.now.name c.in_ok-name.name c.args.asked.now.call (missing_view c.in-Some.call)
    refl c.requires.looked c.in_ok-push-in-Some.ensures.items c.earlier_call.ensures (ap (option_map missing_view) (sym c.in-Some.is) ∙ c.in_ok-found.ensures) c.in_ok-name.ensures c.in_ok-insert-in-Some.ensures.updates

pub returns-in_ok-push-in-Some-clause-told : goal.returns-in_ok-push-in-Some-clause-told
returns-in_ok-push-in-Some-clause-told c =
    told_first (c.args.waiter.now.rank, c.args.waiter.now.statement) c.args.firsts.now.told.items c.push.new.self.items c.earlier_call.result (missing_view c.in-Some.call) (first_lacking c.args.waiter.now.run.now (node_of c.args.waiter.now.node.now) c.args.asked.now.name c.args.asked.now.call)
    c.in_ok-push-in-Some.ensures.items c.earlier_call.ensures (ap (option_map missing_view) (sym c.in-Some.is) ∙ c.in_ok-found.ensures)

pub returns-in_ok-insert-in-None-clause-looked : goal.returns-in_ok-insert-in-None-clause-looked
returns-in_ok-insert-in-None-clause-looked c =
    let run = c.args.waiter.now.run.now in
    let node = node_of c.args.waiter.now.node.now in
    let name = c.args.asked.now.name in
    let found = ap (option_map missing_view) (sym c.in-None.is) ∙ c.in_ok-found.ensures in
    looked_more run node (map first_view c.args.firsts.now.told.items) c.args.firsts.now.looked c.insert-in-None.new.self name c.later-upto.result c.requires.looked c.requires.untold
    (none_either run node name c.later-upto.result c.args.from c.args.asked.now.call c.later-upto.ensures c.requires.none (sym found))
    (subst (λ k. Updates name_cmp c.args.firsts.now.looked c.insert-in-None.new.self k (Some (Some c.later-upto.result))) c.in_ok-name.ensures c.in_ok-insert-in-None.ensures.updates)

pub returns-in_ok-insert-in-None-clause-told : goal.returns-in_ok-insert-in-None-clause-told
returns-in_ok-insert-in-None-clause-told c =
    told_none (c.args.waiter.now.rank, c.args.waiter.now.statement) (map first_view c.args.firsts.now.told.items) (first_lacking c.args.waiter.now.run.now (node_of c.args.waiter.now.node.now) c.args.asked.now.name c.args.asked.now.call)
    (ap (option_map missing_view) (sym c.in-None.is) ∙ c.in_ok-found.ensures)
