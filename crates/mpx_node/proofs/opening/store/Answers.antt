use Rattle.std.proofs.Common.{◌≡◌, ◌<◌, ◌++◌, ◌∷◌, [], Option, Some, length, sym, ap, subst, rules}
use Rattle.std.specs.Option.{option_map}
use Rattle.mpx_node.specs.declared.opened.Opened.{Opened}
use Rattle.mpx_node.specs.Nodes.{OpenedView, posted_by, results_by}
use Rattle.mpx_node.specs.Opened.{opened_by, opened_of}
use Rattle.mpx_node.specs.Stored.{after_gone}
use Rattle.mpx_node.proofs.Gone.{one_more_stored, room_for_one}
use Rattle.mpx_node.proofs.Stepping.{stays, does}
use Rattle.mpx_node.proofs.opening.store.Goals as goal

pub returns-then-is_err-clause-err : goal.returns-then-is_err-clause-err
returns-then-is_err-clause-err c =
    let o = c.in-Some.opened.now in
    let w : Opened = record { posted = o.posted; gone = o.gone; results = c.reserve.new.self; freed = o.freed; counted = search rules } in
    λ q i. stays c.args.opened.now (c.get_mut.follows.lender w) c.args.name.now o w c.in-Some.ensures.value (c.get_mut.follows.holds w) (λ j. record { posted = o.posted; results = after_gone o.gone (c.reserve.ensures.items j); freed = o.freed }) i q

pub returns-clause-ok : goal.returns-clause-ok
returns-clause-ok c q =
    let o = c.in-Some.opened.now in
    let w : Opened = record { posted = o.posted; gone = o.gone; results = c.push_back_reserved.new.self; freed = o.freed; counted = search rules } in
    let results : after_gone o.gone c.push_back_reserved.new.self.items ≡ after_gone o.gone o.results.items ++ Some c.args.finished ∷ [] = one_more_stored o.gone o.results.items c.reserve.new.self.items c.push_back_reserved.new.self.items c.args.finished c.reserve.ensures.items c.push_back_reserved.ensures.items in
    λ i. does c.args.opened.now (c.get_mut.follows.lender w) c.args.name.now o w c.in-Some.ensures.value (c.get_mut.follows.holds w) (λ (v : OpenedView). record v { results = v.results ++ Some c.args.finished ∷ [] }) (λ j. record { posted = o.posted; results = results j; freed = o.freed }) i q

pub invariant_of-opened-2 : goal.invariant_of-opened-2
invariant_of-opened-2 c =
    let o = c.in-Some.opened.now in
    let here : opened_by c.args.opened.now c.args.name.now ≡ Some (opened_of o) = ap (option_map opened_of) (sym c.in-Some.ensures.value) in
    let less : length (after_gone o.gone o.results.items) < o.posted = subst (λ (x : Option OpenedView). length (results_by x) < posted_by x) here c.requires in
    record { counted = room_for_one o.posted o.gone o.results.items c.reserve.new.self.items c.push_back_reserved.new.self.items c.args.finished less c.reserve.ensures.items c.push_back_reserved.ensures.items }
