use Rattle.std.proofs.Common.{◌≡◌, ◌∙◌, ◌+◌, ◌++◌, ◌∷◌, ◌<◌, [], Option, Some, cond, length, refl, sym, ap, subst, rules}
use Rattle.std.specs.Option.{option_map}
use Rattle.mpx_name.specs.Name.{same_name}
use Rattle.mpx_board.specs.Boards.{join, only, Front}
use Rattle.mpx_board.specs.Looks.{look}
use Rattle.mpx_node.specs.Keeping.{named}
use Rattle.mpx_node.specs.declared.opened.Opened.{Opened}
use Rattle.mpx_node.specs.Nodes.{OpenedView, front_on, harvest_part, posted_by, results_by}
use Rattle.mpx_node.specs.Opened.{opened_of}
use Rattle.mpx_node.specs.Shown.{node_of}
use Rattle.mpx_node.specs.Stored.{after_gone}
use Rattle.mpx_node.proofs.Gone.{one_more_stored, room_for_one}
use Rattle.mpx_node.proofs.Stepping.{Contexts, seen, stays, does, first_front}
use Rattle.mpx_node.proofs.Keeping.{kept_joined, kept_same}
use Rattle.mpx_node.proofs.node.Node.add_plain_result.Goals as goal

pub invariant_of-self-in-Ok : goal.invariant_of-self-in-Ok
invariant_of-self-in-Ok c =
    let node = c.args.self.now in
    record { some = node.some; few = node.few; kept_right = named _ _ (kept_joined node c.raise_front.new.self (only (Front c.args.name.now node.me (c.args.call + 1))) c.in-Ok.ensures.ok (λ q n p. refl)) }

pub invariant_of-self-in-Err-1 : goal.invariant_of-self-in-Err-1
invariant_of-self-in-Err-1 c =
    let node = c.args.self.now in
    record { some = node.some; few = node.few; kept_right = named _ _ (kept_same node c.raise_front.new.self c.in-Err.ensures.err) }

pub returns-then-is_err-clause-err : goal.returns-then-is_err-clause-err
returns-then-is_err-clause-err c =
    let old = node_of c.args.self.now in
    let o = c.in-Some.opened.now in
    let w : Opened = record { posted = o.posted; gone = o.gone; results = c.reserve.new.self; freed = o.freed; counted = search rules } in
    let n = c.get_mut.follows.lender w in
    let same : seen n ≡ seen c.args.self.now.opened = stays c.args.self.now.opened n c.args.name.now o w c.in-Some.ensures.value (c.get_mut.follows.holds w) (λ i. record { posted = o.posted; results = after_gone o.gone (c.reserve.ensures.items i); freed = o.freed }) in
    ap (λ (x : Contexts). record old { opened = x }) same

pub returns-in-Err-clause-err : goal.returns-in-Err-clause-err
returns-in-Err-clause-err c =
    let old = node_of c.args.self.now in
    let o = c.in-Some.opened.now in
    let w : Opened = record { posted = o.posted; gone = o.gone; results = c.reserve.new.self; freed = o.freed; counted = search rules } in
    let n = c.get_mut.follows.lender w in
    let same : seen n ≡ seen c.args.self.now.opened = stays c.args.self.now.opened n c.args.name.now o w c.in-Some.ensures.value (c.get_mut.follows.holds w) (λ i. record { posted = o.posted; results = after_gone o.gone (c.reserve.ensures.items i); freed = o.freed }) in
    λ i. record { me = old.me; processes = old.processes; board = c.in-Err.ensures.err i; opened = same i }

pub returns-in-Ok-clause-ok : goal.returns-in-Ok-clause-ok
returns-in-Ok-clause-ok c =
    let name = c.args.name.now in
    let finished = c.args.finished in
    let old = node_of c.args.self.now in
    let o = c.in-Some.opened.now in
    let w : Opened = record { posted = o.posted; gone = o.gone; results = c.push_back_reserved.new.self; freed = o.freed; counted = search rules } in
    let n = c.get_mut.follows.lender w in
    let results : after_gone o.gone c.push_back_reserved.new.self.items ≡ after_gone o.gone o.results.items ++ Some finished ∷ [] = one_more_stored o.gone o.results.items c.reserve.new.self.items c.push_back_reserved.new.self.items finished c.reserve.ensures.items c.push_back_reserved.ensures.items in
    let stores : OpenedView → OpenedView = λ v. record v { results = v.results ++ Some finished ∷ [] } in
    let added : seen n ≡ (λ q. cond (same_name q name) (option_map stores (seen c.args.self.now.opened q)) (seen c.args.self.now.opened q)) = does c.args.self.now.opened n name o w c.in-Some.ensures.value (c.get_mut.follows.holds w) stores (λ i. record { posted = o.posted; results = results i; freed = o.freed }) in
    let board : look c.raise_front.new.self ≡ join old.board (harvest_part name [] old) =
    c.in-Ok.ensures.ok
    ∙ ap (λ k. join old.board (only (Front name old.me (k + 1)))) c.requires.front
    ∙ ap (join old.board) (sym (first_front name old.me (front_on old name + 1))) in
    λ i. record { me = old.me; processes = old.processes; board = board i; opened = added i }

pub invariant_of-opened-in-Ok : goal.invariant_of-opened-in-Ok
invariant_of-opened-in-Ok c =
    let o = c.in-Some.opened.now in
    let here : (node_of c.args.self.now).opened c.args.name.now ≡ Some (opened_of o) = ap (option_map opened_of) (sym c.in-Some.ensures.value) in
    let less : length (after_gone o.gone o.results.items) < o.posted = subst (λ (x : Option OpenedView). length (results_by x) < posted_by x) here c.requires.unfinished in
    record { counted = room_for_one o.posted o.gone o.results.items c.reserve.new.self.items c.push_back_reserved.new.self.items c.args.finished less c.reserve.ensures.items c.push_back_reserved.ensures.items }
