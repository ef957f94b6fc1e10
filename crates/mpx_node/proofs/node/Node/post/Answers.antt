use Rattle.std.proofs.Common.{◌≡◌, ◌+◌, ◌||◌, refl, sym, ap, ◌∙◌, Some}
use Rattle.std.specs.Prelude.{Err, cond}
use Rattle.std.specs.Option.{option_map}
use Rattle.mpx_node.specs.Keeping.{named}
use Rattle.mpx_node.specs.declared.opened.Opened.{Opened}
use Rattle.mpx_post.specs.Posts.{is_free}
use Rattle.mpx_name.specs.Name.{same_name}
use Rattle.mpx_board.specs.Boards.{join, only, Held}
use Rattle.std.proofs.lemmas.Result.{err_from_is_err_and}
use Rattle.join_core.specs.Flat.{known}
use Rattle.mpx_board.specs.Looks.{look}
use Rattle.mpx_node.specs.Nodes.{posted_by, posts_more}
use Rattle.mpx_node.specs.Opened.{opened_of}
use Rattle.mpx_node.specs.Stored.{after_gone}
use Rattle.mpx_node.specs.Shown.{node_of}
use Rattle.mpx_node.proofs.Stepping.{Contexts, seen, has, stays, does, closed_refused, unborn_refused, draft_refused, draft_posted, draft_wants}
use Rattle.mpx_node.proofs.Keeping.{kept_joined, kept_same}
use Rattle.mpx_node.proofs.node.Node.post.Goals as goal

pub invariant_of-self-in-Ok : goal.invariant_of-self-in-Ok
invariant_of-self-in-Ok g c =
    let node = c.args.self.now in
    record { some = node.some; few = node.few; kept_right = named _ _ (kept_joined node c.join_post.new.self (only (Held c.args.name.now c.in-Some.opened.now.posted node.me (known c.in_ok-post.post))) c.in-Ok.ensures.ok (λ q n p. refl)) }

pub invariant_of-self-in-Err : goal.invariant_of-self-in-Err
invariant_of-self-in-Err g c =
    let node = c.args.self.now in
    record { some = node.some; few = node.few; kept_right = named _ _ (kept_same node c.join_post.new.self c.in-Err.ensures.err) }

pub returns-then-opened : goal.returns-then-opened
returns-then-opened g c =
    let old = node_of c.args.self.now in
    let o = c.in-Some.opened.now in
    let n = c.get_mut.follows.lender o in
    let here : old.opened c.args.name.now ≡ Some (opened_of o) = has c.args.self.now.opened n c.args.name.now o o c.in-Some.ensures.value (c.get_mut.follows.holds o) in
    let same : seen n ≡ seen c.args.self.now.opened = stays c.args.self.now.opened n c.args.name.now o o c.in-Some.ensures.value (c.get_mut.follows.holds o) refl in
    closed_refused _ c.args.name.now c.args.draft old _ (opened_of o) here c.if-opened.true (ap (λ (x : Contexts). record old { opened = x }) same)

pub returns-in_default-birth : goal.returns-in_default-birth
returns-in_default-birth g c =
    let old = node_of c.args.self.now in
    let o = c.in-Some.opened.now in
    let n = c.get_mut.follows.lender o in
    let here : old.opened c.args.name.now ≡ Some (opened_of o) = has c.args.self.now.opened n c.args.name.now o o c.in-Some.ensures.value (c.get_mut.follows.holds o) in
    let same : seen n ≡ seen c.args.self.now.opened = stays c.args.self.now.opened n c.args.name.now o o c.in-Some.ensures.value (c.get_mut.follows.holds o) refl in
    unborn_refused _ c.args.name.now c.args.draft old _ (opened_of o) here c.if-opened.false (sym c.in_default-birth.ensures) (ap (λ (x : Contexts). record old { opened = x }) same)

pub returns-in_err-post : goal.returns-in_err-post
returns-in_err-post g c =
    let old = node_of c.args.self.now in
    let o = c.in-Some.opened.now in
    let n = c.get_mut.follows.lender o in
    let here : old.opened c.args.name.now ≡ Some (opened_of o) = has c.args.self.now.opened n c.args.name.now o o c.in-Some.ensures.value (c.get_mut.follows.holds o) in
    let same : seen n ≡ seen c.args.self.now.opened = stays c.args.self.now.opened n c.args.name.now o o c.in-Some.ensures.value (c.get_mut.follows.holds o) refl in
    let exit = err_from_is_err_and c.from_residual.result c.from_residual.ensures.1 in
    let answer : c.from_residual.result ≡ Err c.in_err-post.field-0.0 = exit.1 ∙ ap Err exit.2 in
    draft_refused _ c.args.name.now c.args.draft old _ (opened_of o) here c.in-Some-birth.birth.now c.if-opened.false (sym c.in-Some-birth.ensures) c.from_residual.result c.in_err-post.field-0.0 c.in_err-post.ensures.value answer (ap (λ (x : Contexts). record old { opened = x }) same)

pub returns-in-Ok : goal.returns-in-Ok
returns-in-Ok g c =
    let old = node_of c.args.self.now in
    let o = c.in-Some.opened.now in
    let post = c.in_ok-post.post in
    let w : Opened = record { posted = o.posted + 1; gone = o.gone; results = o.results; freed = c.is_free-frees.result; counted = c.opened-1.given.0 } in
    let n = c.get_mut.follows.lender w in
    let here : old.opened c.args.name.now ≡ Some (opened_of o) = has c.args.self.now.opened n c.args.name.now o w c.in-Some.ensures.value (c.get_mut.follows.holds w) in
    let frees : c.is_free-frees.result ≡ (o.freed || is_free post) = c.is_free-frees.ensures ∙ sym (ap (λ b. b || is_free post) c.if-opened.false) in
    let added : seen n ≡ (λ q. cond (same_name q c.args.name.now) (option_map (posts_more post) (seen c.args.self.now.opened q)) (seen c.args.self.now.opened q)) =
    does c.args.self.now.opened n c.args.name.now o w c.in-Some.ensures.value (c.get_mut.follows.holds w) (posts_more post) (λ i. record { posted = o.posted + 1; results = after_gone o.gone o.results.items; freed = frees i }) in
    let call : posted_by (old.opened c.args.name.now) ≡ o.posted = ap posted_by here in
    let board : look c.join_post.new.self ≡ join old.board (only (Held c.args.name.now (posted_by (old.opened c.args.name.now)) old.me (known post))) = c.in-Ok.ensures.ok ∙ ap (λ k. join old.board (only (Held c.args.name.now k old.me (known post)))) (sym call) in
    draft_posted _ c.args.name.now c.args.draft old _ (opened_of o) here c.in-Some-birth.birth.now c.if-opened.false (sym c.in-Some-birth.ensures) post c.in_ok-post.ensures.value (λ i. record { me = old.me; processes = old.processes; board = board i; opened = added i })

pub returns-in-Err : goal.returns-in-Err
returns-in-Err g c =
    let old = node_of c.args.self.now in
    let o = c.in-Some.opened.now in
    let n = c.get_mut.follows.lender o in
    let here : old.opened c.args.name.now ≡ Some (opened_of o) = has c.args.self.now.opened n c.args.name.now o o c.in-Some.ensures.value (c.get_mut.follows.holds o) in
    let same : seen n ≡ seen c.args.self.now.opened = stays c.args.self.now.opened n c.args.name.now o o c.in-Some.ensures.value (c.get_mut.follows.holds o) refl in
    draft_wants _ c.args.name.now c.args.draft old _ (opened_of o) here c.in-Some-birth.birth.now c.if-opened.false (sym c.in-Some-birth.ensures) c.in_ok-post.post c.in_ok-post.ensures.value (λ i. record { me = old.me; processes = old.processes; board = c.in-Err.ensures.err i; opened = same i })
