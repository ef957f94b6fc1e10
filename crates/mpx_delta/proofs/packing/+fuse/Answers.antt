-- Joined with the last ones, where that fits.
use Rattle.std.proofs.Common.{◌≤◌, ◌<◌, ◌++◌, ◌∷◌, [], Result, Ok, Err, sym, ap, ◌∙◌, subst}
use Rattle.std.specs.Result.{OnOk}
use Rattle.mpx_format.specs.Encoding.{length_told}
use Rattle.mpx_delta.specs.Pieces.{NoNeighboursFit, SayTogether}
use Rattle.mpx_delta.proofs.Joining.{front_apart, last_apart, says_fused, says_itself}
use Rattle.mpx_delta.proofs.packing.+fuse.Goals as goal

on_ok : {T E P Q : Type 0} (r : Result T E) → (P → Q) → OnOk r P → OnOk r Q
on_ok (Ok x) f p = f p
on_ok (Err e) f p = p

pub returns-then-frame_len-limit-clause-says : goal.returns-then-frame_len-limit-clause-says
returns-then-frame_len-limit-clause-says t c = on_ok c.fuse.result
    (says_fused c.args.limit c.pop.new.self.items c.in-Some.last c.args.board c.in_ok-both.both c.args.made.now.items c.fuse.new.made.items c.in-Some.ensures.items c.in_ok-both.ensures (subst (λ n. n ≤ c.args.limit) c.frame_len.ensures c.if-frame_len-limit.true))
    c.fuse.ensures.says

pub returns-then-frame_len-limit-clause-few : goal.returns-then-frame_len-limit-clause-few
returns-then-frame_len-limit-clause-few t c = on_ok c.fuse.result
    (λ few apart. few (front_apart c.args.limit c.pop.new.self.items (c.in-Some.last ∷ []) (subst (NoNeighboursFit c.args.limit) c.in-Some.ensures.items apart)))
    c.fuse.ensures.few

pub returns-clause-says : goal.returns-clause-says
returns-clause-says t c =
    let all = (c.pop.new.self.items ++ c.in-Some.last ∷ []) ++ c.args.board ∷ [] in
    rw (c.in_ok-push-3.ensures.items, c.in_ok-push-2.ensures.items)
    (subst (λ l. SayTogether c.args.limit (l ++ c.args.board ∷ []) all) (sym c.in-Some.ensures.items) (says_itself c.args.limit all))

pub returns-clause-few : goal.returns-clause-few
returns-clause-few t c = λ apart.
    rw (c.in_ok-push-3.ensures.items, c.in_ok-push-2.ensures.items)
    (last_apart c.args.limit c.pop.new.self.items c.in-Some.last c.args.board (subst (NoNeighboursFit c.args.limit) c.in-Some.ensures.items apart) (subst (λ n. c.args.limit < n) (c.frame_len.ensures ∙ ap length_told c.in_ok-both.ensures) c.if-frame_len-limit.false))
