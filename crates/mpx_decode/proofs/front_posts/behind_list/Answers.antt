use Rattle.std.proofs.Common.{ℕ, ◌≡◌, ◌+◌, ◌++◌, ◌∷◌, [], length, take, get_or, Ok, ap, sym, subst, ◌∙◌, rules}
use Rattle.std.proofs.lemmas.List.{take_all, take_more}
use Rattle.mpx_format.specs.Posts.{count}
use Rattle.mpx_decode.proofs.Loop.{ReadSoFar, goes_on, is_done}
use Rattle.mpx_decode.proofs.front_posts.behind_list.Goals as goal

pub loop-i-preserved : goal.loop-i-preserved
loop-i-preserved c =
    let list = c.args.list.now in
    let i = c.loop-i.i in
    let n = c.in-Ok.count in
    let same : n ≡ get_or list i 0 = search rules in
    let more : take (i + 1) list ≡ take i list ++ n ∷ [] = take_more list i 0 c.loop-i-test.true ∙ ap (λ (m : ℕ). take i list ++ m ∷ []) (sym same) in
    record {
      read = subst (λ front. ReadSoFar (λ before. count) (length list) (i + 1) front c.in-Ok.after.now c.args.bytes.now) (sym more)
          (goes_on (λ before. count) (take i list) (length list) i c.loop-i.rest.now c.args.bytes.now n c.in-Ok.after.now c.loop-i-test.true c.in-Ok.ensures.read c.loop-i.invariant.read);
    }

pub returns : goal.returns
returns c =
    let list = c.args.list.now in
    is_done (λ before. count) (take c.loop-i.i list) (length list) c.loop-i.i c.loop-i.rest.now c.args.bytes.now c.loop-i-test.false c.loop-i.invariant.read
    ∙ ap (λ front. Ok (front, c.loop-i.rest.now)) (take_all c.loop-i.i list c.loop-i-test.false)
