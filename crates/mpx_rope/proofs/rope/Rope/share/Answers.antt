use Rattle.std.proofs.Common.{◌≡◌, ℕ, ◌+◌, ◌<◌, ◌^◌, ◌++◌, List, length, ap, arith, ◌∙◌}
use Rattle.mpx_rope.specs.Ropes.{item_bytes, woven}
use Rattle.mpx_rope.proofs.Weaves.{rope_share, rope_shared}
use Rattle.mpx_rope.proofs.rope.Rope.share.Goals as goal

pub invariant_of-self-2 : goal.invariant_of-self-2
invariant_of-self-2 c =
    let own = c.self.inside.own in
    let ss = c.self.inside.shared.items in
    let carried = c.self.inside.carried in
    let b : List ℕ = item_bytes c.args.items.now in
    let s : ℕ × List ℕ = (c.len-place.result, b) in
    let count : length c.bytes-count.result.now ≡ length b = ap length c.bytes-count.ensures.spelling in
    let place : c.len-place.result ≡ length own.items = omega (arith, c.len-place.ensures, own.ok.0) in
    let few : carried + length b < 2 ^ 62 = omega (arith, c.if-self-count.false, c.self.invariant.few, count) in
    rw (c.in_ok-push_piece.ensures.ok, count) (rope_share own.items ss s carried c.self.invariant place few c.requires)

pub returns-clause-ok : goal.returns-clause-ok
returns-clause-ok c =
    let own = c.self.inside.own in
    let ss = c.self.inside.shared.items in
    let b : List ℕ = item_bytes c.args.items.now in
    let s : ℕ × List ℕ = (c.len-place.result, b) in
    let place : c.len-place.result ≡ length own.items = omega (arith, c.len-place.ensures, own.ok.0) in
    ap (woven 0 own.items) c.in_ok-push_piece.ensures.ok ∙ rope_shared own.items ss s c.self.inside.carried c.self.invariant place ∙ ap (λ l. l ++ b) c.self.view_is
