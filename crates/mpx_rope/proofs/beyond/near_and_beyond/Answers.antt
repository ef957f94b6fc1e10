use Rattle.std.proofs.Common.{◌≡◌, ◌-◌, ◌++◌, ℕ, List, drop, length, rules, subst, sym, take}
use Rattle.mpx_rope.specs.Ropes.{woven}
use Rattle.mpx_rope.proofs.Weaves.{beyond_woven}
use Rattle.mpx_rope.proofs.beyond.near_and_beyond.Goals as goal

pub returns : goal.returns
returns c =
    let own = c.args.own.now in
    let near : c.split_at.result.0.now ≡ take c.near_len-count.result own = search rules in
    let rest : c.split_at.result.1.now ≡ drop c.near_len-count.result own = search rules in
    subst (λ (x : List ℕ × List ℕ). woven (c.args.end - length own) own c.args.shared.now ≡ x.0 ++ woven (c.args.end - length x.1) x.1 c.args.shared.now) (λ i. (sym near i, sym rest i))
    (beyond_woven c.args.end c.near_len-count.result own c.args.shared.now c.requires c.near_len-count.ensures.is)
