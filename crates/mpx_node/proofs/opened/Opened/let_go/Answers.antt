use Rattle.std.proofs.Common.{◌≡◌, arith}
use Rattle.mpx_node.specs.Stored.{after_gone, let_go}
use Rattle.mpx_node.proofs.Gone.{lets_up_to, lets_none}
use Rattle.mpx_node.proofs.opened.Opened.let_go.Goals as goal

pub returns-then-self-gone : goal.returns-then-self-gone
returns-then-self-gone c =
    let o = c.args.self.now in
    let most = c.min-gone.result in
    let rest : after_gone most c.drop_first.new.results.items ≡ let_go c.args.below (after_gone o.gone o.results.items) =
    lets_up_to c.args.below o.gone most o.results.items c.drop_first.new.results.items
    (omega (arith, c.min-gone.ensures))
    (omega (arith, c.min-gone.ensures, c.saturating_sub.ensures, c.count.ensures))
    (λ l. omega (arith, c.min-gone.ensures, c.saturating_sub.ensures, c.count.ensures, l))
    (omega (arith, c.if-self-gone.true)) c.drop_first.ensures in
    λ i. record { posted = o.posted; results = rest i; freed = o.freed }

pub returns-else-self-gone : goal.returns-else-self-gone
returns-else-self-gone c =
    let o = c.args.self.now in
    let rest : after_gone o.gone o.results.items ≡ let_go c.args.below (after_gone o.gone o.results.items) =
    lets_none c.args.below o.gone c.min-gone.result o.results.items
    (λ l. omega (arith, c.min-gone.ensures, c.saturating_sub.ensures, c.count.ensures, l))
    (omega (arith, c.if-self-gone.false)) in
    λ i. record { posted = o.posted; results = rest i; freed = o.freed }
