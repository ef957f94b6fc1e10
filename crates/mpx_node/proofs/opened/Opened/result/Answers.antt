use Rattle.std.proofs.Common.{sym, ◌∙◌, arith}
use Rattle.mpx_node.proofs.Gone.{lent_there, none_before, stored_from}
use Rattle.mpx_node.proofs.opened.Opened.result.Goals as goal

pub returns-then-call-self : goal.returns-then-call-self
returns-then-call-self c = sym (none_before c.args.self.now.gone c.args.self.now.results.items c.args.call (omega (arith, c.if-call-self.true)))

pub returns : goal.returns
returns c =
    let o = c.args.self.now in
    lent_there o.results.items _ _ c.get.result (λ l. l) (λ l. l) c.get.ensures.item
    ∙ sym (stored_from o.gone o.results.items c.args.call (omega (arith, c.if-call-self.false)))
