use Rattle.std.proofs.Common.{ap, refl, sym, ◌∙◌}
use Rattle.mpx_board.specs.Tidy.{is_tidy}
use Rattle.mpx_board.proofs.board.Board.exchange.Goals as goal

pub returns-clause-new : goal.returns-clause-new
returns-clause-new c new l i = (sym l.contexts i, (c.exchange_acks.ensures.new ∙ l.says) i)

pub returns-clause-back : goal.returns-clause-back
returns-clause-back c = record { contexts = refl; says = c.exchange_acks.ensures.back; neat = c.args.self.now.tidy }

pub invariant_of-self : goal.invariant_of-self
invariant_of-self c =
    let l = c.requires.1 in
    record { tidy = ap is_tidy (λ i. (sym l.contexts i, (c.exchange_acks.ensures.new ∙ l.says) i)) ∙ l.neat }
