-- What was made of a board that shows this one was made of this one.
use Rattle.mpx_board.specs.Looks.{parts_of}
use Rattle.mpx_board.proofs.Acknowledging.{stored_above, stored_gives, stored_tidy}
use Rattle.mpx_board.proofs.board.Board.store.Goals as goal

pub returns-clause-gives : goal.returns-clause-gives
returns-clause-gives c new r = stored_gives c.args.raised (parts_of c.args.self.now) c.args.self.now.tidy new r _ (λ i. ((parts_of c.args.self.now).0, c.exchange_acks-before.ensures.new i))

pub returns-clause-above : goal.returns-clause-above
returns-clause-above c = stored_above c.args.raised (parts_of c.args.self.now) c.args.self.now.tidy c.requires.made.0 c.requires.made.1 _ (λ i. ((parts_of c.args.self.now).0, c.exchange_acks-before.ensures.new i))

pub invariant_of-self : goal.invariant_of-self
invariant_of-self c = record { tidy = stored_tidy c.args.raised (parts_of c.args.self.now) c.args.self.now.tidy c.requires.made.0 c.requires.made.1 _ (λ i. ((parts_of c.args.self.now).0, c.exchange_acks-before.ensures.new i)) }
