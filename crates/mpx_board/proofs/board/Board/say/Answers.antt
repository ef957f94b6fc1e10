-- What was made is stored, and what stood there is given back.
use Rattle.mpx_board.specs.Looks.{parts_of}
use Rattle.mpx_board.proofs.Acknowledging.{stored_gives}
use Rattle.mpx_board.proofs.Exchanging.{raised_leads}
use Rattle.mpx_board.proofs.board.Board.say.Goals as goal

pub exchange-requires : goal.exchange-requires
exchange-requires c = (_, raised_leads c.in_ok-raised.raised (parts_of c.args.self.now) c.args.self.now.tidy _ c.in_ok-raised.ensures)

pub returns-clause-ok : goal.returns-clause-ok
returns-clause-ok c =
    let leads = raised_leads c.in_ok-raised.raised (parts_of c.args.self.now) c.args.self.now.tidy _ c.in_ok-raised.ensures in
    stored_gives c.in_ok-raised.raised (parts_of c.args.self.now) c.args.self.now.tidy _ c.in_ok-raised.ensures (parts_of c.exchange.new.self) (c.exchange.ensures.new _ leads)
