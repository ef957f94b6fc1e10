use Rattle.std.proofs.Common.{refl, sym, ◌∙◌}
use Rattle.std.proofs.lemmas.Result.{IfOk-weaker}
use Rattle.mpx_board.specs.Looks.{parts_of}
use Rattle.mpx_board.specs.Views.{view_of_acks}
use Rattle.mpx_board.proofs.Acknowledging.{raises_more, raises_nothing}
use Rattle.mpx_board.proofs.board.Board.raised.Goals as goal

pub returns-then-is_empty : goal.returns-then-is_empty
returns-then-is_empty c = raises_nothing c.args.process (view_of_acks c.args.said.now) _ (parts_of c.args.self.now) c.args.self.now.tidy refl (sym c.is_empty.ensures ∙ c.if-is_empty.true)

pub returns : goal.returns
returns c = IfOk-weaker c.raised_by.result _ _ (λ made gets. raises_more c.args.process (view_of_acks c.args.said.now) made (parts_of c.args.self.now) c.args.self.now.tidy gets (sym c.is_empty.ensures ∙ c.if-is_empty.false) c.requires) c.raised_by.ensures
