use Rattle.std.proofs.Common.{inl, inr}
use Rattle.mpx_threads.proofs.rest.are_at_rest.Goals as goal

pub returns-clause-yes : goal.returns-clause-yes
returns-clause-yes c t = inr (c.have_one_board.ensures.yes c.if-not-have_one_board.false, c.have_ended_or_lack.ensures.yes t)

pub returns-then-not-have_one_board-clause-no : goal.returns-then-not-have_one_board-clause-no
returns-then-not-have_one_board-clause-no c t rest = elim rest [
  | inl all ↦ c.have_ended.ensures.no c.if-have_ended.false all
  | inr some ↦ c.have_one_board.ensures.no c.if-not-have_one_board.true some.0
]

pub returns-clause-no : goal.returns-clause-no
returns-clause-no c t rest = elim rest [
  | inl all ↦ c.have_ended.ensures.no c.if-have_ended.false all
  | inr some ↦ c.have_ended_or_lack.ensures.no t some.1
]
