-- The board after storing is the one that the list was made of.
use Rattle.std.proofs.Common.{sym, ap, ◌∙◌, subst}
use Rattle.std.specs.Prelude.{All}
use Rattle.mpx_board.specs.Looks.{look}
use Rattle.mpx_delta.specs.Facts.{OnlyFactsOf}
use Rattle.mpx_delta.specs.Digests.{Acknowledges, common_on, without}
use Rattle.mpx_delta.proofs.lacking.deltas.Goals as goal

pub returns-clause-own : goal.returns-clause-own
returns-clause-own c = subst (Acknowledges c.args.me (look c.args.board.now)) (sym (c.store.ensures.gives _ c.in_ok-said.ensures.raises)) c.in_ok-said.ensures.own

pub returns-clause-facts : goal.returns-clause-facts
returns-clause-facts c = subst (λ l. All (λ part. OnlyFactsOf (look part) l) c.in_ok-said.field-0.parts.items) (sym (c.store.ensures.gives _ c.in_ok-said.ensures.raises)) c.in_ok-said.ensures.facts

pub returns-clause-join : goal.returns-clause-join
returns-clause-join c = c.in_ok-said.ensures.join ∙ ap (λ l. without (common_on c.args.processes l) l) (sym (c.store.ensures.gives _ c.in_ok-said.ensures.raises))
