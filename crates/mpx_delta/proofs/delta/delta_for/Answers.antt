-- The parts of the lean board.
use Rattle.std.proofs.Common.{ap, ◌∙◌, subst}
use Rattle.std.proofs.lemmas.Result.{IfOk-weaker}
use Rattle.std.proofs.lemmas.List.Elements.{All-weaker}
use Rattle.mpx_board.specs.Looks.{look}
use Rattle.mpx_board.specs.Views.{view_of_acks}
use Rattle.mpx_board.specs.Boards.{Has, Look, join}
use Rattle.mpx_digest.specs.Digest.{numbers_acked}
use Rattle.mpx_delta.specs.Facts.{OnlyFactsOf}
use Rattle.mpx_delta.specs.Digests.{without}
use Rattle.mpx_delta.proofs.Leaning.{without_only}
use Rattle.mpx_delta.proofs.Serving.{delta_serves}
use Rattle.mpx_delta.proofs.delta.delta_for.Goals as goal

pub returns-clause-facts : goal.returns-clause-facts
returns-clause-facts c =
    let is = c.in_ok-lean.ensures ∙ ap (λ (l : Look). without (numbers_acked (view_of_acks c.args.digest.now)) (record (look c.args.board.now) { acks = l.acks })) c.in_ok-said.ensures in
    IfOk-weaker c.parts.result _ _ (λ made all. All-weaker (λ part. OnlyFactsOf (look part) (look c.in_ok-lean.lean)) (λ part. OnlyFactsOf (look part) (look c.args.board.now)) (λ part only f has. without_only (numbers_acked (view_of_acks c.args.digest.now)) (look c.args.board.now) f (subst (λ b. Has b f) is (only f has))) made.items all) c.parts.ensures.facts

pub returns-clause-join : goal.returns-clause-join
returns-clause-join c =
    let is = c.in_ok-lean.ensures ∙ ap (λ (l : Look). without (numbers_acked (view_of_acks c.args.digest.now)) (record (look c.args.board.now) { acks = l.acks })) c.in_ok-said.ensures in
    IfOk-weaker c.parts.result _ _ (λ made e. e ∙ is) c.parts.ensures.join

pub returns-clause-serves : goal.returns-clause-serves
returns-clause-serves c =
    let is = c.in_ok-lean.ensures ∙ ap (λ (l : Look). without (numbers_acked (view_of_acks c.args.digest.now)) (record (look c.args.board.now) { acks = l.acks })) c.in_ok-said.ensures in
    IfOk-weaker c.parts.result _ _ (λ made e b covers. ap (join b) (e ∙ is) ∙ delta_serves (numbers_acked (view_of_acks c.args.digest.now)) (look c.args.board.now) b covers) c.parts.ensures.join
