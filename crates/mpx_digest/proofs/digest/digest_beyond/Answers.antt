-- What the process says, and what it doesn't say yet.
use Rattle.std.proofs.Common.{ap, sym, ◌∙◌, subst}
use Rattle.std.proofs.lemmas.Result.{IfOk-weaker}
use Rattle.std.specs.FinMap.{get}
use Rattle.std.specs.Option.{option_copied, option_map}
use Rattle.mpx_board.specs.Looks.{look, parts_of}
use Rattle.mpx_board.specs.Tidy.{are_tidy_numbers}
use Rattle.mpx_board.specs.Views.{view_of_acks}
use Rattle.mpx_digest.specs.Digest.{IsDigestBeyond, numbers_acked}
use Rattle.mpx_digest.proofs.Saying.{above_is_beyond, above_tidy, digest_is_beyond}
use Rattle.mpx_digest.proofs.digest.digest_beyond.Goals as goal

pub returns-in-None-clause-digest : goal.returns-in-None-clause-digest
returns-in-None-clause-digest c = IfOk-weaker c.digest_of.result _ _ (λ made is. digest_is_beyond c.args.me (view_of_acks made) (look c.args.board.now) is) c.digest_of.ensures.digest

pub returns-in-Some-clause-digest : goal.returns-in-Some-clause-digest
returns-in-Some-clause-digest c =
    let some = sym (ap (λ v. get v.1 c.args.me) c.pair.ensures.value) ∙ sym c.get.ensures ∙ ap (λ o. option_map view_of_acks (option_copied o)) c.in-Some.is in
    IfOk-weaker c.digest_above.result _ _ (λ made is. subst (λ d. IsDigestBeyond c.args.me (numbers_acked d) (look c.args.board.now)) (sym is) (above_is_beyond c.args.me (view_of_acks c.in-Some.said.now) (parts_of c.args.board.now) some)) c.digest_above.ensures

pub returns-in-Some-clause-tidy : goal.returns-in-Some-clause-tidy
returns-in-Some-clause-tidy c = IfOk-weaker c.digest_above.result _ _ (λ made is. ap are_tidy_numbers is ∙ above_tidy (view_of_acks c.in-Some.said.now) (parts_of c.args.board.now)) c.digest_above.ensures
