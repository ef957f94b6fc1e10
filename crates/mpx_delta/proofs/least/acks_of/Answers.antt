-- The numbers of the process, or none.
use Rattle.std.proofs.Common.{ap, sym, ◌∙◌}
use Rattle.std.specs.FinMap.{get}
use Rattle.std.specs.Option.{option_copied, option_map}
use Rattle.std.proofs.lemmas.Result.{IfOk-weaker}
use Rattle.mpx_board.specs.Looks.{parts_of}
use Rattle.mpx_board.specs.Tidy.{are_tidy_numbers}
use Rattle.mpx_board.specs.Views.{view_of_acks}
use Rattle.mpx_digest.specs.Digest.{numbers_acked}
use Rattle.mpx_delta.proofs.Lesser.{acks_none, acks_some, no_numbers, none_tidy, said_tidy}
use Rattle.mpx_delta.proofs.least.acks_of.Goals as goal

pub returns-in-None-clause-numbers : goal.returns-in-None-clause-numbers
returns-in-None-clause-numbers c name p = no_numbers _ c.new.ensures name p ∙ acks_none (parts_of c.args.board.now) c.args.process (sym (ap (λ v. get v.1 c.args.process) c.pair.ensures.value) ∙ sym c.get.ensures ∙ ap (λ o. option_map view_of_acks (option_copied o)) c.in-None.is) name p

pub returns-in-Some-clause-numbers : goal.returns-in-Some-clause-numbers
returns-in-Some-clause-numbers c = IfOk-weaker c.copy.result _ _ (λ made is name p. ap (λ d. numbers_acked d name p) is ∙ acks_some (parts_of c.args.board.now) c.args.process _ (sym (ap (λ v. get v.1 c.args.process) c.pair.ensures.value) ∙ sym c.get.ensures ∙ ap (λ o. option_map view_of_acks (option_copied o)) c.in-Some.is) name p) c.copy.ensures

pub returns-in-None-clause-tidy : goal.returns-in-None-clause-tidy
returns-in-None-clause-tidy c = none_tidy _ c.new.ensures

pub returns-in-Some-clause-tidy : goal.returns-in-Some-clause-tidy
returns-in-Some-clause-tidy c = IfOk-weaker c.copy.result _ _ (λ made is. ap are_tidy_numbers is ∙ said_tidy (parts_of c.args.board.now) c.args.process _ c.pair.ensures.tidy (sym (ap (λ v. get v.1 c.args.process) c.pair.ensures.value) ∙ sym c.get.ensures ∙ ap (λ o. option_map view_of_acks (option_copied o)) c.in-Some.is)) c.copy.ensures
