-- The lesser of the numbers of the process, or none.
use Rattle.std.proofs.Common.{arith, ◌≡◌, ℕ, min, ap, sym, ◌∙◌}
use Rattle.std.specs.FinMap.{get}
use Rattle.std.specs.Option.{option_copied, option_map}
use Rattle.std.proofs.lemmas.Result.{IfOk-weaker}
use Rattle.mpx_board.specs.Looks.{parts_of}
use Rattle.mpx_board.specs.Tidy.{are_tidy_numbers}
use Rattle.mpx_board.specs.Views.{view_of_acks}
use Rattle.mpx_digest.specs.Digest.{numbers_acked}
use Rattle.mpx_delta.proofs.Lesser.{acks_none, acks_some, no_numbers, least_at, least_below, least_tidy, none_tidy, said_tidy}
use Rattle.mpx_delta.proofs.least.least_of.Goals as goal

zero_right : (n : ℕ) → 0 ≡ min n 0
zero_right n = omega arith

pub returns-in-None-clause-least : goal.returns-in-None-clause-least
returns-in-None-clause-least c name p = no_numbers _ c.new.ensures name p ∙ zero_right (numbers_acked (view_of_acks c.args.numbers) name p) ∙ ap (min (numbers_acked (view_of_acks c.args.numbers) name p)) (acks_none (parts_of c.args.board.now) c.args.process (sym (ap (λ v. get v.1 c.args.process) c.pair.ensures.value) ∙ sym c.get.ensures ∙ ap (λ o. option_map view_of_acks (option_copied o)) c.in-None.is) name p)

pub returns-clause-least : goal.returns-clause-least
returns-clause-least c = IfOk-weaker c.least.result _ _ (λ made is name p. ap (λ d. numbers_acked d name p) is ∙ least_at (view_of_acks c.args.numbers) _ name p ∙ ap (min (numbers_acked (view_of_acks c.args.numbers) name p)) (acks_some (parts_of c.args.board.now) c.args.process _ (sym (ap (λ v. get v.1 c.args.process) c.pair.ensures.value) ∙ sym c.get.ensures ∙ ap (λ o. option_map view_of_acks (option_copied o)) c.in-Some.is) name p)) c.least.ensures

pub returns-then-leq-clause-least : goal.returns-then-leq-clause-least
returns-then-leq-clause-least c name p = least_below (view_of_acks c.args.numbers) _ (sym c.leq.ensures ∙ c.if-leq.true) name p ∙ ap (min (numbers_acked (view_of_acks c.args.numbers) name p)) (acks_some (parts_of c.args.board.now) c.args.process _ (sym (ap (λ v. get v.1 c.args.process) c.pair.ensures.value) ∙ sym c.get.ensures ∙ ap (λ o. option_map view_of_acks (option_copied o)) c.in-Some.is) name p)

pub returns-in-None-clause-tidy : goal.returns-in-None-clause-tidy
returns-in-None-clause-tidy c = none_tidy _ c.new.ensures

pub returns-clause-tidy : goal.returns-clause-tidy
returns-clause-tidy c = IfOk-weaker c.least.result _ _ (λ made is. ap are_tidy_numbers is ∙ least_tidy (view_of_acks c.args.numbers) _ c.requires (said_tidy (parts_of c.args.board.now) c.args.process _ c.pair.ensures.tidy (sym (ap (λ v. get v.1 c.args.process) c.pair.ensures.value) ∙ sym c.get.ensures ∙ ap (λ o. option_map view_of_acks (option_copied o)) c.in-Some.is))) c.least.ensures
