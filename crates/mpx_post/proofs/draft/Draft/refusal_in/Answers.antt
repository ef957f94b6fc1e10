use Rattle.std.proofs.Common.{◌∙◌, ap, sym}
use Rattle.std.specs.Option.{option_or}
use Rattle.mpx_post.specs.Drafts.{first_that_holds, place_refusals}
use Rattle.mpx_post.proofs.Checks.{shape_told, told_behind_shape}
use Rattle.mpx_post.proofs.draft.Draft.refusal_in.Goals as goal

pub returns-in-Some : goal.returns-in-Some
returns-in-Some c = sym (shape_told c.args.seat.now c.args.at.now c.args.self.now c.args.for_type c.in-Some.refusal (sym c.shape_refusal.ensures ∙ c.in-Some.is))

pub returns-in-Some-numbers_refusal : goal.returns-in-Some-numbers_refusal
returns-in-Some-numbers_refusal c =
    let place = first_that_holds (place_refusals c.args.seat.now.size c.args.at.now c.args.self.now) in
    sym (told_behind_shape c.args.seat.now c.args.at.now c.args.self.now c.args.for_type (sym c.shape_refusal.ensures ∙ c.in_default.is)
    ∙ ap (λ o. option_or o place) (sym c.numbers_refusal.ensures ∙ c.in-Some-numbers_refusal.is))

pub returns : goal.returns
returns c =
    let place = first_that_holds (place_refusals c.args.seat.now.size c.args.at.now c.args.self.now) in
    c.place_refusal.ensures
    ∙ sym (told_behind_shape c.args.seat.now c.args.at.now c.args.self.now c.args.for_type (sym c.shape_refusal.ensures ∙ c.in_default.is)
    ∙ ap (λ o. option_or o place) (sym c.numbers_refusal.ensures ∙ c.in_default-numbers_refusal.is))
