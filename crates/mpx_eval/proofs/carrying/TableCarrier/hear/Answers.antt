use Rattle.std.proofs.Common.{ap, refl, sym, ◌∙◌}
use Rattle.std.specs.Option.{option_map}
use Rattle.mpx_value.specs.Histories.{Answer}
use Rattle.mpx_rank.specs.Answered.{answer_of}
use Rattle.mpx_eval.proofs.carrying.TableCarrier.hear.Goals as goal

pub returns-clause-told : goal.returns-clause-told
returns-clause-told g c =
    let answered = c.in-Some.answered in
    let is = sym c.in_ok-answered.ensures ∙ ap (option_map answer_of) c.in-Some.is in
    (answered.outcome, ap (option_map (λ (a : Answer). a.outcome)) is, refl, (answer_of answered, is, c.in_ok-given.ensures))
