use Rattle.std.proofs.Common.{cond, None, ap, sym, ◌∙◌}
use Rattle.mpx_meaning.specs.Standing.{looked_up}
use Rattle.mpx_eval.proofs.missing.open_request.Goals as goal

pub returns-then-contains_key : goal.returns-then-contains_key
returns-then-contains_key c = ap (λ b. cond b None (looked_up c.args.requests.now c.args.word.now)) (sym (sym c.contains_key.ensures ∙ c.if-contains_key.true))

pub returns : goal.returns
returns c = c.get.ensures.value ∙ ap (λ b. cond b None (looked_up c.args.requests.now c.args.word.now)) (sym (sym c.contains_key.ensures ∙ c.if-contains_key.false))
