use Rattle.std.proofs.Common.{rules, ◌≡◌, ◌+◌, ◌++◌, ◌∷◌, [], take, sym, ap, ◌∙◌, append_assoc}
use Rattle.std.proofs.lemmas.List.{take_more}
use Rattle.mpx_call.specs.Pairs.{both_numbers}
use Rattle.mpx_call.proofs.Pairs.{both_push}
use Rattle.mpx_call.proofs.item.both_of.Goals as goal

pub loop-pair-preserved : goal.loop-pair-preserved
loop-pair-preserved g c =
    let i = c.loop-pair.pair-index in
    let pairs = c.args.pairs.now in
    let p = c.pair-item.result in
    let one : take (i + 1) pairs ≡ take i pairs ++ p ∷ [] = take_more pairs i p c.loop-pair-test.true ∙ ap (λ x. take i pairs ++ x ∷ []) (sym c.pair-item.is) in
    let first : c.push.new.self.items ≡ c.loop-pair.both.items ++ p.0 ∷ [] = search rules in
    let second : c.push-in-loop-pair.new.self.items ≡ c.push.new.self.items ++ p.1 ∷ [] = search rules in
    second ∙ ap (λ l. l ++ p.1 ∷ []) (first ∙ ap (λ l. l ++ p.0 ∷ []) c.loop-pair.invariant)
    ∙ append_assoc (both_numbers (take i pairs)) (p.0 ∷ []) (p.1 ∷ []) ∙ sym (both_push (take i pairs) p) ∙ ap both_numbers (sym one)
