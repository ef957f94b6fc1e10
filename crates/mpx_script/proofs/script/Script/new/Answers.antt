use Rattle.std.proofs.Common.{◌≡◌, ◌∷◌, [], ◌++◌, sym, ap, ◌∙◌, arith, rules, map}
use Rattle.std.proofs.lemmas.List.FromFn.{map-range_with_len_more}
use Rattle.std.specs.List.{range_with_len}
use Rattle.mpx_script.proofs.script.Script.new.Goals as goal

pub loop-preserved : goal.loop-preserved
loop-preserved c =
    let pushed : c.push.new.self.items ≡ c.loop.statements.items ++ c.new.result ∷ [] = search rules in
    record {
      len = search rules;
      empty = pushed ∙ ap (λ xs. xs ++ c.new.result ∷ []) c.loop.invariant.empty ∙ ap (λ x. map (λ rank. []) (range_with_len 0 c.loop.counter) ++ x ∷ []) c.new.ensures
          ∙ sym (map-range_with_len_more (λ rank. []) 0 c.loop.counter c.loop.counter (omega arith));
    }
