use Rattle.std.proofs.Common.{◌≡◌, [], sym, ap, ◌∙◌, arith, slice_get, drop}
use Rattle.std.proofs.lemmas.Bool.Decides.{nat_tests}
use Rattle.mpx_script.specs.Words.{words}
use Rattle.mpx_script.proofs.Splits.{word_found, no_word_found}
use Rattle.mpx_script.proofs.words.first_word.Goals as goal

pub returns-then-is_empty-clause-word : goal.returns-then-is_empty-clause-word
returns-then-is_empty-clause-word c =
    let none : (words c.args.line.now ≡ []) × (words c.split_at-2.result.1.now ≡ []) = no_word_found c.args.line.now c.split_at.result.1.now c.split_at-2.result.0.now c.split_at-2.result.1.now (cc) (cc) (cc) (grind (arith, nat_tests)) in
    ap (λ ws. slice_get ws 0) (sym none.0)

pub returns-then-is_empty-clause-rest : goal.returns-then-is_empty-clause-rest
returns-then-is_empty-clause-rest c =
    let none : (words c.args.line.now ≡ []) × (words c.split_at-2.result.1.now ≡ []) = no_word_found c.args.line.now c.split_at.result.1.now c.split_at-2.result.0.now c.split_at-2.result.1.now (cc) (cc) (cc) (grind (arith, nat_tests)) in
    none.1 ∙ ap (drop 1) (sym none.0)

pub returns-else-is_empty-clause-word : goal.returns-else-is_empty-clause-word
returns-else-is_empty-clause-word c =
    ap (λ ws. slice_get ws 0) (sym (word_found c.args.line.now c.split_at.result.1.now c.split_at-2.result.0.now c.split_at-2.result.1.now (cc) (cc) (cc) (grind (arith, nat_tests))))

pub returns-else-is_empty-clause-rest : goal.returns-else-is_empty-clause-rest
returns-else-is_empty-clause-rest c =
    ap (drop 1) (sym (word_found c.args.line.now c.split_at.result.1.now c.split_at-2.result.0.now c.split_at-2.result.1.now (cc) (cc) (cc) (grind (arith, nat_tests))))
