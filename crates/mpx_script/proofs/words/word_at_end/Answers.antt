use Rattle.std.proofs.Common.{◌≡◌, ◌∷◌, [], ◌++◌, ◌-◌, ◌<◌, ◌&&◌, nat_lt, false, length, take, drop, get_or, slice_get, ap, sym, ◌∙◌, subst, arith}
use Rattle.std.proofs.lemmas.Bool.Decides.{nat_tests}
use Rattle.mpx_script.specs.Words.{is_blank, words}
use Rattle.mpx_script.proofs.Splits.{bare_taken, before_pushed, last_of_pushed, no_word_at_end, word_at_end}
use Rattle.mpx_script.proofs.words.word_at_end.Goals as goal
use Rattle.mpx_script.proofs.words.word_at_end.Goals.{After-is_empty}

same_words : (c : After-is_empty) → words c.split_at.result.0.now ≡ words c.args.line.now
same_words c = ap words c.split_at.ensures.front ∙ c.len_without_blanks.ensures.words

bare : (c : After-is_empty) → (nat_lt 0 (length c.split_at.result.0.now) && is_blank (get_or c.split_at.result.0.now (length c.split_at.result.0.now - 1) 0)) ≡ false
bare c = subst (λ l. (nat_lt 0 (length l) && is_blank (get_or l (length l - 1) 0)) ≡ false) (sym c.split_at.ensures.front) (bare_taken c.args.line.now c.len_without_blanks.result c.len_without_blanks.ensures.within c.len_without_blanks.ensures.end)

without_word : (c : After-is_empty) → length c.split_at-2.result.1.now ≡ 0 → (words c.args.line.now ≡ []) × (words c.split_at-2.result.0.now ≡ [])
without_word c none =
    let nothing = no_word_at_end c.split_at.result.0.now c.len_up_to_blank.result (bare c) c.len_up_to_blank.ensures.within c.len_up_to_blank.ensures.end (ap length (sym c.split_at-2.ensures.back) ∙ none) in
    (sym (same_words c) ∙ nothing.0, ap words c.split_at-2.ensures.front ∙ nothing.1)

with_word : (c : After-is_empty) → 0 < length c.split_at-2.result.1.now → words c.args.line.now ≡ words c.split_at-2.result.0.now ++ c.split_at-2.result.1.now ∷ []
with_word c some =
    let found : words c.split_at.result.0.now ≡ words (take c.len_up_to_blank.result c.split_at.result.0.now) ++ drop c.len_up_to_blank.result c.split_at.result.0.now ∷ [] =
    word_at_end c.split_at.result.0.now c.len_up_to_blank.result (bare c) c.len_up_to_blank.ensures.within c.len_up_to_blank.ensures.end c.len_up_to_blank.ensures.behind (subst (λ w. 0 < length w) c.split_at-2.ensures.back some) in
    sym (same_words c) ∙ found ∙ ap (λ front. words front ++ drop c.len_up_to_blank.result c.split_at.result.0.now ∷ []) (sym c.split_at-2.ensures.front) ∙ ap (λ w. words c.split_at-2.result.0.now ++ w ∷ []) (sym c.split_at-2.ensures.back)

pub returns-then-is_empty-clause-word : goal.returns-then-is_empty-clause-word
returns-then-is_empty-clause-word c =
    ap (λ ws. slice_get ws (length ws - 1)) (sym (without_word (goal.at.returns-then-is_empty-clause-word c).After-is_empty (grind (arith, nat_tests))).0)

pub returns-then-is_empty-clause-rest : goal.returns-then-is_empty-clause-rest
returns-then-is_empty-clause-rest c =
    let none = without_word (goal.at.returns-then-is_empty-clause-rest c).After-is_empty (grind (arith, nat_tests)) in
    none.1 ∙ ap (λ ws. take (length ws - 1) ws) (sym none.0)

pub returns-else-is_empty-clause-word : goal.returns-else-is_empty-clause-word
returns-else-is_empty-clause-word c =
    sym (ap (λ ws. slice_get ws (length ws - 1)) (with_word (goal.at.returns-else-is_empty-clause-word c).After-is_empty (grind (arith, nat_tests))) ∙ last_of_pushed (words c.split_at-2.result.0.now) c.split_at-2.result.1.now)

pub returns-else-is_empty-clause-rest : goal.returns-else-is_empty-clause-rest
returns-else-is_empty-clause-rest c =
    sym (ap (λ ws. take (length ws - 1) ws) (with_word (goal.at.returns-else-is_empty-clause-rest c).After-is_empty (grind (arith, nat_tests))) ∙ before_pushed (words c.split_at-2.result.0.now) c.split_at-2.result.1.now)
