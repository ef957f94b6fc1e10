use Rattle.std.proofs.Common.{rules, ◌≡◌, ◌∙◌, ◌≤◌, None, Some, length, string_bytes, sym, true}
use Rattle.mpx_words.specs.Words.{is_in_one_word, limits_of, usual, with_whole}
use Rattle.mpx_words.proofs.WordLemmas.{complains_of_whole, passes_whole}
use Rattle.mpx_words.proofs.refusal.complaint.Goals as goal

pub returns-in_default-with_whole : goal.returns-in_default-with_whole
returns-in_default-with_whole c =
    let some : 1 ≤ length c.loop-rest.rest.now = search rules in
    let whole : is_in_one_word (string_bytes c.option-item.result) ≡ true = search (rules, c.is_in_one_word.ensures, c.if-is_in_one_word.true, c.as_bytes.ensures.value) in
    let none : with_whole usual (string_bytes c.option-item.result) ≡ None = search rules in
    let said : c.limits_of.result.now ≡ limits_of (string_bytes c.option-item.result) = search rules in
    said ∙ sym (complains_of_whole string_bytes c.loop-rest.rest.now c.option-item.result some c.option-item.is whole none) ∙ c.loop-rest.invariant

pub loop-rest-preserved-then-is_in_one_word : goal.loop-rest-preserved-then-is_in_one_word
loop-rest-preserved-then-is_in_one_word c =
    let some : 1 ≤ length c.loop-rest.rest.now = search rules in
    let whole : is_in_one_word (string_bytes c.option-item.result) ≡ true = search (rules, c.is_in_one_word.ensures, c.if-is_in_one_word.true, c.as_bytes.ensures.value) in
    let more : with_whole usual (string_bytes c.option-item.result) ≡ Some c.in-Some.field-0 = search rules in
    passes_whole string_bytes c.in-Some.field-0 c.loop-rest.rest.now c.option-item.result some c.option-item.is whole more ∙ c.loop-rest.invariant
