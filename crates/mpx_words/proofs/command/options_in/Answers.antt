use Rattle.std.proofs.Common.{rules, ◌≡◌, ◌∙◌, ◌≤◌, None, Some, length, string_bytes, sym, true, false}
use Rattle.mpx_words.specs.Words.{is_in_one_word, with_option, with_whole}
use Rattle.mpx_words.proofs.WordLemmas.{none_whole, one_option, one_whole, one_word}
use Rattle.mpx_words.proofs.command.options_in.Goals as goal

pub returns-in_err-read : goal.returns-in_err-read
returns-in_err-read c =
    let some : 1 ≤ length c.loop-rest.rest.now = search rules in
    let whole : is_in_one_word (string_bytes c.option-item.result) ≡ true = search (rules, c.is_in_one_word.ensures, c.if-is_in_one_word.true, c.as_bytes.ensures.value) in
    let none : with_whole c.loop-rest.read (string_bytes c.option-item.result) ≡ None = search rules in
    let gives : c.from_residual.result ≡ None = search rules in
    gives ∙ sym (none_whole string_bytes c.loop-rest.read c.loop-rest.rest.now c.option-item.result some c.option-item.is whole none) ∙ c.loop-rest.invariant

pub returns-in_default-rest : goal.returns-in_default-rest
returns-in_default-rest c =
    let one : length c.loop-rest.rest.now ≡ 1 = search rules in
    let differs : is_in_one_word (string_bytes c.option-item.result) ≡ false = search (rules, c.is_in_one_word.ensures, c.if-is_in_one_word.false, c.as_bytes.ensures.value) in
    sym (one_word string_bytes c.loop-rest.read c.loop-rest.rest.now c.option-item.result one c.option-item.is differs) ∙ c.loop-rest.invariant

pub loop-rest-preserved-then-is_in_one_word : goal.loop-rest-preserved-then-is_in_one_word
loop-rest-preserved-then-is_in_one_word c =
    let some : 1 ≤ length c.loop-rest.rest.now = search rules in
    let whole : is_in_one_word (string_bytes c.option-item.result) ≡ true = search (rules, c.is_in_one_word.ensures, c.if-is_in_one_word.true, c.as_bytes.ensures.value) in
    let more : with_whole c.loop-rest.read (string_bytes c.option-item.result) ≡ Some c.in_ok-read.read = search (rules, c.in_ok-read.ensures, c.in_ok-read.is, c.with_whole.ensures) in
    one_whole string_bytes c.loop-rest.read c.in_ok-read.read c.loop-rest.rest.now c.option-item.result some c.option-item.is whole more ∙ c.loop-rest.invariant

pub loop-rest-preserved : goal.loop-rest-preserved
loop-rest-preserved c =
    let two : 2 ≤ length c.loop-rest.rest.now = search rules in
    let differs : is_in_one_word (string_bytes c.option-item.result) ≡ false = search (rules, c.is_in_one_word.ensures, c.if-is_in_one_word.false, c.as_bytes.ensures.value) in
    let more : with_option c.loop-rest.read (string_bytes c.option-item.result) (string_bytes c.value-item.result) ≡ Some c.in_ok-read-2.read = search (rules, c.in_ok-read-2.ensures, c.in_ok-read-2.is, c.with_option.ensures) in
    one_option string_bytes c.loop-rest.read c.in_ok-read-2.read c.loop-rest.rest.now c.option-item.result c.value-item.result two c.option-item.is c.value-item.is differs more ∙ c.loop-rest.invariant
