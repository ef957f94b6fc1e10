use Rattle.std.proofs.Common.{◌≡◌, ℕ, ◌==◌, List, [], ◌∷◌, ◌++◌, codes, bytes_eq, false, Some, None, rules, tests, sym, ap, ◌∙◌}
use Rattle.std.proofs.lemmas.Iterator.Consumers.{YieldsList-at, YieldsList-turn, YieldsList-end}
use Rattle.std.proofs.lemmas.Iterator.Splits.{YieldsList-from_slice_split}
use Rattle.std.proofs.lemmas.List.{map_push}
use Rattle.std.specs.List.{slice_split}
use Rattle.mpx_num.specs.Text.{number_of}
use Rattle.mpx_post.specs.Rows.{all_of}
use Rattle.mpx_script.specs.Fields.{list_named}
use Rattle.mpx_statement.proofs.Entries.{all_of_push, all_of_none}
use Rattle.mpx_script.proofs.fields.list_named.Goals as goal

-- another word than `-`
listed : (word : List ℕ) → bytes_eq word (codes "-") ≡ false → list_named word ≡ all_of number_of (slice_split (λ byte. byte == 44) word)
unfolding list_named
listed word h = rw h

pub returns-in_default : goal.returns-in_default
returns-in_default c =
    let turn = YieldsList-turn (YieldsList-at c.into_iter-part-iterator.ensures.into_iter_gives (YieldsList-from_slice_split _ (λ byte. byte == 44) c.args.word.now c.split-part-items.ensures.rest c.split-part-items.ensures.done c.split-part-items.ensures.closure (λ x r q k. search (rules, tests)))) c.loop-part.yielded _ c.loop-part.yielded_by _ _ c.in-Some.part c.in-Some.is c.next.ensures.steps in
    let strange : number_of c.in-Some.part.now ≡ None = search rules in
    sym (listed c.args.word.now (search rules) ∙ all_of_none number_of _ _ c.in-Some.part.now turn.0 (ap number_of (sym turn.1) ∙ strange))

pub loop-part-preserved : goal.loop-part-preserved
loop-part-preserved c =
    let pushed : c.push.new.self.items ≡ c.loop-part.numbers.items ++ c.in-Some-parse_number.number ∷ [] = search rules in
    ap (all_of number_of) (map_push (λ part. part.now) c.loop-part.yielded c.in-Some.part) ∙ all_of_push number_of _ c.loop-part.numbers.items c.in-Some.part.now c.in-Some-parse_number.number c.loop-part.invariant (search rules) ∙ ap Some (sym pushed)

pub returns : goal.returns
returns c =
    let end = YieldsList-end (YieldsList-at c.into_iter-part-iterator.ensures.into_iter_gives (YieldsList-from_slice_split _ (λ byte. byte == 44) c.args.word.now c.split-part-items.ensures.rest c.split-part-items.ensures.done c.split-part-items.ensures.closure (λ x r q k. search (rules, tests)))) c.loop-part.yielded _ c.loop-part.yielded_by _ _ c.in-None.is c.next.ensures.steps in
    ap Some c.in_ok-new-2.ensures ∙ sym c.loop-part.invariant ∙ ap (all_of number_of) end.0 ∙ sym (listed c.args.word.now (search rules))
