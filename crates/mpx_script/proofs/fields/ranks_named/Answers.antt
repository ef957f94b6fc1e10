use Rattle.std.proofs.Common.{◌≡◌, ℕ, ◌==◌, List, [], ◌∷◌, ◌++◌, codes, bytes_eq, false, Some, None, rules, tests, sym, ap, ◌∙◌}
use Rattle.std.proofs.lemmas.Iterator.Consumers.{YieldsList-at, YieldsList-turn, YieldsList-end}
use Rattle.std.proofs.lemmas.Iterator.Splits.{YieldsList-from_slice_split}
use Rattle.std.proofs.lemmas.List.{map_push}
use Rattle.std.specs.List.{slice_split}
use Rattle.mpx_post.specs.Rows.{all_of}
use Rattle.mpx_script.specs.Fields.{rank_named, ranks_named}
use Rattle.mpx_statement.proofs.Entries.{all_of_push, all_of_none}
use Rattle.mpx_script.proofs.fields.ranks_named.Goals as goal

-- another word than `-`
listed : (word : List ℕ) → bytes_eq word (codes "-") ≡ false → ranks_named word ≡ all_of rank_named (slice_split (λ byte. byte == 44) word)
unfolding ranks_named
listed word h = rw h

pub returns-in_default : goal.returns-in_default
returns-in_default c =
    let turn = YieldsList-turn (YieldsList-at c.into_iter-part-iterator.ensures.into_iter_gives (YieldsList-from_slice_split _ (λ byte. byte == 44) c.args.word.now c.split-part-items.ensures.rest c.split-part-items.ensures.done c.split-part-items.ensures.closure (λ x r q k. search (rules, tests)))) c.loop-part.yielded _ c.loop-part.yielded_by _ _ c.in-Some.part c.in-Some.is c.next.ensures.steps in
    let strange : rank_named c.in-Some.part.now ≡ None = search rules in
    sym (listed c.args.word.now (search rules) ∙ all_of_none rank_named _ _ c.in-Some.part.now turn.0 (ap rank_named (sym turn.1) ∙ strange))

pub loop-part-preserved : goal.loop-part-preserved
loop-part-preserved c =
    let pushed : c.push.new.self.items ≡ c.loop-part.ranks.items ++ c.in-Some-rank_named.rank ∷ [] = search rules in
    ap (all_of rank_named) (map_push (λ part. part.now) c.loop-part.yielded c.in-Some.part) ∙ all_of_push rank_named _ c.loop-part.ranks.items c.in-Some.part.now c.in-Some-rank_named.rank c.loop-part.invariant (search rules) ∙ ap Some (sym pushed)

pub returns : goal.returns
returns c =
    let end = YieldsList-end (YieldsList-at c.into_iter-part-iterator.ensures.into_iter_gives (YieldsList-from_slice_split _ (λ byte. byte == 44) c.args.word.now c.split-part-items.ensures.rest c.split-part-items.ensures.done c.split-part-items.ensures.closure (λ x r q k. search (rules, tests)))) c.loop-part.yielded _ c.loop-part.yielded_by _ _ c.in-None.is c.next.ensures.steps in
    ap Some c.new-2.ensures ∙ sym c.loop-part.invariant ∙ ap (all_of rank_named) end.0 ∙ sym (listed c.args.word.now (search rules))
