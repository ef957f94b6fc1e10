use Rattle.std.proofs.Common.{◌≡◌, ◌∙◌, ◌==◌, [], ◌∷◌, codes, map, string_bytes, ap, sym, lit<}
use Rattle.std.proofs.lemmas.Iterator.Consumers.{YieldsList-at, YieldsList-end}
use Rattle.std.proofs.lemmas.Iterator.Splits.{YieldsList-from_str_split}
use Rattle.std.proofs.lemmas.List.{map_push}
use Rattle.gossipmpi_c.specs.Options.{with_word, with_words}
use Rattle.gossipmpi_c.proofs.Words.{with_words-push}
use Rattle.gossipmpi_c.proofs.options.words_of.Goals as goal

pub loop-part-preserved : goal.loop-part-preserved
loop-part-preserved c =
    let begin = codes "gossipmpi" ∷ codes "run" ∷ [] in
    c.in_ok-push_word-3.ensures ∙ ap (λ words. with_word words c.in-Some.part.now) c.loop-part.invariant ∙ sym (with_words-push begin (map (λ part. part.now) c.loop-part.yielded) c.in-Some.part.now)
    ∙ ap (with_words begin) (sym (map_push (λ part. part.now) c.loop-part.yielded c.in-Some.part))

pub returns : goal.returns
returns c =
    let begin = codes "gossipmpi" ∷ codes "run" ∷ [] in
    let end = YieldsList-end (YieldsList-at c.into_iter-part-iterator.ensures.into_iter_gives (YieldsList-from_str_split 32 c.args.options.now (lit< tt) c.split-part-items.ensures.text c.split-part-items.ensures.has_more c.split-part-items.ensures.pattern)) c.loop-part.yielded _ c.loop-part.yielded_by _ _ c.in-None.is c.next.ensures.steps in
    c.loop-part.invariant ∙ ap (with_words begin) end.0
