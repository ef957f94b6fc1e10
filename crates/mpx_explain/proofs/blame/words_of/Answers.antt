use Rattle.std.proofs.Common.{◌==◌, ap, sym, ◌∙◌, map, rules, tests}
use Rattle.std.specs.Prelude.{◌||◌}
use Rattle.std.specs.List.{filter}
use Rattle.std.proofs.lemmas.Iterator.Consumers.{YieldsList-at, YieldsList-end}
use Rattle.std.proofs.lemmas.Iterator.Splits.{YieldsList-from_slice_split}
use Rattle.std.proofs.lemmas.List.{map_push}
use Rattle.mpx_script.specs.Words.{has_bytes}
use Rattle.mpx_explain.specs.Blame.{words_told}
use Rattle.mpx_explain.proofs.BlamedWords.{words_are, words_more}
use Rattle.mpx_explain.proofs.blame.words_of.Goals as goal

pub loop-part-preserved : goal.loop-part-preserved
loop-part-preserved c = record {
  few = c.in_ok-push_part.ensures.few c.loop-part.invariant.few;
  are = words_more (map (λ part. part.now) c.loop-part.yielded) c.in-Some.part.now (words_told c.loop-part.words.items) (words_told c.push_part.new.words.items) c.loop-part.invariant.are (c.in_ok-push_part.ensures.words (search rules))
      ∙ ap (filter has_bytes) (sym (map_push (λ part. part.now) c.loop-part.yielded c.in-Some.part));
}

pub returns : goal.returns
returns c =
    let end = YieldsList-end (YieldsList-at c.into_iter-part-iterator.ensures.into_iter_gives (YieldsList-from_slice_split _ (λ byte. byte == 32 || byte == 9) c.as_bytes.result.now c.split-part-items.ensures.rest c.split-part-items.ensures.done c.split-part-items.ensures.closure (λ x r q k. search (rules, tests)))) c.loop-part.yielded _ c.loop-part.yielded_by _ _ c.in-None.is c.next.ensures.steps in
    (c.loop-part.invariant.few, c.loop-part.invariant.are ∙ ap (filter has_bytes) end.0 ∙ words_are c.as_bytes.result.now ∙ search rules)
