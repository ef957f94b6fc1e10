use Rattle.std.proofs.Common.{◌≡◌, ◌+◌, ◌++◌, ◌∷◌, [], take, refl, sym, ap, ◌∙◌}
use Rattle.std.proofs.lemmas.List.{take_more}
use Rattle.std.specs.Option.{option_map}
use Rattle.mpx_rank.specs.Moves.{are_done, is_done}
use Rattle.mpx_rank.specs.Shown.{requests_of}
use Rattle.mpx_rank.proofs.Telling.{all_done_later, both_true, done_last, was_not_done}
use Rattle.mpx_rank.proofs.waiting.are_done.Goals as goal

pub loop-word-init : goal.loop-word-init
loop-word-init g c = record { hears = g.met.C.Carrier.hears_nothing _ c.args.carrier.now; done = λ t. refl; not_done = λ e. cc e }

pub loop-word-preserved : goal.loop-word-preserved
loop-word-preserved g c =
    let laws = g.met.C.Carrier in
    let terms = g.C.Carrier.terms _ in
    let me = c.args.me in
    let first = c.args.carrier.now in
    let before = c.loop-word.carrier in
    let now = c.is_done.new.carrier in
    let requests = requests_of g.C.Carrier.place c.args.requests.now in
    let words = take c.loop-word.word-index c.args.words.now in
    let word = c.word-item.result in
    let here = c.in_ok-done.ensures.hears in
    let is : c.in_ok-done.done ≡ is_done (terms.tells now me) (requests word) = c.in_ok-done.ensures.done ∙ ap (λ o. is_done (terms.tells now me) (option_map g.C.Carrier.place o)) c.get.ensures.value in
    let more : take (c.loop-word.word-index + 1) c.args.words.now ≡ words ++ word ∷ [] = take_more c.args.words.now c.loop-word.word-index word c.loop-word-test.true ∙ ap (λ x. words ++ x ∷ []) (sym c.word-item.is) in
    record {
      hears = laws.hears_more _ first before now c.loop-word.invariant.hears here;
      done = λ t.
          let parts = both_true c.loop-word.all c.in_ok-done.done t in
          ap (are_done (terms.tells now me) requests) more ∙ done_last (terms.tells now me) requests words word (all_done_later (terms.tells before me) (terms.tells now me) (laws.stays_told _ before now here me) requests words (c.loop-word.invariant.done parts.0)) (sym is ∙ parts.1);
      not_done = was_not_done terms (laws.hears_nothing _) (laws.hears_more _) me requests c.args.words.now first before now c.loop-word.invariant.hears here c.loop-word.word-index word c.loop-word-test.true c.word-item.is c.loop-word.all c.in_ok-done.done is c.loop-word.invariant.not_done;
    }
