use Rattle.std.proofs.Common.{◌≡◌, ◌++◌, ◌∷◌, [], ◌+◌, map, drop, sym, ap, ◌∙◌, append_assoc}
use Rattle.std.specs.Option.{option_map}
use Rattle.mpx_meaning.specs.Ends.{asked_by, asked_then, asked_view}
use Rattle.mpx_meaning.specs.Standing.{closed, looked_up}
use Rattle.mpx_meaning.proofs.Standing.{closed_seen}
use Rattle.mpx_post.proofs.Lists.{next_left}
use Rattle.mpx_rank.specs.Shown.{requests_of}
use Rattle.mpx_rank.proofs.RankEnds.{asked_then-append}
use Rattle.mpx_rank.proofs.ending.requested.Goals as goal

pub loop-word-preserved : goal.loop-word-preserved
loop-word-preserved g c =
    let place = g.C.Carrier.place in
    let before = requests_of place c.loop-word.requests in
    let word = c.word-item.result in
    let had = map asked_view c.loop-word.calls.items in
    let rest = drop (c.loop-word.word-index + 1) c.args.words.now in
    let left : drop c.loop-word.word-index c.args.words.now ≡ word ∷ rest = next_left c.args.words.now c.loop-word.word-index word c.loop-word-test.true c.word-item.is in
    let fewer : requests_of place c.remove-call.new.self ≡ closed word before = λ i other. (ap (option_map place) (c.remove-call.ensures.updates.0 other) ∙ closed_seen place (looked_up c.loop-word.requests) word other) i in
    let call = option_map place c.remove-call.result in
    (λ i. c.in_ok-push_asked.ensures i ++ asked_by (fewer i) rest)
    ∙ append_assoc had (asked_then word call []) (asked_by (closed word before) rest)
    ∙ ap (λ xs. had ++ xs) (asked_then-append word call (asked_by (closed word before) rest) ∙ ap (λ o. asked_then word (option_map place o) (asked_by (closed word before) rest)) c.remove-call.ensures.value ∙ ap (asked_by before) (sym left))
    ∙ c.loop-word.invariant
