use Rattle.std.proofs.Common.{◌≡◌, ◌++◌, [], ◌∷◌, ◌+◌, drop, refl, sym, ap, ◌∙◌, append_assoc}
use Rattle.mpx_meaning.specs.Standing.{closed, closed_all}
use Rattle.mpx_rank.specs.Moves.{are_done, wait_lines}
use Rattle.mpx_rank.specs.Shown.{requests_of}
use Rattle.mpx_rank.proofs.Telling.{done_first, done_later, line_later}
use Rattle.mpx_post.proofs.Lists.{next_left}
use Rattle.mpx_rank.proofs.waiting.close_all.Goals as goal

pub close-requires : goal.close-requires
close-requires g c =
    let terms = g.C.Carrier.terms _ in
    let first = c.args.carrier.now in
    let now = c.loop-word.carrier in
    let requests = requests_of g.C.Carrier.place c.loop-word.requests in
    let word = c.word-item.result in
    let told = terms.tells first c.args.me in
    let left = next_left c.args.words.now c.loop-word.word-index word c.loop-word-test.true c.word-item.is in
    done_later told (terms.tells now c.args.me) (g.met.C.Carrier.stays_told _ first now c.loop-word.invariant.hears c.args.me) (requests word)
    (done_first told requests word (drop (c.loop-word.word-index + 1) c.args.words.now) (ap (are_done told requests) (sym left) ∙ c.loop-word.invariant.done)).0

pub loop-word-init : goal.loop-word-init
loop-word-init g c = record { hears = g.met.C.Carrier.hears_nothing _ c.args.carrier.now; lines = refl; requests = λ word. refl; done = c.requires }

pub loop-word-preserved : goal.loop-word-preserved
loop-word-preserved g c =
    let laws = g.met.C.Carrier in
    let terms = g.C.Carrier.terms _ in
    let place = g.C.Carrier.place in
    let first = c.args.carrier.now in
    let before = c.loop-word.carrier in
    let now = c.close.new.carrier in
    let told = terms.tells first c.args.me in
    let requests = requests_of place c.loop-word.requests in
    let word = c.word-item.result in
    let rest = drop (c.loop-word.word-index + 1) c.args.words.now in
    let left : drop c.loop-word.word-index c.args.words.now ≡ word ∷ rest = next_left c.args.words.now c.loop-word.word-index word c.loop-word-test.true c.word-item.is in
    let done = done_first told requests word rest (ap (are_done told requests) (sym left) ∙ c.loop-word.invariant.done) in
    let closed_now : requests_of place c.close.new.requests ≡ closed word requests = λ i other. c.in_ok-line.ensures.requests other i in
    let line = c.in_ok-line.line in
    let lines = c.loop-word.lines.items in
    record {
      hears = laws.hears_more _ first before now c.loop-word.invariant.hears c.in_ok-line.ensures.hears;
      lines =
          (λ i. c.in_ok-push.ensures.items i ++ wait_lines told (closed_now i) rest)
          ∙ append_assoc lines (line ∷ []) (wait_lines told (closed word requests) rest)
          ∙ (λ i. lines ++ (c.in_ok-line.ensures.line ∙ line_later told (terms.tells before c.args.me) (laws.stays_told _ first before c.loop-word.invariant.hears c.args.me) (requests word) done.0) i ∷ wait_lines told (closed word requests) rest)
          ∙ ap (λ ws. lines ++ wait_lines told requests ws) (sym left)
          ∙ c.loop-word.invariant.lines;
      requests = λ other. (λ i. closed_all rest (closed_now i) other) ∙ ap (λ ws. closed_all ws requests other) (sym left) ∙ c.loop-word.invariant.requests other;
      done = ap (λ r. are_done told r rest) closed_now ∙ done.1;
    }
