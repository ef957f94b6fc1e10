use Rattle.std.proofs.Common.{◌≡◌, ◌+◌, ◌*◌, ◌/◌, ◌<◌, ◌++◌, ◌∷◌, [], length, not, true, is_ok, if◌then◌else◌, ap, ◌∙◌, arith}
use Rattle.mpx_call.specs.Pairs.{both_numbers}
use Rattle.mpx_call.proofs.Pairs.{both_more}
use Rattle.mpx_call.proofs.item.pairs_of.Goals as goal

pub loop-i-preserved : goal.loop-i-preserved
loop-i-preserved g c =
    let both = c.args.both.now in
    let i = c.loop-i.i in
    let a = c.index-both-i.result in
    let b = c.index-both-i-in-loop-i.result in
    let below : i < length both / 2 = c.loop-i-test.true in
    let fits : 2 * i + 1 < length both = omega arith in
    let is_pushed : is_ok c.push.result ≡ true = c.is_err.ensures.negation ∙ ap not c.if-is_err.false in
    let items : c.push.new.self.items ≡ c.loop-i.pairs.items ++ (a, b) ∷ [] = c.push.ensures.items ∙ ap (λ t. if t then c.loop-i.pairs.items ++ (a, b) ∷ [] else c.loop-i.pairs.items) is_pushed in
    ap both_numbers items ∙ both_more both c.loop-i.pairs.items i a b fits c.index-both-i.is c.index-both-i-in-loop-i.is c.loop-i.invariant
