use Rattle.std.proofs.Common.{◌≡◌, ◌+◌, [], ◌∷◌, ◌++◌, length, take, Ok, ap, sym, subst, ◌∙◌}
use Rattle.std.proofs.lemmas.List.{take_all, take_more}
use Rattle.mpx_format.specs.Fields.{step}
use Rattle.mpx_decode.proofs.Loop.{ReadSoFar, goes_on, is_done}
use Rattle.mpx_decode.proofs.join_acks.behind_steps.Goals as goal

pub loop-i-preserved : goal.loop-i-preserved
loop-i-preserved c =
    let steps = c.args.steps.now in
    let i = c.loop-i.i in
    let now = c.index-steps-i.result in
    let more : take (i + 1) steps ≡ take i steps ++ now ∷ [] = take_more steps i now c.loop-i-test.true ∙ ap (λ s. take i steps ++ s ∷ []) (sym c.index-steps-i.is) in
    record {
      read = subst (λ front. ReadSoFar (λ before. step) (length steps) (i + 1) front c.in-Some.after.now c.args.bytes.now) (sym more)
          (goes_on (λ before. step) (take i steps) (length steps) i c.loop-i.rest.now c.args.bytes.now now c.in-Some.after.now c.loop-i-test.true c.in-Some.ensures c.loop-i.invariant.read);
    }

pub returns : goal.returns
returns c =
    let steps = c.args.steps.now in
    is_done (λ before. step) (take c.loop-i.i steps) (length steps) c.loop-i.i c.loop-i.rest.now c.args.bytes.now c.loop-i-test.false c.loop-i.invariant.read
    ∙ ap (λ front. Ok (front, c.loop-i.rest.now)) (take_all c.loop-i.i steps c.loop-i-test.false)
