use Rattle.std.specs.List.{swap}
use Rattle.std.proofs.Common.{rules, suc, ◌+◌, ◌<◌, ◌≡◌, ◌∙◌, ap, arith, length, refl, sym}
use Rattle.std.proofs.lemmas.List.Sorted.{IsPermutation-refl, IsPermutation-trans, IsPermutation-swap, length_permutation}
use Rattle.mpx_sim.specs.Draws.{draw, drawn, drawn_times, shuffled}
use Rattle.mpx_sim.proofs.Sending.{drawn_more}
use Rattle.mpx_sim.proofs.schedule.shuffle.Goals as goal

pub loop-i-preserved : goal.loop-i-preserved
loop-i-preserved g c =
    let i = c.loop-i.i in
    let first : i < length c.loop-i.items.items = search rules in
    let second : i + c.below.result < length c.loop-i.items.items = search rules in
    let next : i + 1 ≡ suc i = omega arith in
    let many : length c.loop-i.items.items ≡ length c.args.items.now.items = omega (arith, length_permutation _ _ c.loop-i.invariant.items) in
    record {
      items = IsPermutation-trans _ _ _ c.loop-i.invariant.items (IsPermutation-swap c.loop-i.items.items c.swap.new.self.items i (i + c.below.result) first second c.swap.ensures.items);
      words = c.below.ensures.words ∙ ap drawn c.loop-i.invariant.words ∙ sym (drawn_more i (i + 1) c.args.words.now refl);
      rest = λ left all.
          let drawn_there : c.below.result ≡ draw (suc left) c.loop-i.words = c.below.ensures.is ∙ ap (λ n. draw n c.loop-i.words) (omega (arith, all, many)) in
          (λ k. shuffled (next k) left (c.below.ensures.words k) (c.swap.ensures.items k))
          ∙ ap (λ n. shuffled (suc i) left (drawn c.loop-i.words) (swap c.loop-i.items.items i (i + n))) drawn_there
          ∙ c.loop-i.invariant.rest (suc left) (omega (arith, all));
    }

pub loop-i-init : goal.loop-i-init
loop-i-init g c = record { items = IsPermutation-refl c.args.items.now.items; words = refl; rest = λ left all. let same : left ≡ length c.args.items.now.items = omega (arith, all) in ap (λ n. shuffled 0 n c.args.words.now c.args.items.now.items) same }

pub returns-clause-words : goal.returns-clause-words
returns-clause-words g c =
    let all : c.loop-i.i ≡ length c.args.items.now.items = omega (arith, c.loop-i-test.false) in
    c.loop-i.invariant.words ∙ ap (λ n. drawn_times n c.args.words.now) all

pub returns-clause-order : goal.returns-clause-order
returns-clause-order g c = c.loop-i.invariant.rest 0 (omega (arith, c.loop-i-test.false))
