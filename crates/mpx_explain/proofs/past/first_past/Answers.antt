use Rattle.std.proofs.Common.{◌≡◌, ℕ, arith, length, refl, subst, sym, ◌∙◌, None}
use Rattle.std.specs.Prelude.{slice_index_or}
use Rattle.mpx_explain.specs.Overflows.{first_past}
use Rattle.mpx_explain.specs.Sums.{IsExact}
use Rattle.mpx_explain.specs.declared.exact.Exact.{Exact}
use Rattle.mpx_explain.specs.declared.exact.Exact.TheVariants.{Unknown}
use Rattle.mpx_explain.proofs.Summing.{at_any, past_first, past_not}
use Rattle.mpx_explain.proofs.past.first_past.Goals as goal

pub loop-index-init : goal.loop-index-init
loop-index-init c times comes are = refl

pub returns-then-is_some : goal.returns-then-is_some
returns-then-is_some c times comes are =
    let i = c.loop-index.index in
    let xs = c.args.numbers.now in
    let at : slice_index_or xs i Unknown ≡ c.number_at.result = sym c.number_at.ensures in
    past_first c.args.ty c.args.bounds comes i (length xs) c.past_within-past.result (sym c.if-is_some.ensures) c.loop-index-test.true (c.loop-index.invariant times comes are)
    (c.past_within-past.ensures times (comes i) (subst (λ (e : Exact). IsExact times e (comes i)) at (are i c.loop-index-test.true)))

pub loop-index-preserved : goal.loop-index-preserved
loop-index-preserved c times comes are =
    let i = c.loop-index.index in
    let xs = c.args.numbers.now in
    let at : slice_index_or xs i Unknown ≡ c.number_at.result = sym c.number_at.ensures in
    past_not c.args.ty c.args.bounds comes i c.past_within-past.result (sym c.if-is_some.ensures) (c.loop-index.invariant times comes are)
    (c.past_within-past.ensures times (comes i) (subst (λ (e : Exact). IsExact times e (comes i)) at (are i c.loop-index-test.true)))

pub returns : goal.returns
returns c times comes are =
    let all : c.loop-index.index ≡ length c.args.numbers.now = omega arith in
    subst (λ (n : ℕ). first_past c.args.ty c.args.bounds comes n ≡ None) all (c.loop-index.invariant times comes are)
