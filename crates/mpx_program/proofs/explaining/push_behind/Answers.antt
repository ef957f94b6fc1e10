use Rattle.std.proofs.Common.{◌≡◌, ◌∙◌, ◌++◌, true, inl, inr, ap, sym, nat_eq}
use Rattle.std.specs.Cmp.Lexicographic.{pointwise, bytes_decides}
use Rattle.join_core.specs.laws.Cases.{some_left}
use Rattle.mpx_program.proofs.explaining.push_behind.Goals as goal

pub returns-then-not-ends_with : goal.returns-then-not-ends_with
returns-then-not-ends_with c =
    let same : pointwise nat_eq c.as_slice.result.now c.args.there.now ≡ true = sym c.eq.ensures ∙ c.if-eq.true in
    inr (some_left _ _ c.is_empty.ensures c.if-is_empty.false, inl (sym c.as_slice.ensures.value ∙ (bytes_decides _ _).0 same, (sym c.ends_with.ensures.value ∙ c.if-not-ends_with.true, c.in_ok-extend_from_slice.ensures.items)))

pub returns : goal.returns
returns c = inr (some_left _ _ c.is_empty.ensures c.if-is_empty.false, inr (c.in_ok-extend_from_slice-3.ensures.items ∙ ap (λ xs. xs ++ c.args.there.now) c.in_ok-extend_from_slice-2.ensures.items))
