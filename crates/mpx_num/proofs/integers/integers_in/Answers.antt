use Rattle.std.proofs.Common.{◌≡◌, ◌∷◌, [], ◌++◌, map, take, ℤ, pos, FitsSigned, slice_index_or, sym, ap, ◌∙◌, rules}
use mir.Syntax.{w128}
use Rattle.std.proofs.lemmas.Int.{to_z-of_z}
use Rattle.std.proofs.lemmas.List.{map-append, take_more}
use Rattle.std.proofs.lemmas.List.Elements.{All-more}
use Rattle.mpx_num.specs.Types.{IsInRange}
use Rattle.mpx_num.proofs.integers.integers_in.Goals as goal

pub loop-number-preserved : goal.loop-number-preserved
loop-number-preserved g c =
    let value = g.T.Integer.value in
    let numbers = c.args.numbers.now in
    let i = c.loop-number.number-index in
    let number : ℤ = slice_index_or numbers i (pos 0) in
    let fits : FitsSigned w128 number = search rules in
    let same : value c.in-Some.x ≡ number = rw (to_z-of_z w128 number fits) at c.in-Some.ensures.some in
    let here : IsInRange g.T.Integer.ty number = rw (to_z-of_z w128 number fits) at c.in-Some.ensures.in_range in
    let more : c.push.new.self.items ≡ c.loop-number.list.items ++ c.in-Some.x ∷ [] = search rules in
    record {
      value = ap (map value) more ∙ map-append value c.loop-number.list.items (c.in-Some.x ∷ []) ∙ ap (λ l. l ++ value c.in-Some.x ∷ []) c.loop-number.invariant.value ∙ ap (λ (z : ℤ). take i numbers ++ z ∷ []) same ∙ sym (take_more numbers i (pos 0) c.loop-number-test.true);
      in_range = All-more (IsInRange g.T.Integer.ty) numbers i (pos 0) c.loop-number-test.true c.loop-number.invariant.in_range here;
    }
