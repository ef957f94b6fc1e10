use Rattle.std.proofs.Common.{◌≡◌, ◌+◌, ◌∷◌, [], ◌++◌, map, take, ℤ, to_z, of_z, refl, sym, ap, ◌∙◌, subst}
use mir.Syntax.{w128}
use Rattle.std.proofs.lemmas.Int.{to_z-of_z}
use Rattle.std.proofs.lemmas.List.{map-append, take_more}
use Rattle.std.proofs.lemmas.List.Elements.{All-push, All-same}
use Rattle.std.proofs.lemmas.Result.{IfOk-weaker}
use Rattle.std.proofs.lemmas.Slice.{pushed}
use Rattle.mpx_num.specs.Types.{IsInRange}
use Rattle.mpx_num.proofs.numbers.Numbers.from_slice.Goals as goal

pub loop-x-preserved : goal.loop-x-preserved
loop-x-preserved g c =
    let value = g.T.Integer.value in
    let here : IsInRange g.T.Integer.ty c.number.result = subst (IsInRange g.T.Integer.ty) (sym c.number.ensures.value) c.number.ensures.in_range in
    let same : to_z w128 (of_z w128 c.number.result) ≡ c.number.result = to_z-of_z w128 c.number.result (record { sfits = c.number.type_inv }) in
    let more : c.push.new.self.items ≡ c.loop-x.numbers.items ++ c.number.result ∷ [] = pushed (to_z w128 (of_z w128 c.number.result) ∷ []) refl c.in_ok-push.was c.push.ensures.items ∙ ap (λ (z : ℤ). c.loop-x.numbers.items ++ z ∷ []) same in
    let one : take (c.loop-x.x-index + 1) c.args.list.now ≡ take c.loop-x.x-index c.args.list.now ++ c.x-item.result ∷ [] = take_more c.args.list.now c.loop-x.x-index c.x-item.result c.loop-x-test.true ∙ ap (λ x. take c.loop-x.x-index c.args.list.now ++ x ∷ []) (sym c.x-item.is) in
    record {
      value = more ∙ ap (λ l. l ++ c.number.result ∷ []) c.loop-x.invariant.value ∙ ap (λ (z : ℤ). map value (take c.loop-x.x-index c.args.list.now) ++ z ∷ []) c.number.ensures.value ∙ sym (map-append value (take c.loop-x.x-index c.args.list.now) (c.x-item.result ∷ [])) ∙ ap (map value) (sym one);
      in_range = All-same (IsInRange g.T.Integer.ty) c.push.new.self.items _ more (All-push (IsInRange g.T.Integer.ty) c.loop-x.numbers.items c.number.result c.loop-x.invariant.in_range here);
    }

pub returns-clause-in_range : goal.returns-clause-in_range
returns-clause-in_range g c =
    IfOk-weaker c.new.result _ _ (λ numbers same. All-same (IsInRange g.T.Integer.ty) numbers _ same c.loop-x.invariant.in_range) c.new.ensures
