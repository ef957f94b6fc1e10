use Rattle.std.proofs.Common.{◌≡◌, ◌++◌, ◌∙◌, ℤ, FitsSigned, ap, of_z, rules, to_z}
use mir.Syntax.{w128}
use Rattle.std.proofs.lemmas.Int.{to_z-of_z}
use Rattle.mpx_num.specs.Wrapping.{into_range}
use Rattle.mpx_explain.specs.Overflows.{past_text}
use Rattle.mpx_explain.proofs.Telling.{tells_exact}
use Rattle.mpx_explain.proofs.overflows.push_exact.Goals as goal

pub returns : goal.returns
returns c =
    let fits : FitsSigned w128 c.args.exact = search rules in
    let whole : to_z w128 (of_z w128 c.args.exact) ≡ c.args.exact = to_z-of_z w128 c.args.exact fits in
    let given : to_z w128 (of_z w128 c.into_range.result) ≡ into_range c.args.ty c.args.exact = to_z-of_z w128 c.into_range.result (record { sfits = c.into_range.type_inv }) ∙ c.into_range.ensures ∙ ap (into_range c.args.ty) whole in
    tells_exact c.args.ty c.args.exact (to_z w128 (of_z w128 c.into_range.result)) c.args.told.now.items c.push_past.new.told.items c.push_given.new.told.items c.push_given.result
    (c.in_ok-push_past.ensures ∙ ap (λ (x : ℤ). c.args.told.now.items ++ past_text c.args.ty x) whole) given c.push_given.ensures
