use Rattle.std.proofs.Common.{◌≡◌, ◌∙◌, ◌+ℤ◌, ◌*ℤ◌, ℤ, FitsSigned, to_z, of_z, ap, sym, subst, rules}
use mir.Syntax.{w128}
use Rattle.std.proofs.lemmas.Int.{to_z-of_z}
use Rattle.mpx_num.specs.Types.{IsInRange}
use Rattle.mpx_num.specs.Own.{IsSecond}
use Rattle.mpx_num.specs.Wrapping.{into_range}
use Rattle.mpx_num.proofs.Congruences.{into_range-wrapping_add, into_range-wrapping_mul}
use Rattle.mpx_num.proofs.Ranges.{into_range-in_range, into_range-plus}
use Rattle.mpx_affine.proofs.affine.compose.Goals as goal

pub returns-clause-value : goal.returns-clause-value
returns-clause-value c =
    let a : FitsSigned w128 c.args.left.0 = search rules in
    let b : FitsSigned w128 c.args.left.1 = search rules in
    let p : FitsSigned w128 c.args.right.0 = search rules in
    let q : FitsSigned w128 c.args.right.1 = search rules in
    let product : FitsSigned w128 c.into_range-2.result = record { sfits = c.into_range-2.type_inv } in
    let first : to_z w128 (of_z w128 c.into_range.result) ≡ into_range c.args.ty (c.args.right.0 *ℤ c.args.left.0)
    = to_z-of_z w128 c.into_range.result (record { sfits = c.into_range.type_inv })
    ∙ c.into_range.ensures
    ∙ into_range-wrapping_mul c.args.ty c.args.right.0 c.args.left.0 p a in
    let inner : c.into_range-2.result ≡ into_range c.args.ty (c.args.right.0 *ℤ c.args.left.1)
    = c.into_range-2.ensures ∙ into_range-wrapping_mul c.args.ty c.args.right.0 c.args.left.1 p b in
    let second : to_z w128 (of_z w128 c.into_range-3.result) ≡ into_range c.args.ty ((c.args.right.0 *ℤ c.args.left.1) +ℤ c.args.right.1)
    = to_z-of_z w128 c.into_range-3.result (record { sfits = c.into_range-3.type_inv })
    ∙ c.into_range-3.ensures
    ∙ into_range-wrapping_add c.args.ty c.into_range-2.result c.args.right.1 product q
    ∙ ap (λ (z : ℤ). into_range c.args.ty (z +ℤ c.args.right.1)) inner
    ∙ into_range-plus c.args.ty (c.args.right.0 *ℤ c.args.left.1) c.args.right.1 in
    λ i. (first i, second i)

pub returns-clause-item : goal.returns-clause-item
returns-clause-item c =
    let first = to_z-of_z w128 c.into_range.result (record { sfits = c.into_range.type_inv }) ∙ c.into_range.ensures in
    let second = to_z-of_z w128 c.into_range-3.result (record { sfits = c.into_range-3.type_inv }) ∙ c.into_range-3.ensures in
    let last : IsInRange c.args.ty (to_z w128 (of_z w128 c.into_range-3.result)) = subst (IsInRange c.args.ty) (sym second) (into_range-in_range c.args.ty _) in
    record {
      first = subst (IsInRange c.args.ty) (sym first) (into_range-in_range c.args.ty _);
      second = subst (λ b. IsSecond b c.args.ty (to_z w128 (of_z w128 c.into_range-3.result))) (sym c.requires) last;
    }
