use Rattle.std.proofs.Common.{◌≡◌, ◌∙◌, List, Some, ℤ, length, unwrap_or, ap, sym, arith}
use Rattle.mpx_num.specs.declared.types.Ty.{Ty}
use Rattle.mpx_num.specs.declared.operations.Op.TheVariants.{Sum}
use Rattle.mpx_num.specs.ItemList.{ItemList}
use Rattle.mpx_post.specs.Posts.{Given, operation_given, type_of}
use Rattle.mpx_post.specs.Agreement.{first_of}
use Rattle.mpx_fold.proofs.Contributions.{as_many, suits_first}
use Rattle.mpx_fold.proofs.Folding.{folded_one, folded_step}
use Rattle.mpx_fold.proofs.folds.fold_upto.Goals as goal

abbrev type_in : ItemList → Ty
type_in items = items.ty

abbrev numbers_in : ItemList → List ℤ
numbers_in items = items.nums

pub apply-requires-clause-fit : goal.apply-requires-clause-fit
apply-requires-clause-fit g c =
    let row = c.args.row.now in
    let op : (first_of row).op ≡ Some c.unwrap-op.result = ap (λ (given : Given). given.op) (sym c.post-first.ensures.value) ∙ sym c.op.ensures.value ∙ c.unwrap-op.ensures in
    let ty : c.ty-ty.result ≡ type_of (first_of row) = c.ty-ty.ensures ∙ ap type_in (c.in_ok-folded.ensures ∙ c.given.ensures.value) in
    suits_first _ row c.unwrap-op.result c.ty-ty.result c.requires.suits (omega arith) op ty

pub apply-requires-clause-same_len : goal.apply-requires-clause-same_len
apply-requires-clause-same_len g c =
    c.loop-rank.invariant.len
    ∙ sym (as_many c.args.row.now c.loop-rank.rank c.requires.fine (omega arith) c.requires.reduces c.given-in-loop-rank.ensures.whole c.given.ensures.whole)
    ∙ ap (λ (items : ItemList). length items.nums) (sym c.given-in-loop-rank.ensures.value)

pub loop-rank-init : goal.loop-rank-init
loop-rank-init g c =
    let first = c.in_ok-folded.ensures ∙ c.given.ensures.value in
    record {
      ty = ap type_in first;
      nums = ap numbers_in first ∙ sym (folded_one _ c.args.row.now (omega arith));
      len = ap (λ (items : ItemList). length items.nums) first;
    }

pub loop-rank-preserved : goal.loop-rank-preserved
loop-rank-preserved g c =
    let row = c.args.row.now in
    let op : c.unwrap-op.result ≡ operation_given (first_of row) = ap (λ o. unwrap_or o Sum) (sym c.unwrap-op.ensures ∙ c.op.ensures.value) ∙ ap operation_given c.post-first.ensures.value in
    let ty : c.ty-ty.result ≡ type_of (first_of row) = c.ty-ty.ensures ∙ ap type_in (c.in_ok-folded.ensures ∙ c.given.ensures.value) in
    record {
      ty = ap type_in c.in_ok-apply.ensures.value ∙ ty;
      nums = ap numbers_in c.in_ok-apply.ensures.value ∙ folded_step _ row c.loop-rank.rank _ _ _ _ (omega arith) (omega arith) op ty c.loop-rank.invariant.nums (ap numbers_in c.given-in-loop-rank.ensures.value);
      len = c.apply.ensures.same_len ∙ c.loop-rank.invariant.len;
    }
