use Rattle.std.proofs.Common.{◌≡◌, ℕ, List, Result, ◌∙◌, refl, ap, sym, subst}
use Rattle.join_core.specs.declared.memory.OutOfMemory.{OutOfMemory}
use Rattle.mpx_num.specs.declared.own.Operation.{Operation}
use Rattle.mpx_kind.specs.declared.kinds.Kind.{Kind}
use Rattle.mpx_kind.specs.declared.kinds.Kind.TheVariants as K
use Rattle.mpx_kind.specs.declared.kinds.Reduction.{Reduction}
use Rattle.mpx_post.specs.declared.value.Value.{Value}
use Rattle.mpx_post.specs.declared.value.Value.TheVariants.{Nothing}
use Rattle.mpx_kind.specs.Kinds.{fields_of}
use Rattle.mpx_post.specs.Rows.{RowView}
use Rattle.mpx_post.specs.Values.{GivesValue}
use Rattle.mpx_fold.specs.Folds.{fold_value}
use Rattle.mpx_fold.proofs.Contributions.{reduction_has_op}
use Rattle.mpx_fold.proofs.folds.fold_value.Goals as goal

module _ (ops : List Operation) (row : RowView) (rank : ℕ) (kind known : Kind) (same : known ≡ kind) where
  same_value : fold_value known ops row rank ≡ fold_value kind ops row rank
  same_value = ap (λ (k : Kind). fold_value k ops row rank) same

  same_answer : (answer : Result Value OutOfMemory) → GivesValue (fold_value known ops row rank) answer → GivesValue (fold_value kind ops row rank) answer
  same_answer answer given = subst (λ (value : Value). GivesValue value answer) same_value given

-- the other kinds give nothing
none_by : (ops : List Operation) (row : RowView) (rank : ℕ) (kind : Kind) → ((reduction : Reduction) → kind ≡ K.Reduction reduction → ⊥) → Nothing ≡ fold_value kind ops row rank
none_by ops row rank (K.Reduction reduction) other = absurd (other reduction refl)
none_by ops row rank kind other = refl

pub value_of-requires-clause-kind : goal.value_of-requires-clause-kind
value_of-requires-clause-kind g c = sym c.kind.ensures ∙ c.in-Reduction.is

pub value_of-requires-clause-reduces : goal.value_of-requires-clause-reduces
value_of-requires-clause-reduces g c = ap (λ (kind : Kind). (fields_of kind).op) (sym c.kind.ensures ∙ c.in-Reduction.is) ∙ reduction_has_op c.in-Reduction.reduction

pub returns-in-Reduction : goal.returns-in-Reduction
returns-in-Reduction g c =
    same_answer _ c.args.row.now c.args.rank _ _ (sym c.in-Reduction.is ∙ c.kind.ensures) c.value_of.result c.value_of.ensures

pub returns-in_default : goal.returns-in_default
returns-in_default g c =
    none_by _ c.args.row.now c.args.rank c.kind.result c.in_default.not-Reduction ∙ same_value _ c.args.row.now c.args.rank _ _ c.kind.ensures
