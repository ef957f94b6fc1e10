use Rattle.std.proofs.Common.{◌≡◌, ℕ, ◌∙◌, refl, ap, sym, subst}
use Rattle.mpx_kind.specs.declared.kinds.Kind.{Kind}
use Rattle.mpx_kind.specs.declared.kinds.Kind.TheVariants as K
use Rattle.mpx_kind.specs.declared.kinds.Exchange.{Exchange}
use Rattle.mpx_post.specs.declared.value.Value.TheVariants.{Nothing}
use Rattle.mpx_post.specs.Rows.{RowView}
use Rattle.mpx_post.specs.Values.{GivesValue}
use Rattle.mpx_move.specs.Moves.{move_value}
use Rattle.mpx_move.proofs.moves.move_value.Goals as goal

-- the other kinds give nothing
none_by : (row : RowView) (rank : ℕ) (kind : Kind) → ((exchange : Exchange) → kind ≡ K.Exchange exchange → ⊥) → Nothing ≡ move_value kind row rank
none_by row rank (K.Exchange exchange) other = absurd (other exchange refl)
none_by row rank kind other = refl

pub value_of-requires-clause-kind : goal.value_of-requires-clause-kind
value_of-requires-clause-kind c = sym c.kind.ensures ∙ c.in-Exchange.is

pub returns-in-Exchange : goal.returns-in-Exchange
returns-in-Exchange c =
    subst (λ (kind : Kind). GivesValue (move_value kind c.args.row.now c.args.rank) c.value_of.result) (sym c.in-Exchange.is ∙ c.kind.ensures) c.value_of.ensures

pub returns-in_default : goal.returns-in_default
returns-in_default c = none_by c.args.row.now c.args.rank c.kind.result c.in_default.not-Exchange ∙ ap (λ (kind : Kind). move_value kind c.args.row.now c.args.rank) c.kind.ensures
