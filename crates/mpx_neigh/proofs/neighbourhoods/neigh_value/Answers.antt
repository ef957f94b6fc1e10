use Rattle.std.proofs.Common.{◌≡◌, ℕ, ◌∙◌, Option, None, refl, ap, sym}
use Rattle.std.specs.Option.{option_copied}
use Rattle.mpx_birth.specs.Topologies.{TopologyView}
use Rattle.mpx_kind.specs.declared.kinds.Kind.{Kind}
use Rattle.mpx_kind.specs.declared.kinds.Kind.TheVariants as K
use Rattle.mpx_kind.specs.declared.kinds.Neighbourhood.{Neighbourhood}
use Rattle.mpx_post.specs.declared.value.Value.TheVariants.{Nothing}
use Rattle.mpx_post.specs.Rows.{RowView}
use Rattle.mpx_post.specs.Agreement.{first_of}
use Rattle.mpx_neigh.specs.Neighbourhoods.{neigh_value}
use Rattle.mpx_post.proofs.Values.{gives_items}
use Rattle.mpx_neigh.proofs.neighbourhoods.neigh_value.Goals as goal

module _ (row : RowView) (rank : ℕ) where
  same : (kind known : Kind) (topology is : Option TopologyView) → known ≡ kind → is ≡ topology → neigh_value known is row rank ≡ neigh_value kind topology row rank
  same kind known topology is k t = λ i. neigh_value (k i) (t i) row rank

  -- no kind gives anything without edges
  without : (kind : Kind) → Nothing ≡ neigh_value kind None row rank
  without (K.Neighbourhood exchange) = refl
  without kind = refl

  -- the other kinds give nothing
  none_by : (topology : Option TopologyView) (kind : Kind) → ((exchange : Neighbourhood) → kind ≡ K.Neighbourhood exchange → ⊥) → Nothing ≡ neigh_value kind topology row rank
  none_by topology (K.Neighbourhood exchange) other = absurd (other exchange refl)
  none_by topology kind other = refl

pub returns-in_default : goal.returns-in_default
returns-in_default c =
    let none = sym (ap option_copied c.in_default.is) ∙ c.topology.ensures.value in
    without c.args.row.now c.args.rank (first_of c.args.row.now).kind ∙ same c.args.row.now c.args.rank _ _ _ _ refl none

pub returns-in-Neighbourhood : goal.returns-in-Neighbourhood
returns-in-Neighbourhood c =
    let along = same c.args.row.now c.args.rank _ _ _ _ (sym c.in-Neighbourhood.is ∙ c.kind.ensures) (sym (ap option_copied c.in-Some.is) ∙ c.topology.ensures.value) in
    gives_items _ _ _ along c.value_of.ensures tt

pub returns-in_default-kind : goal.returns-in_default-kind
returns-in_default-kind c =
    none_by c.args.row.now c.args.rank c.args.birth.now.topology c.kind.result c.in_default-kind.not-Neighbourhood ∙ ap (λ (kind : Kind). neigh_value kind c.args.birth.now.topology c.args.row.now c.args.rank) c.kind.ensures
