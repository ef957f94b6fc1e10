-- What a fine row says of each rank's post.
use Rattle.std.proofs.Common.{◌≡◌, ℕ, ◌<◌, true, not, length, Option, Some, None, refl, sym, ap, ◌∙◌, eqb-true}
use Rattle.std.specs.Option.{option_map, option_map_or}
use Rattle.std.specs.Prelude.{unwrap_or}
use Rattle.std.proofs.lemmas.Bool.{and_parts}
use Rattle.mpx_num.specs.declared.types.Ty.{Ty}
use Rattle.mpx_num.specs.declared.types.Ty.TheVariants.{I8}
use Rattle.mpx_num.specs.ItemList.{ItemList}
use Rattle.mpx_kind.specs.Kinds.{fields_of, number_in}
use Rattle.mpx_post.specs.Posts.{Given, fits_root, fits_type, type_of}
use Rattle.mpx_post.specs.Rows.{RowView}
use Rattle.mpx_post.specs.Seats.{lacks_topology}
use Rattle.mpx_birth.specs.Topologies.{TopologyView}
use Rattle.mpx_post.specs.Agreement.{post_at, first_of, blocks_of, fill, fits_edges, fits_group, is_fit, seat_of, IsFine, IsFineWith}

-- the type of the items, by the type that is given
type_by_given : (items : Option ItemList) → option_map_or (λ (items : ItemList). items.ty) items I8 ≡ unwrap_or (option_map (λ (items : ItemList). items.ty) items) I8
type_by_given None = refl
type_by_given (Some items) = refl

pub same_type : (row : RowView) (rank : ℕ) → IsFine row → rank < length row → type_of (post_at row rank) ≡ type_of (first_of row)
same_type row rank fine l =
    type_by_given (post_at row rank).items
    ∙ ap (λ (ty : Option Ty). unwrap_or ty I8) (fine.with.each rank l).ty
    ∙ sym (type_by_given (first_of row).items)

-- THE PARTS OF A FIT

pub record Fits (topology : Option TopologyView) (size rank : ℕ) (given : Given) : Type 0 where
  pub root : fits_root size given ≡ true
  pub type : fits_type given ≡ true
  pub scounts : length given.scounts ≡ number_in (fields_of given.kind).scounts (seat_of topology size rank given)
  pub rcounts : length given.rcounts ≡ number_in (fields_of given.kind).rcounts (seat_of topology size rank given)
  pub filled : fill (blocks_of (seat_of topology size rank given) given) given ≡ true
  pub group : fits_group size given ≡ true
  pub edges : fits_edges size given ≡ true
  pub edged : not (lacks_topology topology given.kind) ≡ true

pub fits_parts : (topology : Option TopologyView) (size rank : ℕ) (given : Given) → is_fit topology size rank given ≡ true → Fits topology size rank given
fits_parts topology size rank given t =
    let root = and_parts _ _ t in
    let type = and_parts _ _ root.1 in
    let counts = and_parts _ _ type.1 in
    let scounts = and_parts _ _ counts.0 in
    let rcounts = and_parts _ _ scounts.1 in
    let group = and_parts _ _ counts.1 in
    let edges = and_parts _ _ group.1 in
    record {
      root = root.0;
      type = type.0;
      scounts = eqb-true _ _ scounts.0;
      rcounts = eqb-true _ _ rcounts.0;
      filled = rcounts.1;
      group = group.0;
      edges = edges.0;
      edged = edges.1;
    }

-- a row that is fine with one topology is fine
pub fine_with : (topology : Option TopologyView) (row : RowView) → IsFineWith topology row → IsFine row
fine_with topology row fine = record { topology = topology; with = fine }
