-- What the members of a fine row give: items of one type, where the kind has items.
use Rattle.std.proofs.Common.{◌≡◌, ℕ, ◌<◌, [], true, length, Option, Some, ap, ◌∙◌}
use Rattle.std.specs.Option.{option_map_or}
use Rattle.mpx_num.specs.declared.types.Ty.TheVariants.{I8}
use Rattle.mpx_num.specs.ItemList.{ItemList}
use Rattle.mpx_kind.specs.declared.kinds.Kind.{Kind}
use Rattle.mpx_kind.specs.Kinds.{fields_of}
use Rattle.mpx_post.specs.Posts.{type_of, numbers_of}
use Rattle.mpx_post.specs.Rows.{RowView}
use Rattle.mpx_post.specs.Agreement.{first_of, post_at, IsFine}
use Rattle.mpx_post.proofs.Agreement.{same_type}

pub items_there : (row : RowView) (rank : ℕ) → IsFine row → rank < length row → (fields_of (first_of row).kind).items ≡ true → (fields_of (post_at row rank).kind).items ≡ true
items_there row rank fine l items = ap (λ (kind : Kind). (fields_of kind).items) (fine.with.each rank l).kind ∙ items

pub items_are : (row : RowView) (rank : ℕ) (items : ItemList) → IsFine row → rank < length row → Some items ≡ (post_at row rank).items → items ≡ record { ty = type_of (first_of row); nums = numbers_of (post_at row rank) }
items_are row rank items fine l e =
    let type : items.ty ≡ type_of (first_of row) = ap (λ (o : Option ItemList). option_map_or (λ (given : ItemList). given.ty) o I8) e ∙ same_type row rank fine l in
    let nums : items.nums ≡ numbers_of (post_at row rank) = ap (λ (o : Option ItemList). option_map_or (λ (given : ItemList). given.nums) o []) e in
    λ i. record { ty = type i; nums = nums i }
