-- Posts that are read field by field are within the limits of posts.
use Rattle.std.proofs.Common.{◌≡◌, ℕ, ℤ, Bool, true, false, cond, List, [], Option, Some, None, Result, Ok, refl, sym, ap, subst, ◌∙◌}
use Rattle.std.specs.Prelude.{is_some}
use Rattle.std.specs.Option.{option_map, option_map_or}
use Rattle.mpx_num.specs.ItemList.{ItemList}
use Rattle.mpx_num.specs.Operations.{fits}
use Rattle.mpx_num.specs.declared.types.Ty.{Ty}
use Rattle.mpx_num.specs.declared.types.Ty.TheVariants.{I8}
use Rattle.mpx_num.specs.declared.operations.Op.{Op}
use Rattle.mpx_kind.specs.declared.kinds.Kind.{Kind}
use Rattle.mpx_kind.specs.Kinds.{fields_of}
use Rattle.mpx_kind.specs.declared.kinds.Mode.{Mode}
use Rattle.mpx_post.specs.declared.making.Making.{Making}
use Rattle.mpx_post.specs.Posts.{Given}
use Rattle.mpx_format.specs.declared.defects.Defect.{Defect}
use Rattle.mpx_format.specs.Posts.{nums_of, given_from}
use Rattle.mpx_format.proofs.CodeLaws.{each_kind}

abbrev pub type_in : Option ItemList → Option Ty
type_in items = option_map (λ (i : ItemList). i.ty) items

abbrev as_items : List ℤ → Ty → ItemList
as_items nums ty = record { ty = ty; nums = nums }

-- items are their type and their numbers
items_back : (items : Option ItemList) (ty : Option Ty) → type_in items ≡ ty → option_map (as_items (nums_of items)) ty ≡ items
items_back None ty e = subst (λ t. option_map (as_items []) t ≡ None) e refl
items_back (Some i) ty e = subst (λ t. option_map (as_items i.nums) t ≡ Some i) e refl

-- there are items where there is a type
pub items_there : (items : Option ItemList) (ty : Option Ty) (had : Bool) → type_in items ≡ ty → is_some ty ≡ had → is_some items ≡ had
items_there None ty had e h = ap is_some e ∙ h
items_there (Some i) ty had e h = ap is_some e ∙ h

-- a kind with an operation has items
op_needs_items : (k : Kind) → (fields_of k).op ≡ true → (fields_of k).items ≡ true
op_needs_items k e = ap (λ (b : Bool). cond b (fields_of k).items true) (sym e) ∙ each_kind (λ (kind : Kind). cond (fields_of kind).op (fields_of kind).items true) refl refl k

-- the operation, where there is one, fits the type
fits_by_type : (op : Option Op) (items : Option ItemList) → option_map_or (λ ty. option_map_or (λ o. fits o ty) op true) (type_in items) true ≡ true
    → (is_some op ≡ true → is_some items ≡ true) → option_map_or (λ o. fits o (option_map_or (λ (i : ItemList). i.ty) items I8)) op true ≡ true
fits_by_type op (Some i) h needs = h
fits_by_type None None h needs = refl
fits_by_type (Some o) None h needs = let e : false ≡ true = needs refl in absurd cc

pub operation_fits : (k : Kind) (op : Option Op) (items : Option ItemList) (ty : Option Ty) → type_in items ≡ ty → is_some op ≡ (fields_of k).op → is_some ty ≡ (fields_of k).items
    → option_map_or (λ t. option_map_or (λ o. fits o t) op true) ty true ≡ true → option_map_or (λ o. fits o (option_map_or (λ (i : ItemList). i.ty) items I8)) op true ≡ true
operation_fits k op items ty e has_op has_type h =
    fits_by_type op items (ap (λ t. option_map_or (λ t. option_map_or (λ o. fits o t) op true) t true) e ∙ h)
    (λ some. items_there items ty true e (has_type ∙ op_needs_items k (sym has_op ∙ some)))

abbrev pub whole : Given × List ℕ → Result (Given × List ℕ) Defect
whole x = Ok x

-- the fields that were read make the post
pub post_whole : (kind : Kind) (mode : Mode) (root : Option ℕ) (op : Option Op) (ty : Option Ty) (scounts rcounts : List ℕ) (items : Option ItemList) (making : Making) (rest : List ℕ) → type_in items ≡ ty
    → whole (given_from (kind, (mode, (root, (op, (ty, (scounts, (rcounts, (nums_of items, making)))))))), rest)
    ≡ whole (record { kind = kind; mode = mode; root = root; op = op; scounts = scounts; rcounts = rcounts; items = items; making = making }, rest)
post_whole kind mode root op ty scounts rcounts items making rest e =
    ap (λ (i : Option ItemList). whole (record { kind = kind; mode = mode; root = root; op = op; scounts = scounts; rcounts = rcounts; items = i; making = making }, rest)) (items_back items ty e)
