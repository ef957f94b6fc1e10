-- How many bytes numbers of a type take.
use Rattle.std.proofs.Common.{◌≡◌, ℤ, ◌+◌, ◌*◌, ◌/◌, List, [], ◌++◌, length, refl, ap, ◌∙◌, length-append}
use Rattle.std.specs.Int.{w16, to_be_bytes}
use Rattle.std.specs.List.{flat_map}
use Rattle.mpx_num.specs.Types.{item_len}
use Rattle.mpx_num.specs.Spelling.{number_len}
use Rattle.mpx_num.specs.declared.types.Ty.{Ty}
use Rattle.mpx_num.proofs.Spellings.{length-spelled}
use Rattle.mpx_encode.proofs.Rising.{many_alike}
use Rattle.mpx_format.specs.Posts.{integer, items, item_count}

-- how many items, and then their numbers
pub items_spelled : (ty : Ty) (zs : List ℤ) → (items ty).spelling zs ≡ to_be_bytes w16 (length zs / item_len ty) ++ flat_map (integer ty).spelling zs
unfolding items item_count
items_spelled ty zs = ap (λ l. to_be_bytes w16 (length zs / item_len ty) ++ l) (many_alike (λ before. integer ty) (integer ty).spelling (λ before z. refl) [] zs)

pub length-items : (ty : Ty) (zs : List ℤ) → length ((items ty).spelling zs) ≡ 2 + length zs * number_len ty
unfolding integer
length-items ty zs = ap length (items_spelled ty zs) ∙ length-append (to_be_bytes w16 (length zs / item_len ty)) (flat_map (integer ty).spelling zs) ∙ ap (λ n. 2 + n) (length-spelled ty zs)
