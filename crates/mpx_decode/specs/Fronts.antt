-- The bytes with which a post of version 2 begins.
use Rattle.std.specs.Prelude.{ℕ, List, [], ◌∷◌, ◌++◌, Option, Some, None}
use Rattle.std.specs.Option.{option_map}
use Rattle.mpx_num.specs.ItemList.{ItemList}
use Rattle.mpx_num.specs.Codes.{code_of_operation, code_of_type}
use Rattle.mpx_kind.specs.Codes.{code_of_kind}
use Rattle.mpx_post.specs.Posts.{Given}
use Rattle.mpx_format.specs.Codes.{code_of_mode}

-- the byte of what is there
abbrev pub spelled_if : {A : Type 0} → (A → ℕ) → Option A → List ℕ
spelled_if code None = []
spelled_if code (Some x) = code x ∷ []

-- its kind and mode, and its root, operation and type, where it has these
abbrev pub head_spelled : Given → List ℕ
head_spelled g =
    code_of_kind g.kind ∷ code_of_mode g.mode ∷ (spelled_if (λ r. r) g.root ++ (spelled_if code_of_operation g.op ++ spelled_if code_of_type (option_map (λ (items : ItemList). items.ty) g.items)))
