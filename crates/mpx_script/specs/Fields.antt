-- What the words behind a statement's word mean: operations, types, numbers and lists.
use Rattle.std.specs.Prelude.{ℕ, Bool, true, false, ◌==◌, List, [], ◌∷◌, codes, bytes_eq, Option, Some, None, ℤ, if◌then◌else◌}
use Rattle.std.specs.List.{slice_split}
use Rattle.std.specs.Option.{option_map, option_or}
use Rattle.mpx_num.specs.Text.{number_of}
use Rattle.mpx_num.specs.OwnWords.{place_named}
use Rattle.mpx_num.specs.declared.own.Operation.{Operation}
use Rattle.mpx_num.specs.declared.types.Ty.{Ty}
use Rattle.mpx_num.specs.declared.types.Ty.TheVariants as T
use Rattle.mpx_num.specs.declared.operations.Op.{Op}
use Rattle.mpx_num.specs.declared.operations.Op.TheVariants as O
use Rattle.mpx_kind.specs.declared.kinds.Number.{Number}
use Rattle.mpx_kind.specs.declared.kinds.Number.TheVariants.{One}
use Rattle.mpx_post.specs.Rows.{all_of}
use Rattle.mpx_statement.specs.Lookups.{named}

-- a predefined operation
unfoldable pub predefined_named : List ℕ → Option Op
predefined_named word = named (
    (codes "max", O.Max)
    ∷ (codes "min", O.Min)
    ∷ (codes "sum", O.Sum)
    ∷ (codes "prod", O.Prod)
    ∷ (codes "land", O.Land)
    ∷ (codes "lor", O.Lor)
    ∷ (codes "lxor", O.Lxor)
    ∷ (codes "band", O.Band)
    ∷ (codes "bor", O.Bor)
    ∷ (codes "bxor", O.Bxor)
    ∷ (codes "maxloc", O.Maxloc)
    ∷ (codes "minloc", O.Minloc)
    ∷ []) word

-- an operation: a predefined one, or else the one in this place of the job's own, which are these
unfoldable pub operation_named : List Operation → List ℕ → Option Op
operation_named ops word = option_or (predefined_named word) (option_map O.Own (place_named ops word))

unfoldable pub type_named : List ℕ → Option Ty
type_named word = named (
    (codes "i8", T.I8)
    ∷ (codes "i16", T.I16)
    ∷ (codes "i32", T.I32)
    ∷ (codes "i64", T.I64)
    ∷ (codes "u8", T.U8)
    ∷ (codes "u16", T.U16)
    ∷ (codes "u32", T.U32)
    ∷ (codes "u64", T.U64)
    ∷ (codes "2int", T.TwoInt)
    ∷ []) word

-- just one count
abbrev pub is_one : Number → Bool
is_one One = true
is_one number = false

-- numbers with commas (44) between them, or `-` for none
unfoldable pub list_named : List ℕ → Option (List ℤ)
list_named word = if bytes_eq word (codes "-") then Some [] else all_of number_of (slice_split (λ byte. byte == 44) word)

-- a count, where the kind has just one of them, or a list of counts
abbrev pub counts_named : Number → List ℕ → Option (List ℤ)
counts_named number word = if is_one number then option_map (λ count. count ∷ []) (number_of word) else list_named word

-- a rank, or `null` for none
unfoldable pub rank_named : List ℕ → Option (Option ℤ)
rank_named word = if bytes_eq word (codes "null") then Some None else option_map Some (number_of word)

-- such ranks with commas between them, or `-` for an empty list
unfoldable pub ranks_named : List ℕ → Option (List (Option ℤ))
ranks_named word = if bytes_eq word (codes "-") then Some [] else all_of rank_named (slice_split (λ byte. byte == 44) word)

-- a colour: a number, or `undefined` for none
unfoldable pub colour_named : List ℕ → Option (Option ℤ)
colour_named word = if bytes_eq word (codes "undefined") then Some None else option_map Some (number_of word)

abbrev pub is_arrow : List ℕ → Bool
is_arrow word = bytes_eq word (codes "->")
