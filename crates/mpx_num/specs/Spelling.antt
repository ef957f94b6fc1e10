-- Items as their bytes spell them: each number in as many bytes as its type has, the highest first, below zero in two's complement.
use Rattle.std.specs.Prelude.{ℕ, zero, suc, ◌*◌, ◌/◌, Bool, cond, nat_lt, ◌==◌, List, [], ◌∷◌, length, take, drop, ℤ, pos}
use Rattle.std.specs.Int.{Width, w8, w16, w32, w64, byte_len, cast_signed, cast_unsigned, from_be_bytes, to_be_bytes}
use Rattle.mpx_num.specs.declared.types.Ty.{Ty}
use Rattle.mpx_num.specs.declared.types.Ty.TheVariants.{I8, I16, I32, I64, U8, U16, U32, U64, TwoInt}
use Rattle.mpx_num.specs.Types.{depth, item_len}

-- the width of a number of the type
abbrev pub width_of : Ty → Width
width_of I8 = w8
width_of I16 = w16
width_of I32 = w32
width_of I64 = w64
width_of U8 = w8
width_of U16 = w16
width_of U32 = w32
width_of U64 = w64
width_of TwoInt = w32

-- how many bytes a number of the type has
abbrev pub number_len : Ty → ℕ
number_len ty = byte_len (width_of ty)

-- the bytes of a number, and the number that they spell
abbrev pub bytes_of : Ty → ℤ → List ℕ
bytes_of ty z = to_be_bytes (width_of ty) (cast_unsigned (width_of ty) z)

abbrev pub number_in : Ty → List ℕ → ℤ
number_in ty bytes =
    let n : ℕ = from_be_bytes (width_of ty) bytes in
    cond (nat_lt 0 (depth ty)) (cast_signed (width_of ty) n) (pos n)

-- so many numbers, one after the other
abbrev pub numbers_from : ℕ → Ty → List ℕ → List ℤ
numbers_from zero ty bytes = []
numbers_from (suc n) ty bytes = number_in ty (take (number_len ty) bytes) ∷ numbers_from n ty (drop (number_len ty) bytes)

-- the numbers that the bytes spell
unfoldable pub numbers_in : Ty → List ℕ → List ℤ
numbers_in ty bytes = numbers_from (length bytes / number_len ty) ty bytes

-- no item lacks a byte
abbrev pub are_whole : Ty → List ℕ → Bool
are_whole ty bytes = let len : ℕ = item_len ty * number_len ty in length bytes / len * len == length bytes
