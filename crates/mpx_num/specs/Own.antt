-- What an operation of a job's own means, by a table of its results: data, which stands in a world or on a queue as numbers do.
use Rattle.std.specs.Prelude.{◌≡◌, ℕ, ◌+◌, ◌*◌, ◌/◌, ◌%◌, ◌^◌, Bool, true, false, if◌then◌else◌, List, [], map, slice_index_or, ℤ, pos}
use Rattle.std.specs.List.{range_with_len}
use Rattle.mpx_num.specs.declared.types.Ty.{Ty}
use Rattle.mpx_num.specs.declared.own.Operation.{Operation}
use Rattle.mpx_num.specs.Types.{IsInRange, is_paired}
use Rattle.mpx_num.specs.Wrapping.{into_range}
use Rattle.mpx_num.specs.Bits.{bits_of}
use Rattle.mpx_num.specs.TypeCodes.{code_of_type, type_at}

-- the second number of an item: one of the type in a pair, else 0
abbrev pub IsSecond : Bool → Ty → ℤ → Type 0
IsSecond true ty z = IsInRange ty z
IsSecond false ty z = z ≡ pos 0

-- the two numbers are an item of the type
pub record IsItem (ty : Ty) (a : ℤ × ℤ) : Type 0 where
  pub first : IsInRange ty a.0
  pub second : IsSecond (is_paired ty) ty a.1

-- the bits of both numbers
abbrev pub item_bits : Ty → ℤ × ℤ → ℕ
item_bits ty a = bits_of ty a.0 * 2 ^ 64 + bits_of ty a.1

-- the item of the type that has these bits
abbrev pub item_with : Ty → ℕ → ℤ × ℤ
item_with ty n = (into_range ty (pos (n / 2 ^ 64)), if is_paired ty then into_range ty (pos (n % 2 ^ 64)) else pos 0)

-- how many different bits two numbers have. The number is named, so that nothing counts to it
pub most_bits : ℕ
most_bits = 2 ^ 128

pub most_bits_is : most_bits ≡ 2 ^ 128
unfolding most_bits
most_bits_is i = 2 ^ 128

-- the operation whose word, types and results are these
unfoldable pub operation_of : List ℕ → (Ty → Bool) → (Ty → ℤ × ℤ → ℤ × ℤ → ℤ × ℤ) → Operation
operation_of word fits f = record {
  word = word;
  types = map (λ c. fits (type_at c)) (range_with_len 0 10);
  results = map (λ c. map (λ m. map (λ n. item_bits (type_at c) (f (type_at c) (item_with (type_at c) m) (item_with (type_at c) n))) (range_with_len 0 most_bits)) (range_with_len 0 most_bits)) (range_with_len 0 10);
}

-- whether the operation is for the type
unfoldable pub own_fits : Operation → Ty → Bool
own_fits op ty = slice_index_or op.types (code_of_type ty) false

-- what the operation makes of two items
unfoldable pub own_combined : Operation → Ty → ℤ × ℤ → ℤ × ℤ → ℤ × ℤ
own_combined op ty a b = item_with ty (slice_index_or (slice_index_or (slice_index_or op.results (code_of_type ty) []) (item_bits ty a) []) (item_bits ty b) 0)

-- the operation at the place; where none is, one that no type fits
unfoldable pub own_at : List Operation → ℕ → Operation
own_at ops place = slice_index_or ops place (record { word = []; types = []; results = [] })
