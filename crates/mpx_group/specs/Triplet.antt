-- Triplets of ranks (MPI 4.1, section 7.3.2).
use Rattle.std.specs.Prelude.{ℕ, ◌+◌, ◌/◌, Bool, ◌&&◌, ◌||◌, List, map, ℤ, pos, ◌+ℤ◌, ◌-ℤ◌, ◌*ℤ◌, int_lt, unsigned_abs}
use Rattle.std.specs.List.{range_with_len}
use Rattle.std.specs.Ordering.{int_eq}
use Rattle.mpx_group.specs.declared.triplets.Triplet.{Triplet}

-- whether a rank lies beyond last, in the stride's direction
abbrev pub is_past : Triplet → ℤ → Bool
is_past t r = (int_lt (pos 0) t.stride && int_lt t.last r) || (int_lt t.stride (pos 0) && int_lt r t.last)

-- the stride is 0, or points away from last
abbrev pub is_bad : Triplet → Bool
is_bad t = int_eq t.stride (pos 0) || is_past t t.first

-- floor((last - first) / stride); both have one sign, so it is the quotient of their sizes
abbrev pub strides_in : Triplet → ℕ
strides_in t = unsigned_abs (t.last -ℤ t.first) / unsigned_abs t.stride

-- first + i * stride, for each i from 0 to floor((last - first) / stride)
abbrev pub triplet_ranks : Triplet → List ℤ
triplet_ranks t = map (λ i. t.first +ℤ (pos i *ℤ t.stride)) (range_with_len 0 (strides_in t + 1))
