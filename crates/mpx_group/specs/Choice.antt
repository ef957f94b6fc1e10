-- Choosing members by rank (MPI 4.1, section 7.3.2).
use Rattle.std.specs.Prelude.{ℕ, Bool, ◌&&◌, if◌then◌else◌, List, map, length, slice_index, ℤ, pos, int_lt, int_le, unsigned_abs, Option, Some, None}
use Rattle.std.specs.List.{list_any, list_all, flat_map}
use Rattle.mpx_group.specs.declared.triplets.Triplet.{Triplet}
use Rattle.mpx_group.specs.declared.errors.GroupError.{GroupError}
use Rattle.mpx_group.specs.declared.errors.GroupError.TheVariants.{BadTriplet, RankOutOfRange, RankTwice}
use Rattle.mpx_group.specs.Group.{has_twice, difference_of}
use Rattle.mpx_group.specs.Triplet.{is_bad, triplet_ranks}

-- whether a number is a rank of a group of n members
abbrev pub is_rank : ℕ → ℤ → Bool
is_rank n r = int_le (pos 0) r && int_lt r (pos n)

-- ranks as places in the list of members
abbrev pub places : List ℤ → List ℕ
places ranks = map unsigned_abs ranks

-- rank i of the new group is the process at ranks[i]
abbrev pub incl_of : List ℕ → List ℤ → List ℕ
incl_of g ranks = map (λ r. slice_index g r) (places ranks)

-- the processes at these ranks are deleted, the others keep their order
abbrev pub excl_of : List ℕ → List ℤ → List ℕ
excl_of g ranks = difference_of g (incl_of g ranks)

-- the ranks of all triplets, one triplet after another
abbrev pub ranks_of : List Triplet → List ℤ
ranks_of triplets = flat_map triplet_ranks triplets

-- why these ranks choose no group: the first reason that holds
abbrev pub ranks_refusal : List ℕ → List ℤ → Option GroupError
ranks_refusal g ranks =
    if list_all (is_rank (length g)) ranks then (if has_twice (places ranks) then Some RankTwice else None) else Some RankOutOfRange

abbrev pub triplets_refusal : List ℕ → List Triplet → Option GroupError
triplets_refusal g triplets =
    if list_any is_bad triplets then Some BadTriplet else ranks_refusal g (ranks_of triplets)
