-- Tests of births and topologies, step by step.
use Rattle.std.proofs.Common.{◌≡◌, ℕ, ◌+◌, ◌<◌, true, false, List, length, get_or, map, take, refl, arith}
use Rattle.std.specs.Prelude.{nat_le, nat_lt, Option, Some, None}
use Rattle.std.specs.List.{sum}
use Rattle.std.proofs.lemmas.Bool.{and_from, eq-eqb, le-leb, lt-leb, lt-ltb, not_from_false}
use Rattle.std.proofs.lemmas.List.Elements.{All-weaker}
use Rattle.std.proofs.lemmas.List.Sums.{list_all-from_AllPass, sum-map, sum_by_more_le}
use Rattle.mpx_birth.specs.Births.{BirthView, IsBirth, fits_topology, has_ranks, is_birth}
use Rattle.mpx_birth.specs.Topologies.{TopologyView, most_neighbours}

-- the lengths up to a place, and the one there, are too many in all
pub too_many : {X : Type 0} (f : X → ℕ) (xs : List X) (i room : ℕ) (d : X) → i < length xs → room + sum (map f (take i xs)) ≡ most_neighbours → room < f (get_or xs i d) → nat_le (sum (map f xs)) most_neighbours ≡ false
too_many f xs i room d l so many =
    lt-leb _ _ (omega (arith, so, many, sum-map f xs, sum-map f (take i xs), sum_by_more_le f xs i d l))

has_ranks-from : (size : ℕ) (topology : Option TopologyView) → fits_topology size topology → has_ranks size topology ≡ true
has_ranks-from size None fits = refl
has_ranks-from size (Some topology) fits = eq-eqb _ _ fits

-- what a birth keeps passes the test
pub birth-spelled : (birth : BirthView) → IsBirth birth → is_birth birth ≡ true
unfolding is_birth
birth-spelled birth kept =
    and_from _ _ (lt-ltb _ _ kept.some)
    (and_from _ _ (le-leb _ _ kept.group.few)
    (and_from _ _ (not_from_false _ kept.group.distinct)
    (and_from _ _ (list_all-from_AllPass (λ p. nat_lt p 64) birth.members (All-weaker _ _ (λ p l. lt-ltb p 64 l) birth.members kept.group.below))
    (has_ranks-from (length birth.members) birth.topology kept.topology))))
