-- Topologies: for each rank its sources and its destinations (MPI 4.1, sections 8.5.4 and 8.5.5).
use Rattle.std.specs.Prelude.{◌≡◌, ℕ, ◌==◌, ◌≤◌, ◌^◌, ◌&&◌, nat_eq, nat_le, nat_lt, Bool, true, false, cond, List, [], length, map, slice_index_or, Option, Some, None, refl}
use Rattle.std.proofs.Common.{ap}
use Rattle.std.specs.Bool.{Decides, beq}
use Rattle.std.specs.List.{list_all, sum}
use Rattle.std.specs.Option.{option_map_or}
use Rattle.std.specs.Cmp.{booleans_Decides}
use Rattle.std.proofs.lemmas.Bool.Decides.{Decides-and, Decides-eqb, Decides-like}
use Rattle.std.proofs.lemmas.Slice.Eq.{slice_eq-Decides}
use lib.Pointwise.{pointwise}
use Rattle.mpx_birth.specs.declared.edges.Neighbour.{Neighbour}
use Rattle.mpx_birth.specs.Edges.{often}
use Rattle.mpx_birth.specs.Orders.{upto}

-- the neighbours of one rank
pub record Near : Type 0 where
  pub sources : List Neighbour
  pub destinations : List Neighbour

pub record TopologyView : Type 0 where
  pub weighted : Bool
  pub ranks : List Near

abbrev pub nobody : Near
nobody = record { sources = []; destinations = [] }

abbrev pub sources_near : List Near → ℕ → List Neighbour
sources_near ranks rank = (slice_index_or ranks rank nobody).sources

abbrev pub destinations_near : List Near → ℕ → List Neighbour
destinations_near ranks rank = (slice_index_or ranks rank nobody).destinations

abbrev pub sources_at : TopologyView → ℕ → List Neighbour
sources_at topology rank = (slice_index_or topology.ranks rank nobody).sources

abbrev pub destinations_at : TopologyView → ℕ → List Neighbour
destinations_at topology rank = (slice_index_or topology.ranks rank nobody).destinations

-- j stands among i's destinations as often as i among j's sources. So no rank stands there that is none of the ranks.
pub record AgreesAtBothEnds (ranks : List Near) : Type 0 where
  pub both : (i j : ℕ) → often j (destinations_near ranks i) ≡ often i (sources_near ranks j)

-- so many sources have all ranks together at most, and as many destinations: each of 64 members tells of 512 edges
abbrev pub most_neighbours : ℕ
most_neighbours = 32768

pub record IsFew (near : Near) : Type 0 where
  pub sources : length near.sources ≤ most_neighbours
  pub destinations : length near.destinations ≤ most_neighbours

-- WHAT A TOPOLOGY IS

-- a weight is below 2^31, and 0 where edges have none
abbrev pub fits_weight : Bool → ℕ → Bool
fits_weight weighted weight = cond weighted (nat_lt weight (2 ^ 31)) (nat_eq weight 0)

-- a neighbour is one of so many ranks
abbrev pub fits_neighbour : (size : ℕ) → (weighted : Bool) → Neighbour → Bool
fits_neighbour size weighted neighbour = nat_lt neighbour.rank size && fits_weight weighted neighbour.weight

-- one rank's neighbours
abbrev pub is_near : (size : ℕ) → (weighted : Bool) → Near → Bool
is_near size weighted near =
    list_all (fits_neighbour size weighted) near.sources && list_all (fits_neighbour size weighted) near.destinations

-- how many neighbours stand among the sources of all ranks, and how many among their destinations

abbrev pub sources_in_all : List Near → ℕ
sources_in_all ranks = sum (map (λ (near : Near). length near.sources) ranks)

abbrev pub destinations_in_all : List Near → ℕ
destinations_in_all ranks = sum (map (λ (near : Near). length near.destinations) ranks)

-- of the edges from i to j both tell the same number
abbrev pub tell_alike : List Near → (i j : ℕ) → Bool
tell_alike ranks i j = nat_eq (often j (destinations_near ranks i)) (often i (sources_near ranks j))

-- of each two ranks both tell the same number of edges between them
abbrev pub are_paired : List Near → Bool
are_paired ranks = list_all (λ j. list_all (λ i. tell_alike ranks i j) (upto (length ranks))) (upto (length ranks))

-- at most 64 ranks, neighbours among them, at most 32,768 sources and as many destinations in all, and both ends tell an
-- edge
unfoldable pub is_topology : TopologyView → Bool
is_topology topology =
    nat_le (length topology.ranks) 64
    && (list_all (is_near (length topology.ranks) topology.weighted) topology.ranks
    && (nat_le (sources_in_all topology.ranks) most_neighbours
    && (nat_le (destinations_in_all topology.ranks) most_neighbours && are_paired topology.ranks)))

-- what is made of such neighbours: the topology, where they are one's, and none where they aren't
abbrev pub IsTopologyOf : TopologyView → Option TopologyView → Type 0
IsTopologyOf neighbours None = is_topology neighbours ≡ false
IsTopologyOf neighbours (Some topology) = (is_topology neighbours ≡ true) × (topology ≡ neighbours)

-- what a topology keeps: that it is one, and what follows
pub record IsTopology (topology : TopologyView) : Type 0 where
  pub spelled : is_topology topology ≡ true
  pub agree : AgreesAtBothEnds topology.ranks
  pub few : length topology.ranks ≤ 64
  pub each : (rank : ℕ) → IsFew (slice_index_or topology.ranks rank nobody)

-- it keeps this, where there is one
abbrev pub IsKept : Option TopologyView → Type 0
IsKept None = Unit {0}
IsKept (Some topology) = IsTopology topology

-- how many edges come to a rank, none where there is no topology

abbrev pub indegree_in : Option TopologyView → ℕ → ℕ
indegree_in topology rank = option_map_or (λ t. length (sources_at t rank)) topology 0

-- how many go from it

abbrev pub outdegree_in : Option TopologyView → ℕ → ℕ
outdegree_in topology rank = option_map_or (λ t. length (destinations_at t rank)) topology 0

-- EQUALITY

abbrev pub same_neighbour : Neighbour → Neighbour → Bool
same_neighbour a b = (a.rank == b.rank) && (a.weight == b.weight)

abbrev pub same_neighbours : List Neighbour → List Neighbour → Bool
same_neighbours xs ys = pointwise same_neighbour xs ys

abbrev pub same_near : Near → Near → Bool
same_near a b = same_neighbours a.sources b.sources && same_neighbours a.destinations b.destinations

abbrev pub same_nears : List Near → List Near → Bool
same_nears xs ys = pointwise same_near xs ys

abbrev pub same_topology : TopologyView → TopologyView → Bool
same_topology a b = beq a.weighted b.weighted && same_nears a.ranks b.ranks

-- Each of these tests decides whether the two are equal

pub neighbour_decided : (a b : Neighbour) → Decides (same_neighbour a b) (a ≡ b)
neighbour_decided a b =
    Decides-like _
    (λ e. λ i. record { rank = e.0 i; weight = e.1 i })
    (λ e. (ap (λ (n : Neighbour). n.rank) e, ap (λ (n : Neighbour). n.weight) e))
    (Decides-and _ _ (Decides-eqb a.rank b.rank) (Decides-eqb a.weight b.weight))

pub neighbours_decided : (xs ys : List Neighbour) → Decides (same_neighbours xs ys) (xs ≡ ys)
neighbours_decided xs ys = slice_eq-Decides neighbour_decided xs ys (same_neighbours xs ys) refl

near_decided : (a b : Near) → Decides (same_near a b) (a ≡ b)
near_decided a b =
    Decides-like _
    (λ e. λ i. record { sources = e.0 i; destinations = e.1 i })
    (λ e. (ap (λ (n : Near). n.sources) e, ap (λ (n : Near). n.destinations) e))
    (Decides-and _ _ (neighbours_decided a.sources b.sources) (neighbours_decided a.destinations b.destinations))

pub topologies_decided : (a b : TopologyView) → Decides (same_topology a b) (a ≡ b)
topologies_decided a b =
    Decides-like _
    (λ e. λ i. record { weighted = e.0 i; ranks = e.1 i })
    (λ e. (ap (λ (t : TopologyView). t.weighted) e, ap (λ (t : TopologyView). t.ranks) e))
    (Decides-and _ _ (booleans_Decides a.weighted b.weighted) (slice_eq-Decides near_decided a.ranks b.ranks (same_nears a.ranks b.ranks) refl))
