-- Worked rows: graphs and their neighbours (MPI 4.1 sections 8.5.4 and 8.5.5).
use Rattle.std.proofs.Common.{◌≡◌, ℕ, Bool, true, false, List, [], ◌∷◌, refl}
use Rattle.mpx_birth.specs.declared.edges.Edge.{Edge}
use Rattle.mpx_birth.specs.declared.edges.Neighbour.{Neighbour}
use Rattle.mpx_birth.specs.Topologies.{TopologyView, destinations_at, sources_at}
use Rattle.mpx_kind.specs.declared.kinds.Kind.TheVariants.{NewCommunicator}
use Rattle.mpx_kind.specs.declared.kinds.NewCommunicator.TheVariants.{DistGraph, DistGraphAdjacent}
use Rattle.mpx_post.specs.declared.making.Making.TheVariants as Making
use Rattle.mpx_post.specs.Posts.{Given, nothing_given}
use Rattle.mpx_graph.specs.Graphs.{adjacent, counts_at, general}

abbrev edge : (source destination weight : ℕ) → Edge
edge s d w = record { source = s; destination = d; weight = w }

abbrev near : (rank weight : ℕ) → Neighbour
near r w = record { rank = r; weight = w }

abbrev gives : Bool → List Edge → Given
gives weighted edges = record nothing_given { kind = NewCommunicator DistGraph; making = Making.Edges (record { weighted = weighted; edges = edges }) }

abbrev names : (sources destinations : List Neighbour) → Given
names sources destinations = record nothing_given { kind = NewCommunicator DistGraphAdjacent; making = Making.Neighbours (record { weighted = false; sources = sources; destinations = destinations }) }

-- ANY EDGES

-- rank 0 gives an edge between others and a loop, rank 2 two edges to itself, of which one is there once more
crossed : TopologyView
unfolding general
crossed = general (gives false (edge 1 2 0 ∷ edge 2 2 0 ∷ []) ∷ gives false [] ∷ gives false (edge 0 2 0 ∷ edge 1 2 0 ∷ []) ∷ [])

-- by the giver's rank, then by their place
crossed_sources : sources_at crossed 2 ≡ near 1 0 ∷ near 2 0 ∷ near 0 0 ∷ near 1 0 ∷ []
unfolding crossed
crossed_sources = refl

crossed_destinations : destinations_at crossed 1 ≡ near 2 0 ∷ near 2 0 ∷ []
unfolding crossed
crossed_destinations = refl

crossed_counts : counts_at crossed 2 ≡ record { indegree = 4; outdegree = 1; weighted = false }
unfolding crossed
crossed_counts = refl

crossed_counts_of_the_first : counts_at crossed 0 ≡ record { indegree = 0; outdegree = 1; weighted = false }
unfolding crossed
crossed_counts_of_the_first = refl

-- nobody is beside a rank that there isn't
crossed_beyond : counts_at crossed 3 ≡ record { indegree = 0; outdegree = 0; weighted = false }
unfolding crossed
crossed_beyond = refl

-- an edge twice, with weights
twice : TopologyView
unfolding general
twice = general (gives true (edge 0 1 5 ∷ edge 0 1 0 ∷ []) ∷ gives true [] ∷ [])

twice_destinations : destinations_at twice 0 ≡ near 1 5 ∷ near 1 0 ∷ []
unfolding twice
twice_destinations = refl

twice_sources : sources_at twice 1 ≡ near 0 5 ∷ near 0 0 ∷ []
unfolding twice
twice_sources = refl

twice_counts : counts_at twice 1 ≡ record { indegree = 2; outdegree = 0; weighted = true }
unfolding twice
twice_counts = refl

-- THE MEMBERS' OWN NEIGHBOURS

one_edge : adjacent (names [] (near 1 0 ∷ []) ∷ names (near 0 0 ∷ []) [] ∷ []) ≡ record { weighted = false; ranks = record { sources = []; destinations = near 1 0 ∷ [] } ∷ record { sources = near 0 0 ∷ []; destinations = [] } ∷ [] }
unfolding adjacent
one_edge = refl

-- in the order in which each names them
own_order : adjacent (names (near 1 0 ∷ near 0 0 ∷ []) (near 1 0 ∷ near 0 0 ∷ []) ∷ names (near 0 0 ∷ []) (near 0 0 ∷ []) ∷ []) ≡ record { weighted = false; ranks = record { sources = near 1 0 ∷ near 0 0 ∷ []; destinations = near 1 0 ∷ near 0 0 ∷ [] } ∷ record { sources = near 0 0 ∷ []; destinations = near 0 0 ∷ [] } ∷ [] }
unfolding adjacent
own_order = refl
