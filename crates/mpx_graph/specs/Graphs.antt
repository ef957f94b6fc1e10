-- The topologies that calls make, and what is read of one (MPI 4.1, sections 8.5.4 and 8.5.5).
use Rattle.std.specs.Prelude.{◌≡◌, ◌++◌, ℕ, ◌<◌, List, map, length}
use Rattle.std.specs.List.{flat_map}
use Rattle.mpx_birth.specs.declared.edges.Edge.{Edge}
use Rattle.mpx_birth.specs.Births.{upto}
use Rattle.mpx_birth.specs.Edges.{destinations_among, sources_among}
use Rattle.mpx_birth.specs.Topologies.{Near, TopologyView, destinations_at, sources_at}
use Rattle.mpx_post.specs.Posts.{Given, destinations_in, edges_in, sources_in, weighted_in}
use Rattle.mpx_post.specs.Rows.{RowView}
use Rattle.mpx_post.specs.Agreement.{first_of}
use Rattle.mpx_graph.specs.declared.reading.NeighbourCounts.{NeighbourCounts}

-- MPI_DIST_GRAPH_CREATE: the edges of all members, by the contributor's rank, then by their place

abbrev pub all_edges : RowView → List Edge
all_edges row = flat_map (λ (given : Given). edges_in given.making) row

abbrev pub near_among : List Edge → ℕ → Near
near_among edges rank = record { sources = sources_among rank edges; destinations = destinations_among rank edges }

abbrev pub graph_among : (size : ℕ) → List Edge → List Near
graph_among size edges = map (near_among edges) (upto size)

-- these edges are added: where old is the graph of some, new is that of those and then these
abbrev pub AddsEdges : (size : ℕ) → List Edge → (old new : List Near) → Type 0
AddsEdges size edges old new = (before : List Edge) → old ≡ graph_among size before → new ≡ graph_among size (before ++ edges)

-- both ends of the edge are ranks of so many
pub record IsEdgeBetween (size : ℕ) (edge : Edge) : Type 0 where
  pub source : edge.source < size
  pub destination : edge.destination < size

unfoldable pub general : RowView → TopologyView
general row = record { weighted = weighted_in (first_of row).making; ranks = map (near_among (all_edges row)) (upto (length row)) }

-- MPI_DIST_GRAPH_CREATE_ADJACENT: each member's own neighbours in its own order

abbrev pub near_given : Given → Near
near_given given = record { sources = sources_in given.making; destinations = destinations_in given.making }

unfoldable pub adjacent : RowView → TopologyView
adjacent row = record { weighted = weighted_in (first_of row).making; ranks = map near_given row }

-- READING

abbrev pub counts_at : TopologyView → ℕ → NeighbourCounts
counts_at topology rank = record { indegree = length (sources_at topology rank); outdegree = length (destinations_at topology rank); weighted = topology.weighted }
