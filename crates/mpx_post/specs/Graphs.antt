-- What posts say of distributed graphs (MPI 4.1, section 8.5.4).
use Rattle.std.specs.Prelude.{◌≡◌, ℕ, ◌+◌, ◌^◌, ◌<◌, ◌≤◌, Bool, true, false, List, [], length}
use Rattle.std.specs.List.{All}
use Rattle.mpx_birth.specs.declared.edges.Edge.{Edge}
use Rattle.mpx_birth.specs.declared.edges.Neighbour.{Neighbour}
use Rattle.mpx_post.specs.declared.drafted_edges.DraftedEdge.{DraftedEdge}
use Rattle.mpx_post.specs.declared.drafted_edges.DraftedNeighbour.{DraftedNeighbour}

-- DRAFTED: with numbers that nobody has checked yet

-- any edges, and the caller's own neighbours; a kind looks at one or the other
pub record GraphView : Type 0 where
  pub weighted : Bool
  pub edges : List DraftedEdge
  pub sources : List DraftedNeighbour
  pub destinations : List DraftedNeighbour

abbrev pub no_graph : GraphView
no_graph = record { weighted = false; edges = []; sources = []; destinations = [] }

-- GIVEN

-- the edges that a member gives, also between others
pub record EdgesView : Type 0 where
  pub weighted : Bool
  pub edges : List Edge

-- the neighbours that a member names as its own
pub record NeighboursView : Type 0 where
  pub weighted : Bool
  pub sources : List Neighbour
  pub destinations : List Neighbour

-- so many edges are given at most
abbrev pub most_edges : ℕ
most_edges = 512

-- a weight is below 2^31, and 0 where edges have none
abbrev pub IsWeight : Bool → ℕ → Type 0
IsWeight true weight = weight < 2 ^ 31
IsWeight false weight = weight ≡ 0

pub record IsEdge (weighted : Bool) (edge : Edge) : Type 0 where
  pub source : edge.source < 64
  pub destination : edge.destination < 64
  pub weight : IsWeight weighted edge.weight

pub record IsNeighbour (weighted : Bool) (neighbour : Neighbour) : Type 0 where
  pub rank : neighbour.rank < 64
  pub weight : IsWeight weighted neighbour.weight

pub record AreEdges (given : EdgesView) : Type 0 where
  pub each : All (IsEdge given.weighted) given.edges
  pub few : length given.edges ≤ most_edges

pub record AreNeighbours (given : NeighboursView) : Type 0 where
  pub sources : All (IsNeighbour given.weighted) given.sources
  pub destinations : All (IsNeighbour given.weighted) given.destinations
  pub few : length given.sources + length given.destinations ≤ most_edges
