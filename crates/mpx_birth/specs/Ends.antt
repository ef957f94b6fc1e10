-- Which place among a rank's destinations and which among another's sources are the two ends of one edge (MPI 4.1, section 8.6).
use Rattle.std.specs.Prelude.{◌≡◌, ℕ, zero, suc, ◌+◌, ◌<◌, List, [], ◌∷◌, length, take, cond, slice_index_or}
use Rattle.mpx_birth.specs.declared.edges.Neighbour.{Neighbour}
use Rattle.mpx_birth.specs.Edges.{has_rank, often}
use Rattle.mpx_birth.specs.Topologies.{TopologyView, destinations_at, sources_at}

-- the rank at a place
abbrev pub rank_at : List Neighbour → ℕ → ℕ
rank_at ns place = (slice_index_or ns place (record { rank = 0; weight = 0 })).rank

-- how often the rank of this place stands before it
abbrev pub turn : List Neighbour → ℕ → ℕ
turn ns place = often (rank_at ns place) (take place ns)

-- the place at which the rank stands for the time of this number, counted from 0; the length where it doesn't
abbrev pub place_of : (rank : ℕ) → (time : ℕ) → List Neighbour → ℕ
place_of rank time [] = 0
place_of rank zero (n ∷ ns) = cond (has_rank rank n) 0 (1 + place_of rank zero ns)
place_of rank (suc time) (n ∷ ns) = 1 + cond (has_rank rank n) (place_of rank time ns) (place_of rank (suc time) ns)

-- place k among i's destinations meets place l among j's sources: the n-th j there and the n-th i here
pub record Meet (topology : TopologyView) (i k j l : ℕ) : Type 0 where
  pub sent_within : k < length (destinations_at topology i)
  pub sent_to : rank_at (destinations_at topology i) k ≡ j
  pub taken_within : l < length (sources_at topology j)
  pub taken_from : rank_at (sources_at topology j) l ≡ i
  pub turn : turn (destinations_at topology i) k ≡ turn (sources_at topology j) l

-- the place among the source's destinations that meets this place among the rank's sources
abbrev pub sent_at : TopologyView → (rank place : ℕ) → ℕ
sent_at topology rank place = let sources = sources_at topology rank in place_of rank (turn sources place) (destinations_at topology (rank_at sources place))

-- each place among a rank's sources meets one among the source's destinations
abbrev pub SourcesMeet : TopologyView → Type 0
SourcesMeet topology = (rank place : ℕ) → place < length (sources_at topology rank) → Meet topology (rank_at (sources_at topology rank) place) (sent_at topology rank place) rank place

-- the place among the destination's sources that meets this place among the rank's destinations
abbrev pub taken_at : TopologyView → (rank place : ℕ) → ℕ
taken_at topology rank place = let destinations = destinations_at topology rank in place_of rank (turn destinations place) (sources_at topology (rank_at destinations place))

-- each place among a rank's destinations meets one among the destination's sources
abbrev pub DestinationsMeet : TopologyView → Type 0
DestinationsMeet topology = (rank place : ℕ) → place < length (destinations_at topology rank) → Meet topology rank place (rank_at (destinations_at topology rank) place) (taken_at topology rank place)
