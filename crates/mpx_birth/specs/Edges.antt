-- Edges between ranks, and the neighbours at their ends (MPI 4.1, section 8.5.4).
use Rattle.std.specs.Prelude.{ℕ, ◌==◌, Bool, List, map, length}
use Rattle.std.specs.List.{filter}
use Rattle.std.specs.Ordering.{is_lt, nat_cmp}
use Rattle.mpx_birth.specs.declared.edges.Edge.{Edge}
use Rattle.mpx_birth.specs.declared.edges.Neighbour.{Neighbour}
use Rattle.mpx_birth.specs.Orders.{ordered}

-- whether it is the neighbour with this rank
abbrev pub has_rank : ℕ → Neighbour → Bool
has_rank rank n = n.rank == rank

-- how often the rank stands there
abbrev pub often : ℕ → List Neighbour → ℕ
often rank ns = length (filter (has_rank rank) ns)

abbrev pub source_of : Edge → Neighbour
source_of e = record { rank = e.source; weight = e.weight }

abbrev pub destination_of : Edge → Neighbour
destination_of e = record { rank = e.destination; weight = e.weight }

-- from whom edges come to this rank, and to whom they go from it, in their order
abbrev pub sources_among : ℕ → List Edge → List Neighbour
sources_among rank edges = map source_of (filter (λ e. e.destination == rank) edges)

abbrev pub destinations_among : ℕ → List Edge → List Neighbour
destinations_among rank edges = map destination_of (filter (λ e. e.source == rank) edges)

-- the weights of the edges between this rank and one with these neighbours on that side, in rising order
abbrev pub weights_of : ℕ → List Neighbour → List ℕ
weights_of rank ns = ordered (λ (x y : ℕ). is_lt (nat_cmp x y)) (map (λ (n : Neighbour). n.weight) (filter (has_rank rank) ns))
