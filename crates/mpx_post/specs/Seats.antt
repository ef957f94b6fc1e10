-- What the numbers of a member's counts depend on (MPI 4.1, sections 6.2 and 8.5.5).
use Rattle.std.specs.Prelude.{ℕ, Bool, Option, ◌&&◌, not, is_some}
use Rattle.mpx_kind.specs.declared.kinds.Kind.{Kind}
use Rattle.mpx_kind.specs.declared.kinds.Seat.{Seat}
use Rattle.mpx_kind.specs.Kinds.{needs_topology}
use Rattle.mpx_birth.specs.Topologies.{TopologyView, indegree_in, outdegree_in}

-- of the member with this rank, of so many
abbrev pub seat_at : Option TopologyView → (size rank : ℕ) → (at_root : Bool) → Seat
seat_at topology size rank at_root = record { size = size; at_root = at_root; indegree = indegree_in topology rank; outdegree = outdegree_in topology rank }

-- a call along edges, where there are none
abbrev pub lacks_topology : Option TopologyView → Kind → Bool
lacks_topology topology kind = needs_topology kind && not (is_some topology)
