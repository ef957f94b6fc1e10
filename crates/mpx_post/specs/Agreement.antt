-- When the posts of a row fit together (MPI 4.1, sections 6.2 to 6.12, 7.4, 8.5 and 8.6).
use Rattle.std.specs.Prelude.{◌≡◌, ℕ, ◌*◌, ◌<◌, ◌==◌, ◌&&◌, nat_lt, Bool, true, false, List, [], length, Option, Some, None, slice_get, slice_index_or, unwrap_or, not}
use Rattle.std.specs.List.{sum, list_all}
use Rattle.mpx_group.specs.Group.{has_twice}
use Rattle.std.specs.Option.{option_map, option_map_or}
use Rattle.mpx_num.specs.declared.own.Operation.{Operation}
use Rattle.mpx_num.specs.declared.types.Ty.{Ty}
use Rattle.mpx_num.specs.ItemList.{ItemList}
use Rattle.mpx_num.specs.Types.{item_len}
use Rattle.mpx_kind.specs.declared.kinds.Kind.{Kind}
use Rattle.mpx_kind.specs.declared.kinds.Kind.TheVariants as K
use Rattle.mpx_kind.specs.declared.kinds.Exchange.{Exchange}
use Rattle.mpx_kind.specs.declared.kinds.Exchange.TheVariants as E
use Rattle.mpx_kind.specs.declared.kinds.Reduction.{Reduction}
use Rattle.mpx_kind.specs.declared.kinds.Reduction.TheVariants as R
use Rattle.mpx_kind.specs.declared.kinds.Neighbourhood.{Neighbourhood}
use Rattle.mpx_kind.specs.declared.kinds.Neighbourhood.TheVariants as H
use Rattle.mpx_kind.specs.declared.kinds.Seat.{Seat}
use Rattle.mpx_kind.specs.Kinds.{fields_of, number_in}
use Rattle.mpx_post.specs.Seats.{lacks_topology, seat_at}
use Rattle.mpx_birth.specs.Topologies.{TopologyView, destinations_at}
use Rattle.mpx_birth.specs.Ends.{rank_at, taken_at}
use Rattle.mpx_post.specs.Posts.{Given, nothing_given, root_of, type_of, numbers_of, count_of, destinations_in, destinations_of, edges_in, fits_root, fits_type, group_in, group_of, sources_in, sources_of, suits, weighted_of}
use Rattle.mpx_birth.specs.declared.edges.Edge.{Edge}
use Rattle.mpx_birth.specs.declared.edges.Neighbour.{Neighbour}
use Rattle.mpx_birth.specs.Edges.{weights_of}
use Rattle.mpx_post.specs.Rows.{RowView}
use Rattle.mpx_post.specs.Blocks.{blocks_sent}

-- READING A ROW

-- the post of the member with this rank
abbrev pub post_at : RowView → ℕ → Given
post_at row rank = slice_index_or row rank nothing_given

-- rank 0's post
abbrev pub first_of : RowView → Given
first_of row = post_at row 0

-- the post of the root that rank 0 names
abbrev pub root_post : RowView → Given
root_post row = post_at row (root_of (first_of row))

-- the count at a place
abbrev pub count_at : List ℕ → ℕ → ℕ
count_at counts i = slice_index_or counts i 0

-- the one receive count of a post that has one
abbrev pub received : Given → ℕ
received given = count_at given.rcounts 0

-- the type of the items, where there are some
abbrev pub type_given : Given → Option Ty
type_given given = option_map (λ (items : ItemList). items.ty) given.items

-- WHAT FITS A COMMUNICATOR

-- whether the member with this rank is the root that its post names
abbrev pub is_root : ℕ → Given → Bool
is_root rank given = option_map_or (λ root. root == rank) given.root false

-- what the numbers of its counts depend on, as the post of the member with this rank
abbrev pub seat_of : Option TopologyView → (size rank : ℕ) → Given → Seat
seat_of topology size rank given = seat_at topology size rank (is_root rank given)

-- the blocks that the member sends, by their numbers of items, where its kind tells them
abbrev pub blocks_of : Seat → Given → Option (List ℕ)
blocks_of seat given = blocks_sent (fields_of given.kind).sent seat given.scounts given.rcounts

-- the blocks' numbers of items of what the member with this rank sends
abbrev pub counts_sent : Option TopologyView → RowView → (sender : ℕ) → List ℕ
counts_sent topology row sender = unwrap_or (blocks_of (seat_of topology (length row) sender (post_at row sender)) (post_at row sender)) []

-- as many numbers as the blocks have
abbrev pub fill : Option (List ℕ) → Given → Bool
fill None given = true
fill (Some counts) given = sum counts * item_len (type_of given) == length (numbers_of given)

-- a group has ranks of so many, none twice
abbrev pub fits_group : ℕ → Given → Bool
fits_group size given = not (has_twice (group_in given.making)) && list_all (λ r. nat_lt r size) (group_in given.making)

-- the ends of edges are ranks of so many
abbrev pub fits_edges : ℕ → Given → Bool
fits_edges size given = list_all (λ (e : Edge). nat_lt e.source size && nat_lt e.destination size) (edges_in given.making)
    && (list_all (λ (n : Neighbour). nat_lt n.rank size) (sources_in given.making)
    && list_all (λ (n : Neighbour). nat_lt n.rank size) (destinations_in given.making))

-- as many counts and items as the kind asks for
abbrev pub fits_counts : Seat → Given → Bool
fits_counts seat given = (length given.scounts == number_in (fields_of given.kind).scounts seat)
    && ((length given.rcounts == number_in (fields_of given.kind).rcounts seat)
    && fill (blocks_of seat given) given)

-- the post could be that of the member with this rank, of so many, in a communicator with this topology: none of
-- RootOutOfRange, OpNotForType (where the operation is a predefined one), CountsLength, ItemsLength, NoTopology and, for ranks
-- out of range or twice, BadGroup and BadEdge holds of it
abbrev pub is_fit : Option TopologyView → (size rank : ℕ) → Given → Bool
is_fit topology size rank given = fits_root size given
    && (fits_type given
    && (fits_counts (seat_of topology size rank given) given
    && (fits_group size given
    && (fits_edges size given
    && not (lacks_topology topology given.kind)))))

-- WHAT AGREES

-- how many items are sent on the edge at this place among the sender's destinations
abbrev pub sent_on : Neighbourhood → Given → (place : ℕ) → ℕ
sent_on H.Alltoall given place = count_at given.scounts 0
sent_on H.Alltoallv given place = count_at given.scounts place
sent_on exchange given place = count_of given

-- how many items are awaited on the edge at this place among the receiver's sources
abbrev pub awaited_on : Neighbourhood → Given → (place : ℕ) → ℕ
awaited_on H.Allgatherv given place = count_at given.rcounts place
awaited_on H.Alltoallv given place = count_at given.rcounts place
awaited_on exchange given place = received given

-- what is asked of the amounts of a post: nothing, or that what it gives is the same as this, a number, the counts, or a number
-- at each of so many places
pub data Asked : Type 0 where
  Any : Asked
  Same : (given asked : ℕ) → Asked
  SameCounts : (given asked : List ℕ) → Asked
  SameAtEach : (places : ℕ) → (given asked : ℕ → ℕ) → Asked

abbrev pub asked_of_exchange : Exchange → RowView → (rank : ℕ) → Given → Asked
asked_of_exchange E.Barrier row rank given = Any
asked_of_exchange E.Bcast row rank given = Same (received given) (received (first_of row))
asked_of_exchange E.Gather row rank given = Same (count_of given) (count_of (root_post row))
asked_of_exchange E.Gatherv row rank given = Same (count_of given) (count_at (root_post row).rcounts rank)
asked_of_exchange E.Scatter row rank given = Same (received given) (received (root_post row))
asked_of_exchange E.Scatterv row rank given = Same (received given) (count_at (root_post row).scounts rank)
asked_of_exchange E.Allgather row rank given = Same (count_of given) (count_of (first_of row))
asked_of_exchange E.Allgatherv row rank given = SameAtEach (length row) (λ receiver. count_of given) (λ receiver. count_at (post_at row receiver).rcounts rank)
asked_of_exchange E.Alltoall row rank given = Same (received given) (received (first_of row))
asked_of_exchange E.Alltoallv row rank given = SameAtEach (length row) (count_at given.scounts) (λ receiver. count_at (post_at row receiver).rcounts rank)

abbrev pub asked_of_reduction : Reduction → RowView → Given → Asked
asked_of_reduction R.ReduceScatterBlock row given = Same (received given) (received (first_of row))
asked_of_reduction R.ReduceScatter row given = SameCounts given.rcounts (first_of row).rcounts
asked_of_reduction reduction row given = Same (count_of given) (count_of (first_of row))

-- on each edge from the member as many items are awaited at its other end as are sent (MPI 4.1 section 8.6)
abbrev pub asked_on_edges : Neighbourhood → Option TopologyView → RowView → ℕ → Given → Asked
asked_on_edges exchange topology row rank given = option_map_or (λ (edges : TopologyView).
    let destinations = destinations_at edges rank in
    SameAtEach (length destinations) (sent_on exchange given) (λ place. awaited_on exchange (post_at row (rank_at destinations place)) (taken_at edges rank place))) topology Any

-- what its kind asks of the amounts of the member's post
abbrev pub asked_of : Option TopologyView → Kind → RowView → (rank : ℕ) → Given → Asked
asked_of topology (K.Exchange exchange) row rank given = asked_of_exchange exchange row rank given
asked_of topology (K.Reduction reduction) row rank given = asked_of_reduction reduction row given
asked_of topology (K.Neighbourhood exchange) row rank given = asked_on_edges exchange topology row rank given
asked_of topology kind row rank given = Any

-- it is given
abbrev pub IsGiven : Asked → Type 0
IsGiven Any = Unit {0}
IsGiven (Same given asked) = given ≡ asked
IsGiven (SameCounts given asked) = given ≡ asked
IsGiven (SameAtEach places given asked) = (place : ℕ) → place < places → given place ≡ asked place

abbrev pub AmountsAgree : Option TopologyView → Kind → RowView → (rank : ℕ) → Given → Type 0
AmountsAgree topology kind row rank given = IsGiven (asked_of topology kind row rank given)

-- each member of the group that the post gives, if any, gives the same group (MPI 4.1 section 7.4.2)
abbrev pub GroupsAgree : RowView → Given → Type 0
GroupsAgree row given = (place member : ℕ) → slice_get (group_of given) place ≡ Some member → group_of (post_at row member) ≡ group_of given

-- the weights of the edges between this member and the other, as told at either end, in rising order, are the same
-- (MPI 4.1 section 8.5.4)
abbrev pub EdgesAgree : RowView → (rank : ℕ) → Given → Type 0
EdgesAgree row rank given = (other : ℕ) → other < length row → weights_of other (destinations_of given) ≡ weights_of rank (sources_of (post_at row other))

-- the post of the member with this rank fits a communicator with this topology and agrees with the others
pub record Agrees (topology : Option TopologyView) (row : RowView) (rank : ℕ) : Type 0 where
  pub fit : is_fit topology (length row) rank (post_at row rank) ≡ true
  pub kind : (post_at row rank).kind ≡ (first_of row).kind
  pub mode : (post_at row rank).mode ≡ (first_of row).mode
  pub root : (post_at row rank).root ≡ (first_of row).root
  pub op : (post_at row rank).op ≡ (first_of row).op
  pub ty : type_given (post_at row rank) ≡ type_given (first_of row)
  pub amounts : AmountsAgree topology (first_of row).kind row rank (post_at row rank)
  pub weights : weighted_of (post_at row rank) ≡ weighted_of (first_of row)
  pub edges : EdgesAgree row rank (post_at row rank)
  pub groups : GroupsAgree row (post_at row rank)

-- the posts of all members do
pub record IsFineWith (topology : Option TopologyView) (row : RowView) : Type 0 where
  pub each : (rank : ℕ) → rank < length row → Agrees topology row rank

-- the operation of each member's post is for its type, by the job's own operations
pub record AllSuit (ops : List Operation) (row : RowView) : Type 0 where
  pub each : (rank : ℕ) → rank < length row → suits ops (post_at row rank) ≡ true

-- the posts fit and agree in some communicator. What they give is the same in all of them, but along edges.
pub record IsFine (row : RowView) : Type 0 where
  pub topology : Option TopologyView
  pub with : IsFineWith topology row
