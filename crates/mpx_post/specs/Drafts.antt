-- Which drafts are refused, and what post another one makes (MPI 4.1, sections 6.2 to 6.12, 7.4, 8.5 and 8.6).
use Rattle.std.specs.Prelude.{◌≡◌, ℕ, ◌+◌, ◌*◌, ◌^◌, ℤ, pos, negsuc, int_le, ◌==◌, ◌&&◌, ◌||◌, Bool, true, false, not, nat_lt, nat_le, List, [], ◌∷◌, ◌++◌, length, map, cond, unwrap_or, Option, Some, None, Result, Ok, Err}
use Rattle.std.specs.List.{list_all, sum}
use Rattle.std.specs.Option.{option_map, option_map_or}
use Rattle.std.specs.Ordering.{int_eq}
use Rattle.mpx_num.specs.ItemList.{is_whole}
use Rattle.mpx_num.specs.declared.own.Operation.{Operation}
use Rattle.mpx_num.specs.Operations.{fits, is_for}
use Rattle.mpx_num.specs.Types.{least, greatest, item_len}
use Rattle.mpx_num.specs.declared.types.Ty.{Ty}
use Rattle.mpx_num.specs.declared.types.Ty.TheVariants.{I8, I32}
use Rattle.mpx_num.specs.declared.operations.Op.TheVariants.{Sum}
use Rattle.mpx_post.specs.declared.draft.At.{At}
use Rattle.mpx_post.specs.declared.draft.Draft.{Draft}
use Rattle.mpx_post.specs.declared.draft.PostError.{PostError}
use Rattle.mpx_post.specs.declared.draft.PostError.TheVariants.{NotMember, Closed, RootOutOfRange, OpNotForType, CountsLength, ItemsLength, ItemOutOfRange, TooManyItems, NoTopology, CallsUsedUp, DepthUsedUp, BadGroup, BadEdge, TooManyEdges, BadTag, OutOfMemory}
use Rattle.mpx_kind.specs.declared.kinds.Number.{Number}
use Rattle.mpx_kind.specs.declared.kinds.Seat.{Seat}
use Rattle.mpx_kind.specs.declared.kinds.Call.{Call}
use Rattle.mpx_kind.specs.declared.kinds.Makes.{Makes}
use Rattle.mpx_kind.specs.declared.kinds.Makes.TheVariants as M
use Rattle.mpx_post.specs.declared.making.Making.{Making}
use Rattle.mpx_post.specs.declared.making.Making.TheVariants.{Nothing, Split, Group, Edges, Neighbours}
use Rattle.mpx_group.specs.Group.{has_twice}
use Rattle.mpx_name.specs.Name.{Name, is_gathering}
use Rattle.mpx_birth.specs.Births.{BirthView, rank_in}
use Rattle.mpx_post.specs.Seats.{lacks_topology, seat_at}
use Rattle.mpx_kind.specs.Kinds.{fields_of, number_in, is_had, kind_of, mode_of, makes_communicators, is_gathered}
use Rattle.mpx_post.specs.Blocks.{blocks_sent}
use Rattle.mpx_birth.specs.declared.edges.Edge.{Edge}
use Rattle.mpx_birth.specs.declared.edges.Neighbour.{Neighbour}
use Rattle.mpx_post.specs.declared.drafted_edges.DraftedEdge.{DraftedEdge}
use Rattle.mpx_post.specs.declared.drafted_edges.DraftedNeighbour.{DraftedNeighbour}
use Rattle.mpx_post.specs.Graphs.{EdgesView, GraphView, NeighboursView, most_edges, no_graph}
use Rattle.mpx_post.specs.Posts.{Given, most_counts, most_items}

-- the first of these refusals whose condition holds
abbrev pub first_that_holds : List (Bool × PostError) → Option PostError
first_that_holds [] = None
first_that_holds (r ∷ rest) = cond r.0 (Some r.1) (first_that_holds rest)

-- so many calls may be made on a context
abbrev pub most_calls : ℕ
most_calls = 4294967295

-- a name has at most so many steps (MPI 4.1 has no such limit)
abbrev pub most_steps : ℕ
most_steps = 8

-- where the call with this number on this context stands, for a process that has posted a free there or not
abbrev pub at : Name → ℕ → (closed : Bool) → At
at name call closed = record { call = call; depth = length name; closed = closed; gathering = is_gathering name }

-- the draft of a call that tells nothing else
abbrev pub empty_draft : Call → Draft
empty_draft call = record { call = call; root = pos 0; op = Sum; ty = I8; scounts = []; rcounts = []; items = []; colour = None; key = pos 0; group = []; graph = None }

-- WHAT A DRAFT HAS. A field that its kind hasn't is not looked at.

abbrev pub sent_counts : Draft → List ℤ
sent_counts draft = cond (is_had (fields_of (kind_of draft.call)).scounts) draft.scounts []

abbrev pub received_counts : Draft → List ℤ
received_counts draft = cond (is_had (fields_of (kind_of draft.call)).rcounts) draft.rcounts []

abbrev pub drafted_numbers : Draft → List ℤ
drafted_numbers draft = cond (fields_of (kind_of draft.call)).items draft.items []

-- the ranks of its group
abbrev pub ranks_in : Makes → Draft → List ℤ
ranks_in M.Group draft = draft.group
ranks_in makes draft = []

-- its graph: unweighted and without edges where it has none
abbrev pub graph_of : Draft → GraphView
graph_of draft = unwrap_or draft.graph no_graph

-- whether the member with this rank is the root that the draft names
abbrev pub is_drafted_root : ℕ → Draft → Bool
is_drafted_root rank draft = (fields_of (kind_of draft.call)).root && int_eq draft.root (pos rank)

-- what the numbers of its counts depend on, as the draft of the member with this rank
abbrev pub drafted_seat : BirthView → (rank : ℕ) → Draft → Seat
drafted_seat birth rank draft = seat_at birth.topology (length birth.members) rank (is_drafted_root rank draft)

-- REFUSALS

-- whether z is a number of the type
abbrev pub is_of : Ty → ℤ → Bool
is_of ty z = int_le (least ty) z && int_le z (greatest ty)

-- whether a count is within its limit
abbrev pub is_count : ℤ → Bool
is_count z = int_le (pos 0) z && int_le z (pos most_items)

-- a number as a natural one: 0 where it is below
abbrev pub natural : ℤ → ℕ
natural (pos n) = n
natural (negsuc n) = 0

abbrev pub naturals : List ℤ → List ℕ
naturals counts = map natural counts

-- a rank of so many
abbrev pub is_rank : ℕ → ℤ → Bool
is_rank size z = int_le (pos 0) z && nat_lt (natural z) size

-- there are so many of them as this number is
abbrev pub are_so_many : List ℤ → Number → Seat → Bool
are_so_many counts number seat = length counts == number_in number seat

-- it has as many counts as its kind asks for
abbrev pub has_its_counts : Seat → Draft → Bool
has_its_counts seat draft = are_so_many (sent_counts draft) (fields_of (kind_of draft.call)).scounts seat && are_so_many (received_counts draft) (fields_of (kind_of draft.call)).rcounts seat

-- another number of items than the blocks have. It isn't asked where a block's count is out of its limit
abbrev pub misfill : Option (List ℤ) → Ty → List ℤ → Bool
misfill None ty nums = false
misfill (Some counts) ty nums = list_all is_count counts && not (sum (naturals counts) * item_len ty == length nums)

-- ranks of so many, none twice
abbrev pub are_ranks : ℕ → List ℤ → Bool
are_ranks size ranks = list_all (is_rank size) ranks && not (has_twice (naturals ranks))

-- a colour: from 0 to 2^31 - 1
abbrev pub is_colour : ℤ → Bool
is_colour z = int_le (pos 0) z && nat_lt (natural z) (2 ^ 31)

-- a key: a number of 32 bits with a sign
abbrev pub is_key : ℤ → Bool
is_key z = is_of I32 z

-- a tag: from 0 to 2^15 - 1
abbrev pub is_tag : ℤ → Bool
is_tag z = int_le (pos 0) z && nat_lt (natural z) (2 ^ 15)

-- the colour and the key are within their limits, where the kind has them
abbrev pub has_colour_and_key : Makes → Draft → Bool
has_colour_and_key M.Colour draft = option_map_or is_colour draft.colour true && is_key draft.key
has_colour_and_key makes draft = true

-- a weight: from 0 to 2^31 - 1, where edges have weights
abbrev pub is_weight : (weighted : Bool) → ℤ → Bool
is_weight weighted z = cond weighted (int_le (pos 0) z && nat_lt (natural z) (2 ^ 31)) true

-- between ranks of so many, with a weight
abbrev pub is_edge : (size : ℕ) → (weighted : Bool) → DraftedEdge → Bool
is_edge size weighted edge = is_rank size edge.source && (is_rank size edge.destination && is_weight weighted edge.weight)

abbrev pub is_neighbour : (size : ℕ) → (weighted : Bool) → DraftedNeighbour → Bool
is_neighbour size weighted neighbour = is_rank size neighbour.rank && is_weight weighted neighbour.weight

-- the edges that the kind looks at are between ranks of so many, with weights
abbrev pub are_edges : Makes → (size : ℕ) → GraphView → Bool
are_edges M.Edges size graph = list_all (is_edge size graph.weighted) graph.edges
are_edges M.Neighbours size graph = list_all (is_neighbour size graph.weighted) graph.sources && list_all (is_neighbour size graph.weighted) graph.destinations
are_edges makes size graph = true

-- how many edges the kind looks at
abbrev pub edge_count : Makes → GraphView → ℕ
edge_count M.Edges graph = length graph.edges
edge_count M.Neighbours graph = length graph.sources + length graph.destinations
edge_count makes graph = 0

-- calls of create_group are made on gatherings, and no others are
abbrev pub is_misplaced : (gathering gathered : Bool) → Bool
is_misplaced gathering gathered = cond gathering (not gathered) gathered

-- such calls aren't made there, or a rank of the group is none of so many or stands twice
abbrev pub has_bad_group : (size : ℕ) → At → Draft → Bool
has_bad_group size at draft = is_misplaced at.gathering (is_gathered (kind_of draft.call)) || not (are_ranks size (ranks_in (fields_of (kind_of draft.call)).makes draft))

-- what is asked last, of the place of the call and of the new communicator
abbrev pub place_refusals : (size : ℕ) → At → Draft → List (Bool × PostError)
place_refusals size at draft =
    (at.call == most_calls, CallsUsedUp)
    ∷ (makes_communicators (kind_of draft.call) && nat_le most_steps at.depth, DepthUsedUp)
    ∷ (has_bad_group size at draft, BadGroup)
    ∷ (not (are_edges (fields_of (kind_of draft.call)).makes size (graph_of draft)), BadEdge)
    ∷ (nat_lt most_edges (edge_count (fields_of (kind_of draft.call)).makes (graph_of draft)), TooManyEdges)
    ∷ (not (has_colour_and_key (fields_of (kind_of draft.call)).makes draft), BadTag)
    ∷ []

-- of the root, the operation, which is for the type or not, and the counts, and whether there are more or fewer items than
-- these tell
abbrev pub asked_first : (for_type : Bool) → Seat → Draft → (misfilled : Bool) → List (Bool × PostError)
asked_first for_type seat draft misfilled =
    ((fields_of (kind_of draft.call)).root && not (is_rank seat.size draft.root), RootOutOfRange)
    ∷ ((fields_of (kind_of draft.call)).op && not for_type, OpNotForType)
    ∷ (not (has_its_counts seat draft), CountsLength)
    ∷ (misfilled, ItemsLength)
    ∷ []

-- whether there are more or fewer items than the counts tell
abbrev pub is_misfilled : Seat → Draft → Bool
is_misfilled seat draft = misfill (blocks_sent (fields_of (kind_of draft.call)).sent seat (sent_counts draft) (received_counts draft)) draft.ty (drafted_numbers draft)

-- of the numbers, how many items they are, and the counts
abbrev pub number_refusals : Draft → List (Bool × PostError)
number_refusals draft =
    (not (list_all (is_of draft.ty) (drafted_numbers draft)), ItemOutOfRange)
    ∷ (nat_lt (most_items * item_len draft.ty) (length (drafted_numbers draft)) || not (list_all is_count (sent_counts draft) && list_all is_count (received_counts draft)), TooManyItems)
    ∷ []

-- why a member may not post this as its next call, in the order in which it is told
abbrev pub refusals : (for_type : Bool) → Seat → At → Draft → List (Bool × PostError)
refusals for_type seat at draft =
    asked_first for_type seat draft (not (is_whole draft.ty (drafted_numbers draft)) || is_misfilled seat draft)
    ++ number_refusals draft
    ++ place_refusals seat.size at draft

-- why its numbers are no items, or its counts no counts
abbrev pub numbers_refusal : Draft → Option PostError
numbers_refusal draft = first_that_holds ((not (is_whole draft.ty (drafted_numbers draft)), ItemsLength) ∷ number_refusals draft)

-- why none may be posted along edges where there is no topology: how many counts there are and how many items they tell is
-- not asked
abbrev pub stray_refusals : Draft → List (Bool × PostError)
stray_refusals draft = number_refusals draft ++ (true, NoTopology) ∷ []

-- the value, where the kind has it
abbrev pub where_had : {A : Type 0} → Bool → A → Option A
where_had had x = cond had (Some x) None

-- an edge or a neighbour that passed, whose weight is 0 where edges have none
abbrev pub edge_of : (weighted : Bool) → DraftedEdge → Edge
edge_of weighted edge = record { source = natural edge.source; destination = natural edge.destination; weight = cond weighted (natural edge.weight) 0 }

abbrev pub neighbour_of : (weighted : Bool) → DraftedNeighbour → Neighbour
neighbour_of weighted neighbour = record { rank = natural neighbour.rank; weight = cond weighted (natural neighbour.weight) 0 }

-- the edges that a graph gives, where they passed
abbrev pub edges_given : GraphView → EdgesView
edges_given graph = record { weighted = graph.weighted; edges = map (edge_of graph.weighted) graph.edges }

-- the neighbours that it names as the member's own, where they passed
abbrev pub neighbours_given : GraphView → NeighboursView
neighbours_given graph = record { weighted = graph.weighted; sources = map (neighbour_of graph.weighted) graph.sources; destinations = map (neighbour_of graph.weighted) graph.destinations }

-- what is said of a new communicator, by a colour, a key, the ranks of a group and a graph
abbrev pub making_of : Makes → Option ℤ → (key : ℤ) → List ℤ → GraphView → Making
making_of M.Nothing colour key ranks graph = Nothing
making_of M.Colour colour key ranks graph = Split (option_map natural colour) key
making_of M.Group colour key ranks graph = Group (naturals ranks)
making_of M.Edges colour key ranks graph = Edges (edges_given graph)
making_of M.Neighbours colour key ranks graph = Neighbours (neighbours_given graph)

-- the post whose fields are the draft's
abbrev pub given_by : Draft → Given
given_by draft = record {
  kind = kind_of draft.call;
  mode = mode_of draft.call;
  root = where_had (fields_of (kind_of draft.call)).root (natural draft.root);
  op = where_had (fields_of (kind_of draft.call)).op draft.op;
  scounts = naturals (sent_counts draft);
  rcounts = naturals (received_counts draft);
  items = where_had (fields_of (kind_of draft.call)).items (record { ty = draft.ty; nums = draft.items });
  making = making_of (fields_of (kind_of draft.call)).makes draft.colour draft.key draft.group (graph_of draft);
}

-- the refusal, where there is one
abbrev pub unless : {A E : Type 0} → Option E → A → Result A E
unless None a = Ok a
unless (Some e) a = Err e

-- why it is refused, where it is
abbrev pub refusal_of : {A E : Type 0} → Result A E → Option E
refusal_of (Ok a) = None
refusal_of (Err e) = Some e

-- what the draft of a member comes to, whose operation is for its type or not
abbrev pub checked_in : (for_type : Bool) → Seat → At → Draft → Result Given PostError
checked_in for_type seat at draft = unless (first_that_holds (refusals for_type seat at draft)) (given_by draft)

-- what the draft of the member with this rank comes to, where it hasn't posted a free, by the job's own operations
abbrev pub checked_as : List Operation → (rank : ℕ) → BirthView → At → Draft → Result Given PostError
checked_as ops rank birth at draft =
    cond (lacks_topology birth.topology (kind_of draft.call))
    (unless (first_that_holds (stray_refusals draft)) (given_by draft))
    (checked_in (is_for ops draft.op draft.ty) (drafted_seat birth rank draft) at draft)

abbrev pub checked_at : List Operation → Option ℕ → BirthView → At → Draft → Result Given PostError
checked_at ops None birth at draft = Err NotMember
checked_at ops (Some rank) birth at draft = cond at.closed (Err Closed) (checked_as ops rank birth at draft)

-- what a draft comes to, by the job's own operations: its first refusal, or its post
unfoldable pub checked : List Operation → BirthView → ℕ → At → Draft → Result Given PostError
checked ops birth me at draft = checked_at ops (rank_in me birth.members) birth at draft

-- the refusal of a draft, or its post, or want of memory in the place of the post
abbrev pub Checks : Result Given PostError → Result Given PostError → Type 0
Checks (Err refusal) answer = answer ≡ Err refusal
Checks (Ok given) (Ok post) = post ≡ given
Checks (Ok given) (Err e) = e ≡ OutOfMemory

-- BARE DRAFTS, whatever the communicator

-- whole items in the type's range, and not too many
abbrev pub are_items : Ty → List ℤ → Bool
are_items ty nums = is_whole ty nums && (list_all (is_of ty) nums && nat_le (length nums) (most_items * item_len ty))

-- counts, and not too many
abbrev pub are_counts : List ℤ → Bool
are_counts counts = list_all is_count counts && nat_le (length counts) most_counts

-- what is said of a new communicator is within the limits of 64 members
abbrev pub has_making : Makes → Draft → Bool
has_making makes draft = are_ranks 64 (ranks_in makes draft)
    && (are_edges makes 64 (graph_of draft)
    && (nat_le (edge_count makes (graph_of draft)) most_edges
    && has_colour_and_key makes draft))

-- the fields that the kind has are within the limits of a post on any communicator
unfoldable pub has_spelling : Draft → Bool
has_spelling draft = cond (fields_of (kind_of draft.call)).root (is_rank 64 draft.root) true
    && (cond (fields_of (kind_of draft.call)).op (fits draft.op draft.ty) true
    && (are_items draft.ty (drafted_numbers draft)
    && (are_counts (sent_counts draft)
    && (are_counts (received_counts draft)
    && has_making (fields_of (kind_of draft.call)).makes draft))))
