-- What a post gives.
use Rattle.std.specs.Prelude.{◌≡◌, ℕ, ◌*◌, ◌^◌, ℤ, pos, ◌<◌, ◌≤◌, Bool, true, false, List, [], length, Option, Some, None, is_some, nat_lt, unwrap_or}
use Rattle.std.specs.List.{All}
use Rattle.mpx_post.specs.Ranks.{AreRanks}
use Rattle.std.specs.Option.{option_map_or}
use Rattle.mpx_num.specs.declared.types.Ty.{Ty}
use Rattle.mpx_num.specs.declared.types.Ty.TheVariants.{I8}
use Rattle.mpx_num.specs.declared.operations.Op.{Op}
use Rattle.mpx_num.specs.declared.operations.Op.TheVariants.{Sum}
use Rattle.mpx_num.specs.Types.{item_len}
use Rattle.mpx_num.specs.ItemList.{AreItems, ItemList, item_count}
use Rattle.mpx_num.specs.declared.own.Operation.{Operation}
use Rattle.mpx_num.specs.Operations.{fits, is_for}
use Rattle.mpx_kind.specs.declared.kinds.Kind.{Kind}
use Rattle.mpx_kind.specs.declared.kinds.Kind.TheVariants as K
use Rattle.mpx_kind.specs.declared.kinds.Exchange.TheVariants as E
use Rattle.mpx_kind.specs.declared.kinds.Mode.{Mode}
use Rattle.mpx_kind.specs.declared.kinds.Mode.TheVariants.{Blocking}
use Rattle.mpx_kind.specs.declared.kinds.Makes.{Makes}
use Rattle.mpx_kind.specs.declared.kinds.Makes.TheVariants as M
use Rattle.mpx_post.specs.declared.making.Making.{Making}
use Rattle.mpx_post.specs.declared.making.Making.TheVariants.{Nothing, Split, Group, Edges, Neighbours}
use Rattle.mpx_birth.specs.declared.edges.Edge.{Edge}
use Rattle.mpx_birth.specs.declared.edges.Neighbour.{Neighbour}
use Rattle.mpx_post.specs.Graphs.{AreEdges, AreNeighbours}
use Rattle.mpx_kind.specs.Kinds.{fields_of, frees, is_had, may_be}

-- what one member gives to one call: the kind with its fields
pub record Given : Type 0 where
  pub kind : Kind
  pub mode : Mode
  pub root : Option ℕ
  pub op : Option Op
  pub scounts : List ℕ
  pub rcounts : List ℕ
  pub items : Option ItemList
  pub making : Making

-- at most so many items are given, and so many by one count
abbrev pub most_items : ℕ
most_items = 4096

-- so many counts stand in one list at most
abbrev pub most_counts : ℕ
most_counts = 65535

-- counts within their limits
pub record AreCounts (counts : List ℕ) : Type 0 where
  pub small : All (λ count. count ≤ most_items) counts
  pub few : length counts ≤ most_counts

abbrev pub few_items : Option ItemList → Type 0
few_items None = Unit {0}
few_items (Some items) = length items.nums ≤ most_items * item_len items.ty

abbrev pub IsColour : Option ℕ → Type 0
IsColour None = Unit {0}
IsColour (Some colour) = colour < 2 ^ 31

-- of which sort it is what is said of a new communicator
abbrev pub makes_of : Making → Makes
makes_of Nothing = M.Nothing
makes_of (Split colour key) = M.Colour
makes_of (Group ranks) = M.Group
makes_of (Edges edges) = M.Edges
makes_of (Neighbours near) = M.Neighbours

-- it is within its limits
abbrev pub IsWithin : Making → Type 0
IsWithin Nothing = Unit {0}
IsWithin (Split colour key) = IsColour colour
IsWithin (Group ranks) = AreRanks ranks
IsWithin (Edges edges) = AreEdges edges
IsWithin (Neighbours near) = AreNeighbours near

-- what is said of a new communicator is what the kind asks for, within its limits
pub record IsMaking (makes : Makes) (making : Making) : Type 0 where
  pub sort : makes_of making ≡ makes
  pub within : IsWithin making

-- READING A POST

-- whether it frees its communicator
abbrev pub is_free : Given → Bool
is_free given = frees given.kind

-- the rank of the root, of a post that has one
abbrev pub root_of : Given → ℕ
root_of given = unwrap_or given.root 0

-- the operation, of a post that has one
abbrev pub operation_given : Given → Op
operation_given given = unwrap_or given.op Sum

-- the items' type, of a post that has items
abbrev pub type_of : Given → Ty
type_of given = option_map_or (λ (items : ItemList). items.ty) given.items I8

-- the items' numbers: none where there are no items
abbrev pub numbers_of : Given → List ℤ
numbers_of given = option_map_or (λ (items : ItemList). items.nums) given.items []

-- how many items it gives
abbrev pub count_of : Given → ℕ
count_of given = item_count (type_of given) (numbers_of given)

abbrev pub colour_in : Making → Option ℕ
colour_in (Split colour key) = colour
colour_in making = None

abbrev pub key_in : Making → ℤ
key_in (Split colour key) = key
key_in making = pos 0

abbrev pub group_in : Making → List ℕ
group_in (Group ranks) = ranks
group_in making = []

abbrev pub weighted_in : Making → Bool
weighted_in (Edges edges) = edges.weighted
weighted_in (Neighbours near) = near.weighted
weighted_in making = false

abbrev pub edges_in : Making → List Edge
edges_in (Edges edges) = edges.edges
edges_in making = []

abbrev pub sources_in : Making → List Neighbour
sources_in (Neighbours near) = near.sources
sources_in making = []

abbrev pub destinations_in : Making → List Neighbour
destinations_in (Neighbours near) = near.destinations
destinations_in making = []

-- the colour, of a post that has one and in which it isn't undefined
abbrev pub colour_of : Given → Option ℕ
colour_of given = colour_in given.making

-- the key, of a post that has one
abbrev pub key_of : Given → ℤ
key_of given = key_in given.making

-- the ranks of the group, of a post that has one
abbrev pub group_of : Given → List ℕ
group_of given = group_in given.making

-- whether edges have weights, of a post that has a part of a graph
abbrev pub weighted_of : Given → Bool
weighted_of given = weighted_in given.making

-- the edges, of a post that has any
abbrev pub edges_of : Given → List Edge
edges_of given = edges_in given.making

-- the member's own sources and destinations, of a post that has them
abbrev pub sources_of : Given → List Neighbour
sources_of given = sources_in given.making

abbrev pub destinations_of : Given → List Neighbour
destinations_of given = destinations_in given.making

-- LIMITS OF A POST

-- a root is one of so many ranks
abbrev pub fits_root : ℕ → Given → Bool
fits_root size given = option_map_or (λ root. nat_lt root size) given.root true

-- an operation may stand beside the items' type
abbrev pub fits_type : Given → Bool
fits_type given = option_map_or (λ op. fits op (type_of given)) given.op true

-- it is for that type, one of the job's own as its object says
abbrev pub suits : List Operation → Given → Bool
suits ops given = option_map_or (λ op. is_for ops op (type_of given)) given.op true

-- no counts, where there is no list of them
abbrev pub NoneUnless : (had : Bool) → List ℕ → Type 0
NoneUnless true counts = Unit {0}
NoneUnless false counts = counts ≡ []

-- the items are items of their type
abbrev pub are_items_of : Option ItemList → Type 0
are_items_of None = Unit {0}
are_items_of (Some items) = AreItems items.ty items.nums

-- it has the fields of its kind and no others, a mode that its calls may be of, a root below 64, an operation that may stand beside the
-- items' type, and not too many items
pub record IsPost (given : Given) : Type 0 where
  pub root : is_some given.root ≡ (fields_of given.kind).root
  pub root_below : fits_root 64 given ≡ true
  pub op : is_some given.op ≡ (fields_of given.kind).op
  pub type : fits_type given ≡ true
  pub scounts : NoneUnless (is_had (fields_of given.kind).scounts) given.scounts
  pub rcounts : NoneUnless (is_had (fields_of given.kind).rcounts) given.rcounts
  pub items : is_some given.items ≡ (fields_of given.kind).items
  pub few : few_items given.items
  pub mode : may_be given.mode given.kind ≡ true
  pub making : IsMaking (fields_of given.kind).makes given.making

-- what stands where nothing is given
abbrev pub nothing_given : Given
nothing_given = record { kind = K.Exchange E.Barrier; mode = Blocking; root = None; op = None; scounts = []; rcounts = []; items = None; making = Nothing }
