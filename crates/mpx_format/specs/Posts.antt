-- How frames spell posts: the fields of each kind, by the table of kinds (MPI 4.1, sections 6.3 to 6.12, 7.4, 8.5 and 8.6).
use Rattle.std.specs.Prelude.{ℕ, zero, suc, ℤ, ◌-◌, ◌*◌, ◌/◌, Bool, true, false, nat_lt, nat_le, List, [], ◌∷◌, length, Option, Some, None}
use Rattle.std.specs.Int.{w16}
use Rattle.std.specs.Option.{option_map}
use Rattle.mpx_num.specs.ItemList.{ItemList}
use Rattle.mpx_num.specs.Spelling.{bytes_of, number_in, number_len}
use Rattle.mpx_num.specs.Types.{item_len}
use Rattle.mpx_num.specs.Operations.{fits}
use Rattle.mpx_num.specs.declared.types.Ty.{Ty}
use Rattle.mpx_num.specs.declared.types.Ty.TheVariants.{I32}
use Rattle.mpx_num.specs.declared.operations.Op.{Op}
use Rattle.mpx_kind.specs.declared.kinds.Kind.{Kind}
use Rattle.mpx_kind.specs.declared.kinds.Mode.{Mode}
use Rattle.mpx_kind.specs.declared.kinds.Makes.{Makes}
use Rattle.mpx_kind.specs.declared.kinds.Makes.TheVariants as M
use Rattle.mpx_kind.specs.Kinds.{fields_of, is_had}
use Rattle.mpx_birth.specs.declared.edges.Edge.{Edge}
use Rattle.mpx_birth.specs.declared.edges.Neighbour.{Neighbour}
use Rattle.mpx_post.specs.declared.making.Making.{Making}
use Rattle.mpx_post.specs.declared.making.Making.TheVariants.{Nothing, Split, Group, Edges, Neighbours}
use Rattle.mpx_post.specs.Drafts.{is_of}
use Rattle.mpx_post.specs.Graphs.{EdgesView, NeighboursView, most_edges}
use Rattle.mpx_post.specs.Posts.{Given}
use Rattle.mpx_format.specs.declared.versions.Version.{Version}
use Rattle.mpx_format.specs.Format.{Format, nothing, byte, number, sized, both, only, through, many, counted, tagged, out_of_limits}
use Rattle.mpx_format.specs.Fields.{process, member, colour}
use Rattle.mpx_format.specs.Codes.{kind, mode, operation, item_type, flag, missing, there, when}
use Rattle.mpx_format.specs.Births.{weight, neighbour}

-- TYPES AND COUNTS

-- the type, beside which the operation may stand where there is one
abbrev pub type_for : Option Op → Format Ty
type_for None = item_type
type_for (Some op) = only out_of_limits (fits op) item_type

abbrev pub of_nil : {A : Type 0} → List A → Option (Unit {0})
of_nil [] = Some tt
of_nil (x ∷ xs) = None

-- no bytes for the empty list
abbrev pub no_list : {A : Type 0} → Format (List A)
no_list = through (λ u. []) of_nil nothing

unfoldable pub count : Format ℕ
count = only out_of_limits (λ c. nat_le c 4096) (number w16)

unfoldable pub counts : Format (List ℕ)
counts = counted (number w16) (λ before. count)

abbrev pub counts_if : (had : Bool) → Format (List ℕ)
counts_if true = counts
counts_if false = no_list

-- ITEMS

-- a number in the range of the type, as items keep it
unfoldable pub integer : Ty → Format ℤ
integer ty = sized (number_len ty) (bytes_of ty) (number_in ty) (is_of ty)

unfoldable pub item_count : Format ℕ
item_count = only out_of_limits (λ n. nat_le n 4096) (number w16)

-- how many items, and the numbers of all of them
unfoldable pub items : Ty → Format (List ℤ)
items ty = through (λ x. x.1) (λ nums. Some (length nums / item_len ty, nums)) (both item_count (λ n. many (λ before. integer ty) (n * item_len ty)))

abbrev pub items_for : Option Ty → Format (List ℤ)
items_for None = no_list
items_for (Some ty) = items ty

-- WHAT IS SAID OF A NEW COMMUNICATOR

abbrev pub code_of_option : {A : Type 0} → Option A → ℕ
code_of_option None = 0
code_of_option (Some a) = 1

abbrev pub option_form : {A : Type 0} → Format A → ℕ → Format (Option A)
option_form f zero = missing
option_form f (suc n) = there f

-- 0 where the colour is undefined, or 1 and the colour
unfoldable pub choice : Format (Option ℕ)
choice = tagged (λ t. nat_lt t 2) code_of_option (option_form colour)

abbrev pub split_of : Option ℕ × ℤ → Making
split_of x = Split x.0 x.1

abbrev pub of_split : Making → Option (Option ℕ × ℤ)
of_split Nothing = None
of_split (Split colour key) = Some (colour, key)
of_split (Group ranks) = None
of_split (Edges edges) = None
of_split (Neighbours near) = None

unfoldable pub split : Format Making
split = through split_of of_split (both choice (λ c. integer I32))

abbrev pub of_group : Making → Option (List ℕ)
of_group Nothing = None
of_group (Split colour key) = None
of_group (Group ranks) = Some ranks
of_group (Edges edges) = None
of_group (Neighbours near) = None

-- ranks, none twice
unfoldable pub ranks : Format (List ℕ)
ranks = counted byte member

unfoldable pub group : Format Making
group = through Group of_group ranks

abbrev pub edge_of : ℕ × (ℕ × ℕ) → Edge
edge_of x = record { source = x.0; destination = x.1.0; weight = x.1.1 }

unfoldable pub edge : Bool → Format Edge
edge weighted = through edge_of (λ e. Some (e.source, (e.destination, e.weight))) (both process (λ s. both process (λ d. weight weighted)))

-- how many edges there are, at most so many
unfoldable pub edge_count : (most : ℕ) → Format ℕ
edge_count most = only out_of_limits (λ n. nat_le n most) (number w16)

abbrev pub edges_of : Bool × List Edge → EdgesView
edges_of x = record { weighted = x.0; edges = x.1 }

-- any edges of a graph
unfoldable pub edges : Format EdgesView
edges = through edges_of (λ e. Some (e.weighted, e.edges)) (both flag (λ w. counted (edge_count most_edges) (λ before. edge w)))

-- neighbours, at most so many
unfoldable pub few_neighbours : Bool → (most : ℕ) → Format (List Neighbour)
few_neighbours weighted most = counted (edge_count most) (λ before. neighbour weighted)

abbrev pub own_of : Bool × (List Neighbour × List Neighbour) → NeighboursView
own_of x = record { weighted = x.0; sources = x.1.0; destinations = x.1.1 }

-- the member's own sources and destinations in a graph, at most 512 together
unfoldable pub own : Format NeighboursView
own = through own_of (λ n. Some (n.weighted, (n.sources, n.destinations)))
    (both flag (λ w. both (few_neighbours w most_edges) (λ s. few_neighbours w (most_edges - length s))))

abbrev pub of_nothing : Making → Option (Unit {0})
of_nothing Nothing = Some tt
of_nothing (Split colour key) = None
of_nothing (Group ranks) = None
of_nothing (Edges edges) = None
of_nothing (Neighbours near) = None

abbrev pub of_edges : Making → Option EdgesView
of_edges Nothing = None
of_edges (Split colour key) = None
of_edges (Group ranks) = None
of_edges (Edges edges) = Some edges
of_edges (Neighbours near) = None

abbrev pub of_own : Making → Option NeighboursView
of_own Nothing = None
of_own (Split colour key) = None
of_own (Group ranks) = None
of_own (Edges edges) = None
of_own (Neighbours near) = Some near

-- what posts of such a kind say
abbrev pub making_for : Makes → Format Making
making_for M.Nothing = through (λ u. Nothing) of_nothing nothing
making_for M.Colour = split
making_for M.Group = group
making_for M.Edges = through Edges of_edges edges
making_for M.Neighbours = through Neighbours of_own own

-- POSTS

-- root, operation, type, counts sent and received, items, and what is said of a new communicator
abbrev pub PostFields : Type 0
PostFields = Kind × (Mode × (Option ℕ × (Option Op × (Option Ty × (List ℕ × (List ℕ × (List ℤ × Making)))))))

abbrev pub given_from : PostFields → Given
given_from x = record {
  kind = x.0;
  mode = x.1.0;
  root = x.1.1.0;
  op = x.1.1.1.0;
  scounts = x.1.1.1.1.1.0;
  rcounts = x.1.1.1.1.1.1.0;
  items = option_map (λ ty. record { ty = ty; nums = x.1.1.1.1.1.1.1.0 }) x.1.1.1.1.0;
  making = x.1.1.1.1.1.1.1.1;
}

abbrev pub nums_of : Option ItemList → List ℤ
nums_of None = []
nums_of (Some i) = i.nums

-- the bytes of a post's type, none where it has no items
abbrev pub type_spelled : Given → List ℕ
type_spelled g = (when (fields_of g.kind).items (type_for g.op)).spelling (option_map (λ (i : ItemList). i.ty) g.items)

-- the bytes of its items, none where it has none
abbrev pub items_spelled : Given → List ℕ
items_spelled g = (items_for (option_map (λ (i : ItemList). i.ty) g.items)).spelling (nums_of g.items)

abbrev pub fields_from : Given → PostFields
fields_from g = (g.kind, (g.mode, (g.root, (g.op, (option_map (λ (i : ItemList). i.ty) g.items, (g.scounts, (g.rcounts, (nums_of g.items, g.making))))))))

-- the fields that posts of the kind have, in their order
unfoldable pub post : Version → Format Given
post version = through given_from (λ g. Some (fields_from g))
    (both (kind version) (λ k. both (mode k) (λ m. both (when (fields_of k).root process) (λ r. both (when (fields_of k).op (operation version)) (λ o.
    both (when (fields_of k).items (type_for o)) (λ t. both (counts_if (is_had (fields_of k).scounts)) (λ s. both (counts_if (is_had (fields_of k).rcounts)) (λ c.
    both (items_for t) (λ i. making_for (fields_of k).makes)))))))))
