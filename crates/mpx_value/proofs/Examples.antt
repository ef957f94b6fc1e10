-- The communicators of small rows, and what they give each rank.
use Rattle.std.proofs.Common.{◌≡◌, ℕ, zero, suc, ℤ, pos, negsuc, true, false, List, [], ◌∷◌, Option, Some, None, refl}
use Rattle.mpx_name.specs.declared.steps.Step.TheVariants.{Child, Gathering}
use Rattle.mpx_name.specs.Name.{Name}
use Rattle.mpx_match.specs.declared.faults.FaultKind.{FaultKind}
use Rattle.mpx_match.specs.declared.faults.FaultKind.TheVariants.{Amount, Groups, Kind}
use Rattle.mpx_match.specs.Verdicts.{verdict}
use Rattle.mpx_kind.specs.declared.kinds.Kind.TheVariants as K
use Rattle.mpx_kind.specs.declared.kinds.NewCommunicator.{NewCommunicator}
use Rattle.mpx_kind.specs.declared.kinds.NewCommunicator.TheVariants.{Dup, Split, Create, CreateGroup, DistGraph, DistGraphAdjacent}
use Rattle.mpx_kind.specs.declared.kinds.Mode.TheVariants.{Blocking}
use Rattle.mpx_post.specs.declared.making.Making.{Making}
use Rattle.mpx_post.specs.declared.making.Making.TheVariants as M
use Rattle.mpx_birth.specs.declared.edges.Edge.{Edge}
use Rattle.mpx_birth.specs.declared.edges.Neighbour.{Neighbour}
use Rattle.mpx_birth.specs.Topologies.{Near, TopologyView}
use Rattle.mpx_graph.specs.Graphs.{adjacent, general}
use Rattle.mpx_birth.specs.Births.{BirthView, of_members as of, upto}
use Rattle.mpx_post.specs.Posts.{Given}
use Rattle.mpx_post.specs.Rows.{RowView}
use Rattle.mpx_value.specs.declared.outcomes.Outcome.{Outcome}
use Rattle.mpx_value.specs.declared.outcomes.Outcome.TheVariants.{NewComm, Null, Fault}
use Rattle.mpx_value.specs.Children.{children}
use Rattle.mpx_value.specs.Values.{value}

abbrev given : NewCommunicator → Making → Given
given new making = record { kind = K.NewCommunicator new; mode = Blocking; root = None; op = None; scounts = []; rcounts = []; items = None; making = making }

abbrev split : Option ℕ → ℤ → Given
split colour key = given Split (M.Split colour key)

abbrev create : List ℕ → Given
create group = given Create (M.Group group)

abbrev plain : NewCommunicator → Given
plain new = given new M.Nothing

-- what call 3 on the world of so many ranks gives this rank
abbrev told : ℕ → RowView → (rank : ℕ) → Outcome
told ranks row rank = value [] (of (upto ranks)) row [] 3 rank

-- the communicator of this colour that call 3 on the world makes
abbrev comm : (colour size rank : ℕ) → Outcome
comm colour size rank = NewComm (Child 3 colour ∷ []) size rank

abbrev fault : FaultKind → (rank : ℕ) → Outcome
fault what rank = Fault (record { what = what; rank = rank })

abbrev by_colour : RowView
by_colour = split (Some 1) (pos 5) ∷ split (Some 0) (pos 0) ∷ split (Some 1) (pos 5) ∷ split None (pos 0) ∷ []

abbrev reversed : RowView
reversed = split (Some 7) (pos 1) ∷ split (Some 7) (pos 0) ∷ split (Some 7) (negsuc 4) ∷ []

abbrev groups_that_differ : RowView
groups_that_differ = create (0 ∷ 1 ∷ []) ∷ create (1 ∷ 0 ∷ []) ∷ create [] ∷ []

abbrev one_group : RowView
one_group = create (2 ∷ 0 ∷ []) ∷ create [] ∷ create (2 ∷ 0 ∷ []) ∷ []

abbrev two_groups : RowView
two_groups = create (2 ∷ 0 ∷ []) ∷ create (1 ∷ []) ∷ create (2 ∷ 0 ∷ []) ∷ []

abbrev edge : (source destination : ℕ) → Edge
edge source destination = record { source = source; destination = destination; weight = 0 }

abbrev to : (rank weight : ℕ) → Neighbour
to rank weight = record { rank = rank; weight = weight }

abbrev dist_graph : List Edge → Given
dist_graph edges = given DistGraph (M.Edges (record { weighted = false; edges = edges }))

abbrev adjacent_graph : (sources destinations : List Neighbour) → Given
adjacent_graph sources destinations = given DistGraphAdjacent (M.Neighbours (record { weighted = true; sources = sources; destinations = destinations }))

abbrev near : (sources destinations : List Neighbour) → Near
near sources destinations = record { sources = sources; destinations = destinations }

-- rank 1 gives no edge, and each of the others one that isn't its own
abbrev edges_of_others : RowView
edges_of_others = dist_graph (edge 1 2 ∷ edge 2 2 ∷ []) ∷ dist_graph [] ∷ dist_graph (edge 0 2 ∷ edge 1 2 ∷ []) ∷ []

abbrev all_to_2 : TopologyView
all_to_2 = record { weighted = false; ranks = near [] (to 2 0 ∷ []) ∷ near [] (to 2 0 ∷ to 2 0 ∷ []) ∷ near (to 1 0 ∷ to 2 0 ∷ to 0 0 ∷ to 1 0 ∷ []) (to 2 0 ∷ []) ∷ [] }

abbrev own_neighbours : RowView
own_neighbours = adjacent_graph [] (to 1 5 ∷ to 1 0 ∷ []) ∷ adjacent_graph (to 0 0 ∷ to 0 5 ∷ []) [] ∷ []

abbrev one_way : TopologyView
one_way = record { weighted = true; ranks = near [] (to 1 5 ∷ to 1 0 ∷ []) ∷ near (to 0 0 ∷ to 0 5 ∷ []) [] ∷ [] }

-- three processes and their graph
abbrev graph : BirthView
graph = record { members = 4 ∷ 5 ∷ 9 ∷ []; topology = Some all_to_2 }

abbrev deep : ℕ → Name
deep zero = []
deep (suc n) = Child 0 0 ∷ deep n

record Examples : Type 0 where
  -- by colour; of equal keys the lower rank first; undefined gives none
  split0 : told 4 by_colour 0 ≡ comm 1 2 0
  split1 : told 4 by_colour 1 ≡ comm 0 1 0
  split2 : told 4 by_colour 2 ≡ comm 1 2 1
  split3 : told 4 by_colour 3 ≡ Null
  splits : children [] (of (upto 4)) by_colour [] 3 ≡ record { colour = 0; birth = of (1 ∷ []) } ∷ record { colour = 1; birth = of (0 ∷ 2 ∷ []) } ∷ []
  -- by keys, and by ranks only where these are equal
  reversed0 : told 3 reversed 0 ≡ comm 7 3 2
  reversed1 : told 3 reversed 1 ≡ comm 7 3 1
  reversed2 : told 3 reversed 2 ≡ comm 7 3 0
  -- the members of the birth, where they aren't their ranks
  members : children [] (of (4 ∷ 5 ∷ 9 ∷ [])) reversed [] 3 ≡ record { colour = 7; birth = of (9 ∷ 5 ∷ 4 ∷ []) } ∷ []
  equal : children [] (of (upto 3)) (split (Some 7) (pos 1) ∷ split (Some 7) (pos 1) ∷ split (Some 7) (pos 1) ∷ []) [] 3 ≡ record { colour = 7; birth = of (0 ∷ 1 ∷ 2 ∷ []) } ∷ []
  -- rank 0 gives 0 1, rank 1 gives 1 0: all are told
  differ0 : told 3 groups_that_differ 0 ≡ fault Groups 0
  differ1 : told 3 groups_that_differ 1 ≡ fault Groups 0
  differ2 : told 3 groups_that_differ 2 ≡ fault Groups 0
  none : children [] (of (upto 3)) groups_that_differ [] 3 ≡ []
  -- ranks 0 and 2 give 2 0: the colour is the rank of the first, in the parent
  create0 : told 3 one_group 0 ≡ comm 2 2 1
  create1 : told 3 one_group 1 ≡ Null
  create2 : told 3 one_group 2 ≡ comm 2 2 0
  creates : children [] (of (4 ∷ 5 ∷ 9 ∷ [])) two_groups [] 3 ≡ record { colour = 1; birth = of (5 ∷ []) } ∷ record { colour = 2; birth = of (9 ∷ 4 ∷ []) } ∷ []
  -- a group that only one outside it names
  outside : told 2 (create (1 ∷ []) ∷ create [] ∷ []) 1 ≡ fault Groups 0
  dup0 : told 2 (plain Dup ∷ plain Dup ∷ []) 0 ≡ comm 0 2 0
  dup1 : told 2 (plain Dup ∷ plain Dup ∷ []) 1 ≡ comm 0 2 1
  mixed : told 2 (plain Dup ∷ split None (pos 0) ∷ []) 0 ≡ fault Kind 1
  -- below the gathering of processes 4 and 2 with tag 9
  gathered : value [] (of (4 ∷ 2 ∷ [])) (plain CreateGroup ∷ plain CreateGroup ∷ []) (Gathering 9 (4 ∷ 2 ∷ []) ∷ []) 0 1 ≡ NewComm (Child 0 0 ∷ Gathering 9 (4 ∷ 2 ∷ []) ∷ []) 2 1
  -- a graph has its parent's members, and its topology has their ranks
  graph1 : told 3 edges_of_others 1 ≡ comm 0 3 1
  graphs : children [] (of (4 ∷ 5 ∷ 9 ∷ [])) edges_of_others [] 3 ≡ record { colour = 0; birth = graph } ∷ []
  adjacent1 : told 2 own_neighbours 1 ≡ comm 0 2 1
  adjacents : children [] (of (9 ∷ 4 ∷ [])) own_neighbours [] 3 ≡ record { colour = 0; birth = record { members = 9 ∷ 4 ∷ []; topology = Some one_way } } ∷ []
  -- dup keeps the topology, and no other keeps it
  graph_dup : children [] graph (plain Dup ∷ plain Dup ∷ plain Dup ∷ []) [] 3 ≡ record { colour = 0; birth = graph } ∷ []
  graph_split : children [] graph reversed [] 3 ≡ record { colour = 7; birth = of (9 ∷ 5 ∷ 4 ∷ []) } ∷ []
  graph_create : children [] graph one_group [] 3 ≡ record { colour = 2; birth = of (9 ∷ 4 ∷ []) } ∷ []
  graph_group : children [] graph (plain CreateGroup ∷ plain CreateGroup ∷ plain CreateGroup ∷ []) [] 3 ≡ record { colour = 0; birth = of (4 ∷ 5 ∷ 9 ∷ []) } ∷ []
  graph_anew : children [] graph (dist_graph [] ∷ dist_graph [] ∷ dist_graph [] ∷ []) [] 3 ≡ record { colour = 0; birth = record { members = 4 ∷ 5 ∷ 9 ∷ []; topology = Some (record { weighted = false; ranks = near [] [] ∷ near [] [] ∷ near [] [] ∷ [] }) } } ∷ []
  -- the eighth step, and no ninth
  eighth : value [] (of (upto 2)) (plain Dup ∷ plain Dup ∷ []) (deep 7) 0 1 ≡ NewComm (deep 8) 2 1
  ninth : value [] (of (upto 2)) (plain Dup ∷ plain Dup ∷ []) (deep 8) 0 1 ≡ fault Amount 0
  no_ninth : children [] (of (upto 2)) (plain Dup ∷ plain Dup ∷ []) (deep 8) 0 ≡ []

examples : Examples
unfolding value children verdict general adjacent
examples = record {
  split0 = refl;
  split1 = refl;
  split2 = refl;
  split3 = refl;
  splits = refl;
  reversed0 = refl;
  reversed1 = refl;
  reversed2 = refl;
  members = refl;
  equal = refl;
  differ0 = refl;
  differ1 = refl;
  differ2 = refl;
  none = refl;
  create0 = refl;
  create1 = refl;
  create2 = refl;
  creates = refl;
  outside = refl;
  dup0 = refl;
  dup1 = refl;
  mixed = refl;
  gathered = refl;
  graph1 = refl;
  graphs = refl;
  adjacent1 = refl;
  adjacents = refl;
  graph_dup = refl;
  graph_split = refl;
  graph_create = refl;
  graph_group = refl;
  graph_anew = refl;
  eighth = refl;
  ninth = refl;
  no_ninth = refl;
}
