-- The communicators that a call makes (MPI 4.1, sections 7.4.2 and 8.5.4).
use Rattle.std.specs.Prelude.{◌≡◌, ℕ, ◌==◌, nat_eq, nat_lt, Bool, true, cond, List, [], ◌∷◌, map, length, filter, slice_get, slice_index_or, Option, Some, None}
use Rattle.std.specs.List.{All, filter_map}
use Rattle.std.specs.Option.{option_eq}
use Rattle.std.specs.Ordering.{int_cmp, is_lt}
use Rattle.mpx_group.specs.Group.{has}
use Rattle.mpx_name.specs.declared.steps.Step.TheVariants.{Child}
use Rattle.mpx_name.specs.Name.{Name}
use Rattle.mpx_num.specs.declared.own.Operation.{Operation}
use Rattle.mpx_kind.specs.declared.kinds.Kind.{Kind}
use Rattle.mpx_kind.specs.declared.kinds.Kind.TheVariants as K
use Rattle.mpx_kind.specs.declared.kinds.NewCommunicator.{NewCommunicator}
use Rattle.mpx_kind.specs.declared.kinds.NewCommunicator.TheVariants as N
use Rattle.mpx_kind.specs.Kinds.{makes_communicators}
use Rattle.mpx_birth.specs.Births.{BirthView, of_members, rank_in, upto}
use Rattle.mpx_graph.specs.Graphs.{adjacent, general}
use Rattle.mpx_post.specs.Posts.{Given, colour_in, group_in, key_in}
use Rattle.mpx_post.specs.Rows.{RowView}
use Rattle.mpx_post.specs.Agreement.{first_of, post_at}
use Rattle.mpx_post.specs.Drafts.{most_steps}
use Rattle.mpx_match.specs.declared.faults.Verdict.{Verdict}
use Rattle.mpx_match.specs.declared.faults.Verdict.TheVariants as V
use Rattle.mpx_match.specs.Verdicts.{verdict}
use Rattle.mpx_birth.specs.Orders.{ordered, rising}

-- a communicator that a call makes, told from its sisters by a colour
pub record ChildView : Type 0 where
  pub colour : ℕ
  pub birth : BirthView

-- the processes with these ranks
abbrev pub processes : (members ranks : List ℕ) → List ℕ
processes members ranks = map (λ rank. slice_index_or members rank 0) ranks

-- the child of this colour of the members with these ranks, in this order
abbrev pub child_of_ranks : BirthView → (colour : ℕ) → (ranks : List ℕ) → ChildView
child_of_ranks birth colour ranks = record { colour = colour; birth = of_members (processes birth.members ranks) }

-- one child

abbrev pub only_child : BirthView → List ChildView
only_child birth = record { colour = 0; birth = birth } ∷ []

-- MPI_COMM_DUP: the same members with the same topology; MPI_COMM_CREATE_GROUP: the same members; MPI_DIST_GRAPH_CREATE and
-- MPI_DIST_GRAPH_CREATE_ADJACENT: the same members with the topology of what they give

-- MPI_COMM_SPLIT: a child for each colour that is given, of the members that give it, by their keys, ties by their rank

-- the colours that are given, rising, each once; an undefined one isn't given
abbrev pub colours_of : RowView → List ℕ
colours_of row = rising (filter_map (λ (given : Given). colour_in given.making) row)

abbrev pub gives_colour : (colour : ℕ) → RowView → (rank : ℕ) → Bool
gives_colour colour row rank = option_eq nat_eq (colour_in (post_at row rank).making) (Some colour)

-- the ranks that give the colour, rising
abbrev pub ranks_with : (colour : ℕ) → RowView → List ℕ
ranks_with colour row = filter (gives_colour colour row) (upto (length row))

-- whether the first of two ranks gives the lower key
abbrev pub lower_key : RowView → (rank other : ℕ) → Bool
lower_key row rank other = is_lt (int_cmp (key_in (post_at row rank).making) (key_in (post_at row other).making))

abbrev pub split_child : BirthView → RowView → (colour : ℕ) → ChildView
split_child birth row colour = child_of_ranks birth colour (ordered (lower_key row) (ranks_with colour row))

abbrev pub split : BirthView → RowView → List ChildView
split birth row = map (split_child birth row) (colours_of row)

-- MPI_COMM_CREATE: a child for each group that is given, of its members in its order; its colour is the rank of the first

-- whether the member with this rank leads the group that it gives
abbrev pub leads : RowView → (rank : ℕ) → Bool
leads row rank = option_eq nat_eq (slice_get (group_in (post_at row rank).making) 0) (Some rank)

abbrev pub group_child : BirthView → RowView → (rank : ℕ) → ChildView
group_child birth row rank = child_of_ranks birth rank (group_in (post_at row rank).making)

abbrev pub created : BirthView → RowView → List ChildView
created birth row = map (group_child birth row) (filter (leads row) (upto (length row)))

-- ALL KINDS

abbrev pub children_by : NewCommunicator → BirthView → RowView → List ChildView
children_by N.Dup birth row = only_child birth
children_by N.Split birth row = split birth row
children_by N.Create birth row = created birth row
children_by N.CreateGroup birth row = only_child (of_members birth.members)
children_by N.DistGraph birth row = only_child (record { members = birth.members; topology = Some (general row) })
children_by N.DistGraphAdjacent birth row = only_child (record { members = birth.members; topology = Some (adjacent row) })

-- what a fine row of this kind makes, in rising order of colours; the other kinds make none
abbrev pub children_in : Kind → BirthView → RowView → List ChildView
children_in (K.NewCommunicator new) birth row = children_by new birth row
children_in kind birth row = []

-- none where the posts don't fit together
abbrev pub unless_fault : Verdict → List ChildView → List ChildView
unless_fault V.Fine made = made
unless_fault (V.Fault fault) made = []

-- whether the name can have one step more
abbrev pub has_room : Name → Bool
has_room name = nat_lt (length name) most_steps

-- what the call with this row makes, by the job's own operations
unfoldable pub children : List Operation → BirthView → RowView → Name → (call : ℕ) → List ChildView
children ops birth row name call = cond (has_room name) (unless_fault (verdict ops birth.topology row) (children_in (first_of row).kind birth row)) []

-- the kind makes communicators, the posts fit together, and the name can have one step more
pub record MakesSome (ops : List Operation) (birth : BirthView) (row : RowView) (name : Name) : Type 0 where
  pub kind : makes_communicators (first_of row).kind ≡ true
  pub fine : verdict ops birth.topology row ≡ V.Fine
  pub room : has_room name ≡ true

-- the one of this colour
abbrev pub of_colour : ℕ → List ChildView → Option BirthView
of_colour colour [] = None
of_colour colour (x ∷ rest) = cond (x.colour == colour) (Some x.birth) (of_colour colour rest)

-- the child of this colour that the call with this row makes
abbrev pub child : List Operation → BirthView → RowView → Name → (call colour : ℕ) → Option BirthView
child ops birth row name call colour = of_colour colour (children ops birth row name call)

-- their names below the context of the call, with their births
abbrev pub named_children : Name → ℕ → List ChildView → List (Name × BirthView)
named_children name call made = map (λ (x : ChildView). (Child call x.colour ∷ name, x.birth)) made

-- each child is the one of its colour
abbrev pub AreOfTheirColours : List Operation → BirthView → RowView → Name → (call : ℕ) → Type 0
AreOfTheirColours ops birth row name call = (place : ℕ) (x : ChildView) → slice_get (children ops birth row name call) place ≡ Some x → child ops birth row name call x.colour ≡ Some x.birth

-- the child's members are members of the communicator
abbrev pub IsChildWithin : BirthView → ChildView → Type 0
IsChildWithin birth x = All (λ p. has birth.members p ≡ true) x.birth.members

-- a communicator with this name and size, in which the process has this rank, is one of what the call makes
pub record IsNewCommunicator (ops : List Operation) (birth : BirthView) (row : RowView) (name : Name) (call process : ℕ) (new : Name) (size rank : ℕ) : Type 0 where
  pub place : ℕ
  pub child : ChildView
  pub among : slice_get (children ops birth row name call) place ≡ Some child
  pub named : new ≡ Child call child.colour ∷ name
  pub counted : size ≡ length child.birth.members
  pub member : rank_in process child.birth.members ≡ Some rank
