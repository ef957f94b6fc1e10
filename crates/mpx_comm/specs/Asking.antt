-- What a process knows of a communicator (MPI 4.1, sections 7.3.1, 7.4.1 and 8.5.5), and whose posts of a call it lacks.
use Rattle.std.specs.Prelude.{◌≡◌, ◌⊎◌, ℕ, ◌&&◌, nat_le, not, is_some, Bool, cond, List, length, map, slice_index, Option, Some, None, Result, Ok, Err, IsOk}
use Rattle.std.specs.List.{filter}
use Rattle.mpx_birth.specs.Births.{BirthView, upto}
use Rattle.mpx_birth.specs.Topologies.{TopologyView}
use Rattle.mpx_board.specs.Boards.{Context, told}
use Rattle.mpx_group.specs.Group.{comparison_of}
use Rattle.mpx_group.specs.Translation.{translated}
use Rattle.mpx_group.specs.declared.ranks.Comparison.{Comparison}
use Rattle.mpx_group.specs.declared.ranks.Comparison.TheVariants as G
use Rattle.mpx_group.specs.declared.ranks.Rank.{Rank}
use Rattle.mpx_name.specs.Name.{Name, same_name}
use Rattle.mpx_node.specs.Nodes.{NodeView}
use Rattle.mpx_comm.specs.declared.asking.AskError.{AskError}
use Rattle.mpx_comm.specs.declared.asking.AskError.TheVariants.{NotKnown, NoTopology, OutOfMemory}
use Rattle.mpx_comm.specs.declared.asking.Relation.{Relation}
use Rattle.mpx_comm.specs.declared.asking.Relation.TheVariants.{Ident, Congruent, Similar, Unequal}

-- this is what is told, or the reason why nothing is told; or memory was wanting, where something would be told
abbrev pub Answers : {A : Type 0} → (told_is result : Result A AskError) → Type 0
Answers told_is (Ok a) = told_is ≡ Ok a
Answers told_is (Err e) = (told_is ≡ Err e) ⊎ ((e ≡ OutOfMemory) × IsOk told_is)

-- this of what is told, or the same reason
abbrev pub read : {A B : Type 0} → (A → B) → Result A AskError → Result B AskError
read f (Ok a) = Ok (f a)
read f (Err e) = Err e

-- how the communicator came to be, where the process knows
abbrev pub birth_on : NodeView → Name → Option BirthView
birth_on node name = told (node.board.contexts name).birth

-- GROUPS

abbrev pub members_of : Option BirthView → Result (List ℕ) AskError
members_of None = Err NotKnown
members_of (Some birth) = Ok birth.members

-- the members as processes, in rank order
abbrev pub members_on : NodeView → Name → Result (List ℕ) AskError
members_on node name = members_of (birth_on node name)

-- of the members of two communicators, where both are known
abbrev pub of_both : {A : Type 0} → (List ℕ → List ℕ → A) → (one other : Result (List ℕ) AskError) → Result A AskError
of_both f (Ok one) (Ok other) = Ok (f one other)
of_both f (Err e) other = Err e
of_both f (Ok one) (Err e) = Err e

-- how two communicators with different contexts compare, by their groups
abbrev pub relation_of : Comparison → Relation
relation_of G.Ident = Congruent
relation_of G.Similar = Similar
relation_of G.Unequal = Unequal

-- how two communicators compare: the same context, or by their groups
abbrev pub comparison_on : NodeView → (one other : Name) → Result Relation AskError
comparison_on node one other = cond (same_name one other) (Ok Ident) (of_both (λ g h. relation_of (comparison_of g h)) (members_on node one) (members_on node other))

-- the ranks in the other communicator of the processes at these ranks of the one
abbrev pub translation_on : NodeView → (from to : Name) → List Rank → Result (List Rank) AskError
translation_on node from to ranks = of_both (λ g h. map (translated g h) ranks) (members_on node from) (members_on node to)

-- GRAPHS

abbrev pub topology_in : Option TopologyView → Result TopologyView AskError
topology_in None = Err NoTopology
topology_in (Some topology) = Ok topology

abbrev pub topology_of : Option BirthView → Result TopologyView AskError
topology_of None = Err NotKnown
topology_of (Some birth) = topology_in birth.topology

-- the graph of the communicator
abbrev pub topology_on : NodeView → Name → Result TopologyView AskError
topology_on node name = topology_of (birth_on node name)

-- POSTS THAT ARE AWAITED

-- the process's post of the call is lacking: none is held, and the call isn't dropped, as those are that every member has harvested
abbrev pub lacks_post : Context → (call process : ℕ) → Bool
lacks_post context call process = nat_le context.dropped call && not (is_some (told (context.posts call process)))

abbrev pub lacking_in : Context → (call : ℕ) → (members : List ℕ) → List ℕ
lacking_in context call members = filter (λ rank. lacks_post context call (slice_index members rank)) (upto (length members))

abbrev pub awaited_of : Context → (call : ℕ) → Option BirthView → Result (List ℕ) AskError
awaited_of context call None = Err NotKnown
awaited_of context call (Some birth) = Ok (lacking_in context call birth.members)

-- the ranks, in rising order, whose post of the call is lacking
abbrev pub awaited_on : NodeView → Name → (call : ℕ) → Result (List ℕ) AskError
awaited_on node name call = awaited_of (node.board.contexts name) call (birth_on node name)
