-- The kinds of calls: one row each of what its posts have, and what is so of all kinds of one sort (MPI 4.1, sections 6.3 to 6.12, 7.4, 8.5 and 8.6).
use Rattle.std.specs.Prelude.{ℕ, Bool, true, false, not, ◌||◌, cond}
use Rattle.mpx_kind.specs.declared.kinds.Kind.{Kind}
use Rattle.mpx_kind.specs.declared.kinds.Kind.TheVariants as K
use Rattle.mpx_kind.specs.declared.kinds.Exchange.TheVariants as E
use Rattle.mpx_kind.specs.declared.kinds.Reduction.TheVariants as R
use Rattle.mpx_kind.specs.declared.kinds.NewCommunicator.TheVariants as N
use Rattle.mpx_kind.specs.declared.kinds.Neighbourhood.TheVariants as H
use Rattle.mpx_kind.specs.declared.kinds.Mode.{Mode}
use Rattle.mpx_kind.specs.declared.kinds.Mode.TheVariants.{Blocking, Nonblocking}
use Rattle.mpx_kind.specs.declared.kinds.Call.{Call}
use Rattle.mpx_kind.specs.declared.kinds.Call.TheVariants as C
use Rattle.mpx_kind.specs.declared.kinds.Makes.{Makes}
use Rattle.mpx_kind.specs.declared.kinds.Makes.TheVariants as M
use Rattle.mpx_kind.specs.declared.kinds.Number.{Number}
use Rattle.mpx_kind.specs.declared.kinds.Number.TheVariants.{Zero, One, OneAtRoot, Members, MembersAtRoot, Indegree, Outdegree}
use Rattle.mpx_kind.specs.declared.kinds.Seat.{Seat}
use Rattle.mpx_kind.specs.declared.kinds.Sent.{Sent}
use Rattle.mpx_kind.specs.declared.kinds.Sent.TheVariants.{Any, Scounts, Rcounts}
use Rattle.mpx_kind.specs.declared.kinds.Fields.{Fields}

-- such a number for a member
abbrev pub number_in : Number → Seat → ℕ
number_in Zero seat = 0
number_in One seat = 1
number_in OneAtRoot seat = cond seat.at_root 1 0
number_in Members seat = seat.size
number_in MembersAtRoot seat = cond seat.at_root seat.size 0
number_in Indegree seat = seat.indegree
number_in Outdegree seat = seat.outdegree

-- whether a kind has such a list of counts at all
abbrev pub is_had : Number → Bool
is_had Zero = false
is_had number = true

abbrev pub having : (root op items : Bool) (scounts rcounts : Number) → Sent → Fields
having root op items scounts rcounts sent = record { root = root; op = op; items = items; scounts = scounts; rcounts = rcounts; sent = sent; makes = M.Nothing }

-- what the posts of a kind have that makes a communicator
abbrev pub making : Makes → Fields
making makes = record { root = false; op = false; items = false; scounts = Zero; rcounts = Zero; sent = Any; makes = makes }

-- a root, an operation, items; how many send counts and receive counts; how the items are cut into blocks; and what is
-- said of a new communicator
abbrev pub fields_of : Kind → Fields
fields_of (K.Exchange E.Barrier) = having false false false Zero Zero Any
fields_of (K.Exchange E.Bcast) = having true false true Zero One (Rcounts OneAtRoot)
fields_of (K.Exchange E.Gather) = having true false true Zero Zero Any
fields_of (K.Exchange E.Gatherv) = having true false true Zero MembersAtRoot Any
fields_of (K.Exchange E.Scatter) = having true false true Zero One (Rcounts MembersAtRoot)
fields_of (K.Exchange E.Scatterv) = having true false true MembersAtRoot One (Scounts OneAtRoot)
fields_of (K.Exchange E.Allgather) = having false false true Zero Zero Any
fields_of (K.Exchange E.Allgatherv) = having false false true Zero Members Any
fields_of (K.Exchange E.Alltoall) = having false false true Zero One (Rcounts Members)
fields_of (K.Exchange E.Alltoallv) = having false false true Members Members (Scounts One)
fields_of (K.Reduction R.Reduce) = having true true true Zero Zero Any
fields_of (K.Reduction R.Allreduce) = having false true true Zero Zero Any
fields_of (K.Reduction R.ReduceScatterBlock) = having false true true Zero One (Rcounts Members)
fields_of (K.Reduction R.ReduceScatter) = having false true true Zero Members (Rcounts One)
fields_of (K.Reduction R.Scan) = having false true true Zero Zero Any
fields_of (K.Reduction R.Exscan) = having false true true Zero Zero Any
fields_of (K.NewCommunicator N.Dup) = making M.Nothing
fields_of (K.NewCommunicator N.Split) = making M.Colour
fields_of (K.NewCommunicator N.Create) = making M.Group
fields_of (K.NewCommunicator N.CreateGroup) = making M.Nothing
fields_of (K.NewCommunicator N.DistGraph) = making M.Edges
fields_of (K.NewCommunicator N.DistGraphAdjacent) = making M.Neighbours
fields_of (K.Neighbourhood H.Allgather) = having false false true Zero One Any
fields_of (K.Neighbourhood H.Allgatherv) = having false false true Zero Indegree Any
fields_of (K.Neighbourhood H.Alltoall) = having false false true One One (Scounts Outdegree)
fields_of (K.Neighbourhood H.Alltoallv) = having false false true Outdegree Indegree (Scounts One)
fields_of K.Free = having false false false Zero Zero Any

-- KINDS OF ONE SORT

-- whether calls of the kind make communicators
abbrev pub makes_communicators : Kind → Bool
makes_communicators (K.NewCommunicator new) = true
makes_communicators kind = false

-- whether they free theirs
abbrev pub frees : Kind → Bool
frees K.Free = true
frees kind = false

-- whether they go along the edges of a topology
abbrev pub needs_topology : Kind → Bool
needs_topology (K.Neighbourhood exchange) = true
needs_topology kind = false

-- whether they are made on gatherings, as those of create_group are, and no others
abbrev pub is_gathered : Kind → Bool
is_gathered (K.NewCommunicator N.CreateGroup) = true
is_gathered kind = false

-- whether they may be of this mode: those that make communicators, and those that free them, only block
abbrev pub may_be : Mode → Kind → Bool
may_be Blocking kind = true
may_be Nonblocking kind = not (makes_communicators kind || frees kind)

-- CALLS

abbrev pub kind_of : Call → Kind
kind_of (C.Exchange exchange mode) = K.Exchange exchange
kind_of (C.Reduction reduction mode) = K.Reduction reduction
kind_of (C.NewCommunicator new) = K.NewCommunicator new
kind_of (C.Neighbourhood exchange mode) = K.Neighbourhood exchange
kind_of C.Free = K.Free

abbrev pub mode_of : Call → Mode
mode_of (C.Exchange exchange mode) = mode
mode_of (C.Reduction reduction mode) = mode
mode_of (C.Neighbourhood exchange mode) = mode
mode_of call = Blocking

-- the blocking call of a kind
abbrev pub blocking : Kind → Call
blocking (K.Exchange exchange) = C.Exchange exchange Blocking
blocking (K.Reduction reduction) = C.Reduction reduction Blocking
blocking (K.NewCommunicator new) = C.NewCommunicator new
blocking (K.Neighbourhood exchange) = C.Neighbourhood exchange Blocking
blocking K.Free = C.Free
