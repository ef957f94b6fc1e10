-- The drafts of the calls, one row each (MPI 4.1, sections 6.3 to 6.12, 7.4.2, 7.4.3, 8.5.4 and 8.6).
use Rattle.std.specs.Prelude.{ℤ, Bool, List, [], ◌∷◌, Option, Some}
use Rattle.mpx_num.specs.declared.types.Ty.{Ty}
use Rattle.mpx_num.specs.declared.operations.Op.{Op}
use Rattle.mpx_kind.specs.declared.kinds.Mode.{Mode}
use Rattle.mpx_kind.specs.declared.kinds.Call.TheVariants as C
use Rattle.mpx_kind.specs.declared.kinds.Exchange.TheVariants as E
use Rattle.mpx_kind.specs.declared.kinds.Reduction.TheVariants as R
use Rattle.mpx_kind.specs.declared.kinds.NewCommunicator.{NewCommunicator}
use Rattle.mpx_kind.specs.declared.kinds.NewCommunicator.TheVariants as N
use Rattle.mpx_kind.specs.declared.kinds.Neighbourhood.TheVariants as H
use Rattle.mpx_post.specs.declared.draft.Draft.{Draft}
use Rattle.mpx_post.specs.Drafts.{empty_draft}
use Rattle.mpx_post.specs.declared.drafted_edges.DraftedEdge.{DraftedEdge}
use Rattle.mpx_post.specs.declared.drafted_edges.DraftedNeighbour.{DraftedNeighbour}
use Rattle.mpx_post.specs.Graphs.{GraphView}

-- EXCHANGES

abbrev pub barrier : Mode → Draft
barrier mode = empty_draft (C.Exchange E.Barrier mode)

abbrev pub bcast : Mode → (root : ℤ) → Ty → (count : ℤ) → (items : List ℤ) → Draft
bcast mode root ty count items = record (empty_draft (C.Exchange E.Bcast mode)) { root = root; ty = ty; rcounts = count ∷ []; items = items }

abbrev pub gather : Mode → (root : ℤ) → Ty → (items : List ℤ) → Draft
gather mode root ty items = record (empty_draft (C.Exchange E.Gather mode)) { root = root; ty = ty; items = items }

abbrev pub gatherv : Mode → (root : ℤ) → Ty → (rcounts items : List ℤ) → Draft
gatherv mode root ty rcounts items = record (empty_draft (C.Exchange E.Gatherv mode)) { root = root; ty = ty; rcounts = rcounts; items = items }

abbrev pub scatter : Mode → (root : ℤ) → Ty → (count : ℤ) → (items : List ℤ) → Draft
scatter mode root ty count items = record (empty_draft (C.Exchange E.Scatter mode)) { root = root; ty = ty; rcounts = count ∷ []; items = items }

abbrev pub scatterv : Mode → (root : ℤ) → Ty → (scounts : List ℤ) → (count : ℤ) → (items : List ℤ) → Draft
scatterv mode root ty scounts count items = record (empty_draft (C.Exchange E.Scatterv mode)) { root = root; ty = ty; scounts = scounts; rcounts = count ∷ []; items = items }

abbrev pub allgather : Mode → Ty → (items : List ℤ) → Draft
allgather mode ty items = record (empty_draft (C.Exchange E.Allgather mode)) { ty = ty; items = items }

abbrev pub allgatherv : Mode → Ty → (rcounts items : List ℤ) → Draft
allgatherv mode ty rcounts items = record (empty_draft (C.Exchange E.Allgatherv mode)) { ty = ty; rcounts = rcounts; items = items }

abbrev pub alltoall : Mode → Ty → (count : ℤ) → (items : List ℤ) → Draft
alltoall mode ty count items = record (empty_draft (C.Exchange E.Alltoall mode)) { ty = ty; rcounts = count ∷ []; items = items }

abbrev pub alltoallv : Mode → Ty → (scounts rcounts items : List ℤ) → Draft
alltoallv mode ty scounts rcounts items = record (empty_draft (C.Exchange E.Alltoallv mode)) { ty = ty; scounts = scounts; rcounts = rcounts; items = items }

-- REDUCTIONS

abbrev pub reduce : Mode → (root : ℤ) → Op → Ty → (items : List ℤ) → Draft
reduce mode root op ty items = record (empty_draft (C.Reduction R.Reduce mode)) { root = root; op = op; ty = ty; items = items }

abbrev pub allreduce : Mode → Op → Ty → (items : List ℤ) → Draft
allreduce mode op ty items = record (empty_draft (C.Reduction R.Allreduce mode)) { op = op; ty = ty; items = items }

abbrev pub reduce_scatter_block : Mode → Op → Ty → (count : ℤ) → (items : List ℤ) → Draft
reduce_scatter_block mode op ty count items = record (empty_draft (C.Reduction R.ReduceScatterBlock mode)) { op = op; ty = ty; rcounts = count ∷ []; items = items }

abbrev pub reduce_scatter : Mode → Op → Ty → (rcounts items : List ℤ) → Draft
reduce_scatter mode op ty rcounts items = record (empty_draft (C.Reduction R.ReduceScatter mode)) { op = op; ty = ty; rcounts = rcounts; items = items }

abbrev pub scan : Mode → Op → Ty → (items : List ℤ) → Draft
scan mode op ty items = record (empty_draft (C.Reduction R.Scan mode)) { op = op; ty = ty; items = items }

abbrev pub exscan : Mode → Op → Ty → (items : List ℤ) → Draft
exscan mode op ty items = record (empty_draft (C.Reduction R.Exscan mode)) { op = op; ty = ty; items = items }

-- NEW COMMUNICATORS

abbrev pub dup : Draft
dup = empty_draft (C.NewCommunicator N.Dup)

abbrev pub split : (colour : Option ℤ) → (key : ℤ) → Draft
split colour key = record (empty_draft (C.NewCommunicator N.Split)) { colour = colour; key = key }

abbrev pub create : (ranks : List ℤ) → Draft
create ranks = record (empty_draft (C.NewCommunicator N.Create)) { group = ranks }

-- posted on a gathering of the members
abbrev pub create_group : Draft
create_group = empty_draft (C.NewCommunicator N.CreateGroup)

-- one of these with a graph
abbrev pub of_graph : NewCommunicator → GraphView → Draft
of_graph new graph = record (empty_draft (C.NewCommunicator new)) { graph = Some graph }

abbrev pub dist_graph : (weighted : Bool) → (edges : List DraftedEdge) → Draft
dist_graph weighted edges = of_graph N.DistGraph (record { weighted = weighted; edges = edges; sources = []; destinations = [] })

abbrev pub dist_graph_adjacent : (weighted : Bool) → (sources destinations : List DraftedNeighbour) → Draft
dist_graph_adjacent weighted sources destinations = of_graph N.DistGraphAdjacent (record { weighted = weighted; edges = []; sources = sources; destinations = destinations })

-- THE END OF A COMMUNICATOR

abbrev pub free : Draft
free = empty_draft C.Free

-- ALONG THE EDGES OF A GRAPH

abbrev pub neighbor_allgather : Mode → Ty → (count : ℤ) → (items : List ℤ) → Draft
neighbor_allgather mode ty count items = record (empty_draft (C.Neighbourhood H.Allgather mode)) { ty = ty; rcounts = count ∷ []; items = items }

abbrev pub neighbor_allgatherv : Mode → Ty → (rcounts items : List ℤ) → Draft
neighbor_allgatherv mode ty rcounts items = record (empty_draft (C.Neighbourhood H.Allgatherv mode)) { ty = ty; rcounts = rcounts; items = items }

abbrev pub neighbor_alltoall : Mode → Ty → (scount rcount : ℤ) → (items : List ℤ) → Draft
neighbor_alltoall mode ty scount rcount items = record (empty_draft (C.Neighbourhood H.Alltoall mode)) { ty = ty; scounts = scount ∷ []; rcounts = rcount ∷ []; items = items }

abbrev pub neighbor_alltoallv : Mode → Ty → (scounts rcounts items : List ℤ) → Draft
neighbor_alltoallv mode ty scounts rcounts items = record (empty_draft (C.Neighbourhood H.Alltoallv mode)) { ty = ty; scounts = scounts; rcounts = rcounts; items = items }
