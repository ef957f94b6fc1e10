-- A number for each kind of call, by which frames spell it and kinds are told apart, and the kind of each number.
use Rattle.std.specs.Prelude.{ℕ, List, [], ◌∷◌, ◌++◌, map, get_or}
use Rattle.mpx_kind.specs.declared.kinds.Kind.{Kind}
use Rattle.mpx_kind.specs.declared.kinds.Kind.TheVariants as K
use Rattle.mpx_kind.specs.declared.kinds.Exchange.TheVariants as E
use Rattle.mpx_kind.specs.declared.kinds.Reduction.TheVariants as R
use Rattle.mpx_kind.specs.declared.kinds.NewCommunicator.TheVariants as N
use Rattle.mpx_kind.specs.declared.kinds.Neighbourhood.TheVariants as H

abbrev pub code_of_kind : Kind → ℕ
code_of_kind (K.Exchange E.Barrier) = 0
code_of_kind (K.Exchange E.Bcast) = 1
code_of_kind (K.Exchange E.Gather) = 2
code_of_kind (K.Exchange E.Gatherv) = 3
code_of_kind (K.Exchange E.Scatter) = 4
code_of_kind (K.Exchange E.Scatterv) = 5
code_of_kind (K.Exchange E.Allgather) = 6
code_of_kind (K.Exchange E.Allgatherv) = 7
code_of_kind (K.Exchange E.Alltoall) = 8
code_of_kind (K.Exchange E.Alltoallv) = 9
code_of_kind (K.Reduction R.Reduce) = 10
code_of_kind (K.Reduction R.Allreduce) = 11
code_of_kind (K.Reduction R.ReduceScatterBlock) = 12
code_of_kind (K.Reduction R.ReduceScatter) = 13
code_of_kind (K.Reduction R.Scan) = 14
code_of_kind (K.Reduction R.Exscan) = 15
code_of_kind (K.NewCommunicator N.Dup) = 16
code_of_kind (K.NewCommunicator N.Split) = 17
code_of_kind (K.NewCommunicator N.Create) = 18
code_of_kind (K.NewCommunicator N.CreateGroup) = 19
code_of_kind (K.NewCommunicator N.DistGraph) = 20
code_of_kind (K.NewCommunicator N.DistGraphAdjacent) = 21
code_of_kind (K.Neighbourhood H.Allgather) = 22
code_of_kind (K.Neighbourhood H.Allgatherv) = 23
code_of_kind (K.Neighbourhood H.Alltoall) = 24
code_of_kind (K.Neighbourhood H.Alltoallv) = 25
code_of_kind K.Free = 26

-- all kinds, by their numbers
abbrev pub kinds : List Kind
kinds =
    map K.Exchange (E.Barrier ∷ E.Bcast ∷ E.Gather ∷ E.Gatherv ∷ E.Scatter ∷ E.Scatterv ∷ E.Allgather ∷ E.Allgatherv ∷ E.Alltoall ∷ E.Alltoallv ∷ [])
    ++ map K.Reduction (R.Reduce ∷ R.Allreduce ∷ R.ReduceScatterBlock ∷ R.ReduceScatter ∷ R.Scan ∷ R.Exscan ∷ [])
    ++ map K.NewCommunicator (N.Dup ∷ N.Split ∷ N.Create ∷ N.CreateGroup ∷ N.DistGraph ∷ N.DistGraphAdjacent ∷ [])
    ++ map K.Neighbourhood (H.Allgather ∷ H.Allgatherv ∷ H.Alltoall ∷ H.Alltoallv ∷ [])
    ++ K.Free ∷ []

abbrev pub kind_at : ℕ → Kind
kind_at n = get_or kinds n K.Free
