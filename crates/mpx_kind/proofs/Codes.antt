-- Each kind is the one of its number, and each number below 27 is the one of its kind.
use Rattle.std.proofs.Common.{◌≡◌, ℕ, ◌<◌, map, get_or, refl, sym, ap, ◌∙◌, arith}
use Rattle.std.specs.List.{range_with_len}
use Rattle.std.proofs.lemmas.List.{get_or-map}
use Rattle.std.proofs.lemmas.List.FromFn.{get_or-range_with_len}
use Rattle.mpx_kind.specs.declared.kinds.Kind.{Kind}
use Rattle.mpx_kind.specs.declared.kinds.Kind.TheVariants as K
use Rattle.mpx_kind.specs.declared.kinds.Exchange.TheVariants as E
use Rattle.mpx_kind.specs.declared.kinds.Reduction.TheVariants as R
use Rattle.mpx_kind.specs.declared.kinds.NewCommunicator.TheVariants as N
use Rattle.mpx_kind.specs.declared.kinds.Neighbourhood.TheVariants as H
use Rattle.mpx_kind.specs.Codes.{code_of_kind, kind_at, kinds}

pub kind_forth : (x : Kind) → kind_at (code_of_kind x) ≡ x
kind_forth (K.Exchange E.Barrier) = refl
kind_forth (K.Exchange E.Bcast) = refl
kind_forth (K.Exchange E.Gather) = refl
kind_forth (K.Exchange E.Gatherv) = refl
kind_forth (K.Exchange E.Scatter) = refl
kind_forth (K.Exchange E.Scatterv) = refl
kind_forth (K.Exchange E.Allgather) = refl
kind_forth (K.Exchange E.Allgatherv) = refl
kind_forth (K.Exchange E.Alltoall) = refl
kind_forth (K.Exchange E.Alltoallv) = refl
kind_forth (K.Reduction R.Reduce) = refl
kind_forth (K.Reduction R.Allreduce) = refl
kind_forth (K.Reduction R.ReduceScatterBlock) = refl
kind_forth (K.Reduction R.ReduceScatter) = refl
kind_forth (K.Reduction R.Scan) = refl
kind_forth (K.Reduction R.Exscan) = refl
kind_forth (K.NewCommunicator N.Dup) = refl
kind_forth (K.NewCommunicator N.Split) = refl
kind_forth (K.NewCommunicator N.Create) = refl
kind_forth (K.NewCommunicator N.CreateGroup) = refl
kind_forth (K.NewCommunicator N.DistGraph) = refl
kind_forth (K.NewCommunicator N.DistGraphAdjacent) = refl
kind_forth (K.Neighbourhood H.Allgather) = refl
kind_forth (K.Neighbourhood H.Allgatherv) = refl
kind_forth (K.Neighbourhood H.Alltoall) = refl
kind_forth (K.Neighbourhood H.Alltoallv) = refl
kind_forth K.Free = refl

-- the table of kinds, read by numbers, is the list of these
in_order : map code_of_kind kinds ≡ range_with_len 0 27
in_order = refl

pub kind_back : (n : ℕ) → n < 27 → code_of_kind (kind_at n) ≡ n
kind_back n l = omega (arith, sym (get_or-map code_of_kind kinds n K.Free 26 l) ∙ ap (λ ns. get_or ns n 26) in_order ∙ get_or-range_with_len 0 27 n 26 l)
