-- Worked rows: what neighbourhood exchanges give (MPI 4.1 section 8.6).
use Rattle.std.proofs.Common.{◌≡◌, ℕ, true, false, List, [], ◌∷◌, ℤ, pos, Option, Some, None, refl}
use Rattle.std.specs.List.{list_all}
use Rattle.mpx_birth.specs.Births.{upto}
use Rattle.mpx_birth.specs.declared.edges.Neighbour.{Neighbour}
use Rattle.mpx_birth.specs.Topologies.{Near, TopologyView}
use Rattle.mpx_num.specs.declared.types.Ty.TheVariants.{I32}
use Rattle.mpx_kind.specs.declared.kinds.Kind.{Kind}
use Rattle.mpx_kind.specs.declared.kinds.Kind.TheVariants.{Exchange, Neighbourhood}
use Rattle.mpx_kind.specs.declared.kinds.Exchange.TheVariants.{Barrier}
use Rattle.mpx_kind.specs.declared.kinds.Neighbourhood.TheVariants.{Allgather, Allgatherv, Alltoall, Alltoallv}
use Rattle.mpx_post.specs.declared.value.Value.{Value}
use Rattle.mpx_post.specs.declared.value.Value.TheVariants.{Items, Nothing}
use Rattle.mpx_post.specs.Posts.{Given, nothing_given}
use Rattle.mpx_post.specs.Rows.{RowView}
use Rattle.mpx_post.specs.Agreement.{first_of, is_fit, post_at}
use Rattle.mpx_neigh.specs.Neighbourhoods.{neigh_value}

abbrev sends : Kind → (scounts rcounts : List ℕ) → List ℤ → Given
sends kind scounts rcounts nums = record nothing_given { kind = kind; scounts = scounts; rcounts = rcounts; items = Some (record { ty = I32; nums = nums }) }

abbrev gives : Option TopologyView → RowView → (rank : ℕ) → Value
gives topology row rank = neigh_value (first_of row).kind topology row rank

abbrev gets : List ℤ → Value
gets nums = Items (record { ty = I32; nums = nums })

abbrev to : ℕ → Neighbour
to r = record { rank = r; weight = 0 }

abbrev near : (sources destinations : List Neighbour) → Near
near sources destinations = record { sources = sources; destinations = destinations }

-- rank 0 told of 1>2 and 2>2, rank 2 of 0>2 and 1>2
abbrev crossed : Option TopologyView
crossed = Some (record {
  weighted = false;
  ranks = near [] (to 2 ∷ []) ∷ near [] (to 2 ∷ to 2 ∷ []) ∷ near (to 1 ∷ to 2 ∷ to 0 ∷ to 1 ∷ []) (to 2 ∷ []) ∷ [];
})

-- 0>1 twice
abbrev twice : Option TopologyView
twice = Some (record { weighted = false; ranks = near [] (to 1 ∷ to 1 ∷ []) ∷ near (to 0 ∷ to 0 ∷ []) [] ∷ [] })

-- ONE BLOCK FOR EACH DESTINATION

abbrev one_each : RowView
one_each =
    sends (Neighbourhood Alltoall) (1 ∷ []) (1 ∷ []) (pos 5 ∷ [])
    ∷ sends (Neighbourhood Alltoall) (1 ∷ []) (1 ∷ []) (pos 10 ∷ pos 11 ∷ [])
    ∷ sends (Neighbourhood Alltoall) (1 ∷ []) (1 ∷ []) (pos 30 ∷ [])
    ∷ []

one_each_fits : list_all (λ rank. is_fit crossed 3 rank (post_at one_each rank)) (upto 3) ≡ true
one_each_fits = refl

-- rank 1's first block stands first, its second one last
alltoall_crossed : gives crossed one_each 2 ≡ gets (pos 10 ∷ pos 30 ∷ pos 5 ∷ pos 11 ∷ [])
alltoall_crossed = refl

alltoall_no_sources : gives crossed one_each 0 ≡ gets []
alltoall_no_sources = refl

alltoall_only_destinations : gives crossed one_each 1 ≡ gets []
alltoall_only_destinations = refl

abbrev own_sizes : RowView
own_sizes =
    sends (Neighbourhood Alltoallv) (1 ∷ 2 ∷ []) [] (pos 7 ∷ pos 8 ∷ pos 9 ∷ [])
    ∷ sends (Neighbourhood Alltoallv) [] (1 ∷ 2 ∷ []) []
    ∷ []

own_sizes_fit : list_all (λ rank. is_fit twice 2 rank (post_at own_sizes rank)) (upto 2) ≡ true
own_sizes_fit = refl

-- a block of 1 and one of 2, in this order
alltoallv_twice : gives twice own_sizes 1 ≡ gets (pos 7 ∷ pos 8 ∷ pos 9 ∷ [])
alltoallv_twice = refl

-- rank 1's blocks have 2 items and 1
alltoallv_crossed :
    gives crossed (sends (Neighbourhood Alltoallv) (1 ∷ []) [] (pos 5 ∷ []) ∷ sends (Neighbourhood Alltoallv) (2 ∷ 1 ∷ []) [] (pos 10 ∷ pos 11 ∷ pos 12 ∷ []) ∷ sends (Neighbourhood Alltoallv) (0 ∷ []) (2 ∷ 0 ∷ 1 ∷ 1 ∷ []) [] ∷ []) 2
    ≡ gets (pos 10 ∷ pos 11 ∷ pos 5 ∷ pos 12 ∷ [])
alltoallv_crossed = refl

-- ALL THAT EACH SOURCE GIVES

allgather_crossed : gives crossed (sends (Neighbourhood Allgather) [] (1 ∷ []) (pos 5 ∷ []) ∷ sends (Neighbourhood Allgather) [] (1 ∷ []) (pos 10 ∷ []) ∷ sends (Neighbourhood Allgather) [] (1 ∷ []) (pos 30 ∷ []) ∷ []) 2 ≡ gets (pos 10 ∷ pos 30 ∷ pos 5 ∷ pos 10 ∷ [])
allgather_crossed = refl

allgatherv_crossed : gives crossed (sends (Neighbourhood Allgatherv) [] [] (pos 5 ∷ []) ∷ sends (Neighbourhood Allgatherv) [] [] (pos 10 ∷ pos 11 ∷ []) ∷ sends (Neighbourhood Allgatherv) [] (2 ∷ 0 ∷ 1 ∷ 2 ∷ []) [] ∷ []) 2 ≡ gets (pos 10 ∷ pos 11 ∷ pos 5 ∷ pos 10 ∷ pos 11 ∷ [])
allgatherv_crossed = refl

allgatherv_twice : gives twice (sends (Neighbourhood Allgatherv) [] [] (pos 7 ∷ pos 8 ∷ []) ∷ sends (Neighbourhood Allgatherv) [] (2 ∷ 2 ∷ []) [] ∷ []) 1 ≡ gets (pos 7 ∷ pos 8 ∷ pos 7 ∷ pos 8 ∷ [])
allgatherv_twice = refl

-- NOTHING

without_edges : gives None one_each 2 ≡ Nothing
without_edges = refl

of_another_kind : gives crossed (sends (Exchange Barrier) [] [] (pos 5 ∷ []) ∷ sends (Exchange Barrier) [] [] (pos 10 ∷ []) ∷ sends (Exchange Barrier) [] [] (pos 30 ∷ []) ∷ []) 2 ≡ Nothing
of_another_kind = refl
