-- Worked topologies: which places meet (MPI 4.1 section 8.6).
use Rattle.std.proofs.Common.{◌≡◌, ℕ, true, false, List, [], ◌∷◌, refl}
use Rattle.mpx_birth.specs.declared.edges.Neighbour.{Neighbour}
use Rattle.mpx_birth.specs.Topologies.{Near, TopologyView}
use Rattle.mpx_birth.specs.Ends.{sent_at, taken_at}

abbrev to : (rank weight : ℕ) → Neighbour
to r w = record { rank = r; weight = w }

abbrev near : (sources destinations : List Neighbour) → Near
near sources destinations = record { sources = sources; destinations = destinations }

-- rank 0 told of 1>2 and 2>2, rank 2 of 0>2 and 1>2
abbrev crossed : TopologyView
crossed = record {
  weighted = false;
  ranks = near [] (to 2 0 ∷ []) ∷ near [] (to 2 0 ∷ to 2 0 ∷ []) ∷ near (to 1 0 ∷ to 2 0 ∷ to 0 0 ∷ to 1 0 ∷ []) (to 2 0 ∷ []) ∷ [];
}

-- 0>1 twice, in another order at either end: places meet by their order alone, whatever their weights are
abbrev twice : TopologyView
twice = record { weighted = true; ranks = near [] (to 1 7 ∷ to 1 8 ∷ []) ∷ near (to 0 8 ∷ to 0 7 ∷ []) [] ∷ [] }

-- the first 1 among rank 2's sources meets the first 2 among rank 1's destinations, the last the second
crossed_sent : sent_at crossed 2 0 ∷ sent_at crossed 2 1 ∷ sent_at crossed 2 2 ∷ sent_at crossed 2 3 ∷ [] ≡ 0 ∷ 0 ∷ 0 ∷ 1 ∷ []
crossed_sent = refl

crossed_taken : taken_at crossed 1 0 ∷ taken_at crossed 1 1 ∷ [] ≡ 0 ∷ 3 ∷ []
crossed_taken = refl

-- rank 2 is its own neighbour
crossed_loop : taken_at crossed 2 0 ≡ 1
crossed_loop = refl

twice_sent : sent_at twice 1 0 ∷ sent_at twice 1 1 ∷ [] ≡ 0 ∷ 1 ∷ []
twice_sent = refl

twice_taken : taken_at twice 0 0 ∷ taken_at twice 0 1 ∷ [] ≡ 0 ∷ 1 ∷ []
twice_taken = refl
