-- Keys with their values, one after the other; and topologies, whose spelling doesn't hang on how many ranks are asked for.
use Rattle.std.specs.Prelude.{ℕ, ◌&&◌, Bool, List, [], ◌∷◌, ◌++◌, Option, Some, None}
use Rattle.std.specs.List.{flat_map, list_all}
use Rattle.mpx_birth.specs.Topologies.{TopologyView}
use Rattle.mpx_format.specs.Format.{Format}
use Rattle.mpx_format.specs.Births.{near, code_of_topology}

module _ {K V : Type 0} where
  abbrev pub entry_spelled : Format K → Format V → K × V → List ℕ
  entry_spelled key value e = key.spelling e.0 ++ value.spelling e.1

  abbrev pub entries_spelled : Format K → Format V → List (K × V) → List ℕ
  entries_spelled key value es = flat_map (entry_spelled key value) es

  -- each key passes the one test, and each value the other
  abbrev pub both_pass : (K → Bool) → (V → Bool) → List (K × V) → Bool
  both_pass key value es = list_all (λ e. key e.0 && value e.1) es

-- its code, and the neighbours of each rank
abbrev pub topology_spelled : Option TopologyView → List ℕ
topology_spelled None = 0 ∷ []
topology_spelled (Some t) = code_of_topology (Some t) ∷ flat_map (near t.weighted).spelling t.ranks
