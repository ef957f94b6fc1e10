-- How frames spell births: the members, and the neighbours of each of them where there is a topology (MPI 4.1, sections 7.2 and 8.5).
use Rattle.std.specs.Prelude.{ℕ, zero, suc, ◌^◌, Bool, true, false, nat_lt, List, length, Option, Some, None}
use Rattle.std.specs.Int.{w16, w32}
use Rattle.mpx_birth.specs.declared.edges.Neighbour.{Neighbour}
use Rattle.mpx_birth.specs.Births.{BirthView}
use Rattle.mpx_birth.specs.Topologies.{Near, TopologyView, is_topology}
use Rattle.mpx_format.specs.Format.{Format, nothing, number, both, only, through, many, counted, tagged, out_of_limits}
use Rattle.mpx_format.specs.Codes.{missing}
use Rattle.mpx_format.specs.Fields.{process, members}

-- NEIGHBOURS

abbrev pub of_zero : ℕ → Option (Unit {0})
of_zero zero = Some tt
of_zero (suc n) = None

-- a weight below 2^31; no bytes where edges have none
unfoldable pub weight : Bool → Format ℕ
weight true = only out_of_limits (λ w. nat_lt w (2 ^ 31)) (number w32)
weight false = through (λ u. 0) of_zero nothing

abbrev pub neighbour_of : ℕ × ℕ → Neighbour
neighbour_of x = record { rank = x.0; weight = x.1 }

-- the rank at the other end, and the weight
unfoldable pub neighbour : Bool → Format Neighbour
neighbour weighted = through neighbour_of (λ n. Some (n.rank, n.weight)) (both process (λ r. weight weighted))

-- TOPOLOGIES

-- so many neighbours, told before them
unfoldable pub neighbours : Bool → Format (List Neighbour)
neighbours weighted = counted (number w16) (λ before. neighbour weighted)

abbrev pub near_of : List Neighbour × List Neighbour → Near
near_of x = record { sources = x.0; destinations = x.1 }

-- the sources of one rank, and its destinations
unfoldable pub near : Bool → Format Near
near weighted = through near_of (λ n. Some (n.sources, n.destinations)) (both (neighbours weighted) (λ s. neighbours weighted))

-- those of so many ranks
abbrev pub nears : Bool → ℕ → Format (List Near)
nears weighted size = many (λ before. near weighted) size

abbrev pub code_of_weighted : Bool → ℕ
code_of_weighted false = 1
code_of_weighted true = 2

abbrev pub code_of_topology : Option TopologyView → ℕ
code_of_topology None = 0
code_of_topology (Some t) = code_of_weighted t.weighted

abbrev pub topology_of : Bool → List Near → Option TopologyView
topology_of weighted ranks = Some (record { weighted = weighted; ranks = ranks })

abbrev pub ranks_where : (weighted has : Bool) → List Near → Option (List Near)
ranks_where false false ranks = Some ranks
ranks_where false true ranks = None
ranks_where true false ranks = None
ranks_where true true ranks = Some ranks

abbrev pub of_topology : Bool → Option TopologyView → Option (List Near)
of_topology weighted None = None
of_topology weighted (Some t) = ranks_where weighted t.weighted t.ranks

-- nothing, or the neighbours of each rank without or with weights
abbrev pub topology_form : (size : ℕ) → ℕ → Format (Option TopologyView)
topology_form size zero = missing
topology_form size (suc zero) = through (topology_of false) (of_topology false) (nears false size)
topology_form size (suc (suc n)) = through (topology_of true) (of_topology true) (nears true size)

-- there is none, or it is within the limits of topologies
abbrev pub may_stand : Option TopologyView → Bool
may_stand None = true
may_stand (Some t) = is_topology t

-- 0, or 1 and a topology without weights, or 2 and one with weights, whatever its neighbours are
abbrev pub any_topology : (size : ℕ) → Format (Option TopologyView)
any_topology size = tagged (λ t. nat_lt t 3) code_of_topology (topology_form size)

-- the same within the limits, which are asked once it is read whole
unfoldable pub topology : (size : ℕ) → Format (Option TopologyView)
topology size = only out_of_limits may_stand (any_topology size)

-- BIRTHS

abbrev pub birth_of : List ℕ × Option TopologyView → BirthView
birth_of x = record { members = x.0; topology = x.1 }

-- the members in rank order, and their topology
unfoldable pub birth : Format BirthView
birth = through birth_of (λ b. Some (b.members, b.topology)) (both members (λ ps. topology (length ps)))
