-- The laws of the formats of births and topologies.
use Rattle.std.proofs.Common.{◌≡◌, ℕ, zero, suc, Bool, true, false, ltb, List, length, Option, Some, None, refl, sym, ap, arith}
use Rattle.std.specs.Int.{w16, w32}
use Rattle.std.proofs.lemmas.Bool.{ltb-true}
use Rattle.mpx_birth.specs.declared.edges.Neighbour.{Neighbour}
use Rattle.mpx_birth.specs.Births.{BirthView}
use Rattle.mpx_birth.specs.Topologies.{Near, TopologyView}
use Rattle.mpx_format.specs.Format.{Format, fits_by, out_of_limits}
use Rattle.mpx_format.specs.Births.{of_zero, weight, neighbour_of, neighbour, neighbours, near_of, near, nears, code_of_weighted, code_of_topology, topology_of, ranks_where, of_topology, topology_form, may_stand, topology, birth_of, birth}
use Rattle.mpx_format.proofs.FormatLaws.{Exactly, number_laws, wide16, wide32, nothing_laws, both_laws, only_laws, through_laws, many_laws, counted_laws, tagged_laws, some_is}
use Rattle.mpx_format.proofs.FieldLaws.{process_laws, members_laws}
use Rattle.mpx_format.proofs.CodeLaws.{missing_laws}

-- NEIGHBOURS

zero_forth : (n : ℕ) (u : Unit {0}) → of_zero n ≡ Some u → 0 ≡ n
zero_forth zero u e = refl
zero_forth (suc n) u e = absurd cc

pub weight_laws : (weighted : Bool) → Exactly (weight weighted)
unfolding weight
weight_laws true = only_laws out_of_limits _ (number_laws w32 wide32)
weight_laws false = through_laws (λ u. 0) of_zero nothing_laws (λ u fits. refl) zero_forth

pub neighbour_laws : (weighted : Bool) → Exactly (neighbour weighted)
unfolding neighbour
neighbour_laws weighted =
    through_laws neighbour_of (λ (n : Neighbour). Some (n.rank, n.weight)) (both_laws process_laws (λ r fits. weight_laws weighted)) (λ a fits. refl)
    (λ n a e. ap neighbour_of (sym (some_is (n.rank, n.weight) a e)))

neighbours_laws : (weighted : Bool) → Exactly (neighbours weighted)
unfolding neighbours
neighbours_laws weighted = counted_laws (number_laws w16 wide16) (λ before. neighbour_laws weighted)

near_laws : (weighted : Bool) → Exactly (near weighted)
unfolding near
near_laws weighted =
    through_laws near_of (λ (n : Near). Some (n.sources, n.destinations)) (both_laws (neighbours_laws weighted) (λ s fits. neighbours_laws weighted)) (λ a fits. refl)
    (λ n a e. ap near_of (sym (some_is (n.sources, n.destinations) a e)))

nears_laws : (weighted : Bool) (size : ℕ) → Exactly (nears weighted size)
nears_laws weighted size = many_laws (λ before. near_laws weighted) size

-- TOPOLOGIES

where_forth : (weighted has : Bool) (r s : List Near) → ranks_where weighted has r ≡ Some s → topology_of weighted s ≡ topology_of has r
where_forth false false r s e = ap (topology_of false) (sym (some_is r s e))
where_forth false true r s e = absurd cc
where_forth true false r s e = absurd cc
where_forth true true r s e = ap (topology_of true) (sym (some_is r s e))

topology_forth : (weighted : Bool) (t : Option TopologyView) (ranks : List Near) → of_topology weighted t ≡ Some ranks → topology_of weighted ranks ≡ t
topology_forth weighted None ranks e = absurd cc
topology_forth weighted (Some t) ranks e = where_forth weighted t.weighted t.ranks ranks e

form_laws : (size t : ℕ) → Exactly (topology_form size t)
form_laws size zero = missing_laws
form_laws size (suc zero) = through_laws (topology_of false) (of_topology false) (nears_laws false size) (λ a fits. refl) (topology_forth false)
form_laws size (suc (suc n)) = through_laws (topology_of true) (of_topology true) (nears_laws true size) (λ a fits. refl) (topology_forth true)

where_tag : (weighted has : Bool) (f : Format (List Near)) (r : List Near) → fits_by f (ranks_where weighted has r) ≡ true → code_of_weighted has ≡ code_of_weighted weighted
where_tag false false f r fits = refl
where_tag false true f r fits = absurd cc
where_tag true false f r fits = absurd cc
where_tag true true f r fits = refl

form_tags : (size t : ℕ) (v : Option TopologyView) → ltb t 3 ≡ true → (topology_form size t).fits v ≡ true → code_of_topology v ≡ t
form_tags size zero None lt fits = refl
form_tags size zero (Some t) lt fits = absurd cc
form_tags size (suc zero) None lt fits = absurd cc
form_tags size (suc zero) (Some t) lt fits = where_tag false t.weighted (nears false size) t.ranks fits
form_tags size (suc (suc n)) None lt fits = absurd cc
form_tags size (suc (suc n)) (Some t) lt fits = omega (arith, ltb-true _ _ lt, where_tag true t.weighted (nears true size) t.ranks fits)

pub topology_laws : (size : ℕ) → Exactly (topology size)
unfolding topology
topology_laws size = only_laws out_of_limits may_stand (tagged_laws _ code_of_topology (λ t lt. form_laws size t) (form_tags size))

-- BIRTHS

pub birth_laws : Exactly birth
unfolding birth
birth_laws =
    through_laws birth_of (λ (b : BirthView). Some (b.members, b.topology)) (both_laws members_laws (λ ps fits. topology_laws (length ps))) (λ a fits. refl)
    (λ b a e. ap birth_of (sym (some_is (b.members, b.topology) a e)))
