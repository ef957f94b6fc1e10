-- What follows from the test of a topology, and what it follows from.
use Rattle.std.proofs.Common.{◌≡◌, ℕ, suc, ◌<◌, ◌≤◌, Bool, true, false, List, [], ◌∷◌, length, cond, get_or, inl, inr, refl, sym, ap, subst, ◌∙◌, arith}
use Rattle.std.specs.Prelude.{nat_le, nat_lt, slice_index_or}
use Rattle.std.specs.List.{All, filter, list_all}
use Rattle.std.proofs.lemmas.Bool.{and_from, and_parts, cases_lt, eq-eqb, eqb-true, leb-true, ltb-true, ne_eqb}
use Rattle.std.proofs.lemmas.List.{get_or_past}
use Rattle.std.proofs.lemmas.List.Elements.{All-get_or, All-weaker}
use Rattle.std.proofs.lemmas.List.Sums.{AllPass-from_list_all, get_or-le-sum_by, sum-map}
use Rattle.mpx_birth.specs.declared.edges.Neighbour.{Neighbour}
use Rattle.mpx_birth.specs.Edges.{has_rank, often}
use Rattle.mpx_birth.specs.Orders.{upto}
use Rattle.mpx_birth.specs.Topologies.{AgreesAtBothEnds, IsFew, IsTopology, Near, TopologyView, are_paired, destinations_near, destinations_in_all, is_near, fits_neighbour, is_topology, fits_weight, most_neighbours, nobody, sources_near, sources_in_all, tell_alike}
use Rattle.mpx_birth.proofs.Below.{all_below, each_below}

-- ranks of so many
abbrev pub AreBelow : ℕ → List Neighbour → Type 0
AreBelow size ns = All (λ (n : Neighbour). n.rank < size) ns

pub none_pass : {A : Type 0} (p : A → Bool) (xs : List A) → All (λ x. p x ≡ false) xs → filter p xs ≡ []
none_pass p [] none = refl
none_pass {A} p (x ∷ xs) none =
    let here : p x ≡ false = none 0 x (omega arith) in
    let rest : filter p xs ≡ [] = none_pass p xs (λ k d l. none (suc k) d (omega arith)) in
    ap (λ (b : Bool). cond b (x ∷ filter p xs) (filter p xs)) here ∙ rest

-- no other rank stands there
pub often-far : (size rank : ℕ) (ns : List Neighbour) → size ≤ rank → AreBelow size ns → often rank ns ≡ 0
often-far size rank ns far all =
    ap length (none_pass (has_rank rank) ns (λ k d l. ne_eqb _ _ (λ e. let below = all k d l in omega arith)))

-- THE PARTS OF THE TEST

pub record Parts (topology : TopologyView) : Type 0 where
  pub few : nat_le (length topology.ranks) 64 ≡ true
  pub near : list_all (is_near (length topology.ranks) topology.weighted) topology.ranks ≡ true
  pub sources : nat_le (sources_in_all topology.ranks) most_neighbours ≡ true
  pub destinations : nat_le (destinations_in_all topology.ranks) most_neighbours ≡ true
  pub paired : are_paired topology.ranks ≡ true

pub topology-parts : (topology : TopologyView) → is_topology topology ≡ true → Parts topology
unfolding is_topology
topology-parts topology is =
    let few = and_parts _ _ is in
    let near = and_parts _ _ few.1 in
    let sources = and_parts _ _ near.1 in
    let destinations = and_parts _ _ sources.1 in
    record { few = few.0; near = near.0; sources = sources.0; destinations = destinations.0; paired = destinations.1 }

pub topology-from : (topology : TopologyView) → Parts topology → is_topology topology ≡ true
unfolding is_topology
topology-from topology parts =
    and_from _ _ parts.few (and_from _ _ parts.near (and_from _ _ parts.sources (and_from _ _ parts.destinations parts.paired)))

-- WHAT A TOPOLOGY KEEPS

neighbours-below : (size : ℕ) (weighted : Bool) (ns : List Neighbour) → list_all (fits_neighbour size weighted) ns ≡ true → AreBelow size ns
neighbours-below size weighted ns t =
    All-weaker (λ (n : Neighbour). fits_neighbour size weighted n ≡ true) (λ (n : Neighbour). n.rank < size)
    (λ n u. ltb-true n.rank size (and_parts (nat_lt n.rank size) (fits_weight weighted n.weight) u).0) ns
    (AllPass-from_list_all (fits_neighbour size weighted) ns t)

module _ (topology : TopologyView) (parts : Parts topology) where
  -- the neighbours of one of its ranks
  near_at : (rank : ℕ) → rank < length topology.ranks → is_near (length topology.ranks) topology.weighted (get_or topology.ranks rank nobody) ≡ true
  near_at rank l =
      All-get_or (λ (near : Near). is_near (length topology.ranks) topology.weighted near ≡ true) topology.ranks rank nobody l
      (AllPass-from_list_all (is_near (length topology.ranks) topology.weighted) topology.ranks parts.near)

  sources_below : (rank : ℕ) → rank < length topology.ranks → AreBelow (length topology.ranks) (sources_near topology.ranks rank)
  sources_below rank l = neighbours-below _ topology.weighted _ (and_parts _ _ (near_at rank l)).0

  destinations_below : (rank : ℕ) → rank < length topology.ranks → AreBelow (length topology.ranks) (destinations_near topology.ranks rank)
  destinations_below rank l = neighbours-below _ topology.weighted _ (and_parts _ _ (near_at rank l)).1

  alike : (i j : ℕ) → i < length topology.ranks → j < length topology.ranks → often j (destinations_near topology.ranks i) ≡ often i (sources_near topology.ranks j)
  alike i j l m =
      eqb-true _ _
      (each_below (λ i. tell_alike topology.ranks i j) (length topology.ranks)
      (each_below (λ j. list_all (λ i. tell_alike topology.ranks i j) (upto (length topology.ranks))) (length topology.ranks) parts.paired j m) i l)

  no_sources : (j i : ℕ) → length topology.ranks ≤ j → often i (sources_near topology.ranks j) ≡ 0
  no_sources j i far = ap (λ (near : Near). often i near.sources) (get_or_past topology.ranks j nobody far)

  no_destinations : (i j : ℕ) → length topology.ranks ≤ i → often j (destinations_near topology.ranks i) ≡ 0
  no_destinations i j far = ap (λ (near : Near). often j near.destinations) (get_or_past topology.ranks i nobody far)

  agree : AgreesAtBothEnds topology.ranks
  agree = record {
    both = λ i j. elim (cases_lt i (length topology.ranks)) [
      | inl l ↦ elim (cases_lt j (length topology.ranks)) [
        | inl m ↦ alike i j l m
        | inr far ↦ often-far (length topology.ranks) j _ far (destinations_below i l) ∙ sym (no_sources j i far)
      ]
      | inr far ↦ no_destinations i j far ∙ sym (elim (cases_lt j (length topology.ranks)) [
        | inl m ↦ often-far (length topology.ranks) i _ far (sources_below j m)
        | inr past ↦ no_sources j i past
      ])
    ];
  }

  few_at : (rank : ℕ) → IsFew (slice_index_or topology.ranks rank nobody)
  few_at rank = elim (cases_lt rank (length topology.ranks)) [
    | inl l ↦ record {
      sources = omega (
        arith,
        get_or-le-sum_by (λ (near : Near). length near.sources) topology.ranks rank nobody l,
        sum-map (λ (near : Near). length near.sources) topology.ranks,
        leb-true _ _ parts.sources,
      );
      destinations = omega (
        arith,
        get_or-le-sum_by (λ (near : Near). length near.destinations) topology.ranks rank nobody l,
        sum-map (λ (near : Near). length near.destinations) topology.ranks,
        leb-true _ _ parts.destinations,
      );
    }
    | inr far ↦ subst IsFew (sym (get_or_past topology.ranks rank nobody far)) (record { sources = omega arith; destinations = omega arith })
  ]

pub topology-kept : (topology : TopologyView) → is_topology topology ≡ true → IsTopology topology
topology-kept topology is =
    let parts = topology-parts topology is in
    record { spelled = is; agree = agree topology parts; few = leb-true _ _ parts.few; each = few_at topology parts }

-- WHAT MAKES ONE

pub paired-from : (ranks : List Near) → AgreesAtBothEnds ranks → are_paired ranks ≡ true
paired-from ranks agree =
    all_below (λ j. list_all (λ i. tell_alike ranks i j) (upto (length ranks))) (length ranks)
    (λ j m. all_below (λ i. tell_alike ranks i j) (length ranks) (λ i l. eq-eqb _ _ (agree.both i j)))
