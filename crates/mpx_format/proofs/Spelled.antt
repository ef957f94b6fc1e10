-- Names and births within the limits of their types have a spelling.
use Rattle.std.proofs.Common.{◌≡◌, ◌≢◌, ℕ, zero, suc, ◌-◌, ◌^◌, ◌<◌, ◌≤◌, Bool, true, false, ◌&&◌, not, ltb, leb, List, [], ◌∷◌, ◌++◌, length, reverse, Option, Some, None, refl, sym, ap, subst, ◌∙◌, arith, append_assoc}
use Rattle.std.specs.Prelude.{slice_index_or}
use Rattle.std.specs.List.{All, list_all}
use Rattle.std.proofs.lemmas.Bool.{lt-ltb, le-leb, ltb-true, leb-true, eqb-true, not-true, both_ways, and_parts, and_from, or_parts}
use Rattle.std.proofs.lemmas.List.{length-reverse, get_or-reverse}
use Rattle.std.proofs.lemmas.List.Elements.{All-from_get_or}
use Rattle.std.proofs.lemmas.List.Sums.{AllPass-from_list_all}
use Rattle.mpx_group.specs.Group.{has, has_twice, IsGroup}
use Rattle.mpx_group.proofs.Members.{has_twice-push, has_twice-append_left, IsGroup-from}
use Rattle.mpx_name.specs.declared.steps.Step.{Step}
use Rattle.mpx_name.specs.declared.steps.Step.TheVariants.{Child, Gathering}
use Rattle.mpx_name.specs.Name.{IsStep, IsName}
use Rattle.mpx_birth.specs.declared.edges.Neighbour.{Neighbour}
use Rattle.mpx_birth.specs.Topologies.{Near, TopologyView, IsFew, IsKept, nobody, most_neighbours, fits_weight, fits_neighbour, is_near, is_topology}
use Rattle.mpx_birth.specs.Births.{BirthView, has_ranks, is_birth}
use Rattle.mpx_birth.proofs.Kept.{topology-parts, topology-kept}
use Rattle.mpx_format.specs.Format.{Format, many_fit}
use Rattle.mpx_format.specs.Fields.{process, member, member_count, members, call, colour, tag, child, gathering, step, step_count, steps, name}
use Rattle.mpx_format.specs.Births.{weight, neighbour, neighbours, near, nears, may_stand, topology, birth}

-- LISTS

-- values each of which fits
pub each_fit : {V : Type 0} (f : Format V) (before vs : List V) → All (λ v. f.fits v ≡ true) vs → many_fit (λ b. f) (length vs) before vs ≡ true
each_fit f before [] h = refl
each_fit f before (v ∷ vs) h = and_from _ _ (h 0 v (omega arith)) (each_fit f (before ++ v ∷ []) vs (λ k d lt. h (suc k) d (omega (arith, lt))))

left_distinct : (xs ys : List ℕ) → has_twice (xs ++ ys) ≡ false → has_twice xs ≡ false
left_distinct xs ys e = elim (has_twice xs) as (λ b. has_twice xs ≡ b → b ≡ false) [
  | true ↦ λ is. absurd (both_ways _ e (has_twice-append_left xs ys is))
  | false ↦ λ is. refl
] refl

-- FIELDS

pub process_fits : (p : ℕ) → p < 64 → process.fits p ≡ true
unfolding process
process_fits p lt = and_from _ _ (lt-ltb p 256 (omega (arith, lt))) (lt-ltb p 64 lt)

-- processes none of which comes twice
pub distinct_fit : (before ps : List ℕ) → has_twice (before ++ ps) ≡ false → All (λ p. p < 64) ps → many_fit member (length ps) before ps ≡ true
unfolding member
distinct_fit before [] twice below = refl
distinct_fit before (p ∷ ps) twice below =
    let more : has_twice ((before ++ p ∷ []) ++ ps) ≡ false = ap has_twice (append_assoc before (p ∷ []) ps) ∙ twice in
    let new = or_parts (has_twice before) (has before p) (sym (has_twice-push before p) ∙ left_distinct (before ++ p ∷ []) ps more) in
    and_from _ _ (and_from _ _ (process_fits p (below 0 p (omega arith))) (ap not new.1)) (distinct_fit (before ++ p ∷ []) ps more (λ k d lt. below (suc k) d (omega (arith, lt))))

members_fit : (ps : List ℕ) → 0 < length ps → IsGroup ps → members.fits ps ≡ true
unfolding members member_count
members_fit ps some g =
    let few : length ps ≤ 64 = g.few in
    and_from _ _ (and_from _ _ (lt-ltb (length ps) 256 (omega arith)) (and_from _ _ (lt-ltb 0 (length ps) some) (le-leb (length ps) 64 few))) (distinct_fit [] ps g.distinct g.below)

pub colour_fits : (c : ℕ) → c < 2 ^ 31 → colour.fits c ≡ true
unfolding colour
colour_fits c lt = and_from _ _ (lt-ltb c (256 ^ 4) (omega (arith, lt))) (lt-ltb c (2 ^ 31) lt)

-- NAMES

some_members : (ps : List ℕ) → ps ≢ [] → 0 < length ps
some_members [] ne = absurd (ne refl)
some_members (p ∷ ps) ne = omega arith

step_fits : (s : Step) → IsStep s → step.fits s ≡ true
unfolding step child gathering call tag
step_fits (Child k c) h = and_from _ _ (and_from _ _ (lt-ltb k (256 ^ 4) (omega (arith, h.0))) (lt-ltb k (2 ^ 32 - 1) h.0)) (colour_fits c h.1)
step_fits (Gathering t ps) h = and_from _ _ (and_from _ _ (lt-ltb t (256 ^ 2) (omega (arith, h.0))) (lt-ltb t (2 ^ 15) h.0)) (members_fit ps (some_members ps h.1) h.2)

All-reverse : {A : Type 0} (P : A → Type 0) (xs : List A) → All P xs → All P (reverse xs)
All-reverse P xs h k d lt =
    let len : length (reverse xs) ≡ length xs = length-reverse xs in
    subst P (sym (get_or-reverse xs k d (omega (arith, lt)))) (h (length xs - 1 - k) d (omega (arith, lt)))

pub name_fits : (n : List Step) → IsName n → name.fits n ≡ true
unfolding name steps step_count
name_fits n h =
    let len : length (reverse n) ≡ length n = length-reverse n in
    let few : length n ≤ 8 = h.depth in
    and_from _ _ (and_from _ _ (lt-ltb (length (reverse n)) 256 (omega (arith, few))) (le-leb (length (reverse n)) 8 (omega (arith, few))))
    (each_fit step [] (reverse n) (λ k d lt. step_fits (slice_index_or (reverse n) k d) (All-reverse IsStep n h.steps k d lt)))

-- BIRTHS

pub weight_fits : (weighted : Bool) (w : ℕ) → fits_weight weighted w ≡ true → (weight weighted).fits w ≡ true
unfolding weight
weight_fits true w h = let lt : w < 2 ^ 31 = ltb-true w (2 ^ 31) h in and_from _ _ (lt-ltb w (256 ^ 4) (omega arith)) h
weight_fits false zero h = refl
weight_fits false (suc w) h = absurd (omega (arith, eqb-true (suc w) 0 h))

neighbour_fits : (size : ℕ) → size ≤ 64 → (weighted : Bool) (n : Neighbour) → fits_neighbour size weighted n ≡ true → (neighbour weighted).fits n ≡ true
unfolding neighbour
neighbour_fits size few weighted n h =
    and_from _ _ (process_fits n.rank (omega (arith, few, ltb-true _ _ (and_parts (ltb n.rank size) (fits_weight weighted n.weight) h).0))) (weight_fits weighted n.weight (and_parts (ltb n.rank size) (fits_weight weighted n.weight) h).1)

neighbours_fit : (size : ℕ) → size ≤ 64 → (weighted : Bool) (ns : List Neighbour) → length ns ≤ most_neighbours → list_all (fits_neighbour size weighted) ns ≡ true → (neighbours weighted).fits ns ≡ true
unfolding neighbours
neighbours_fit size few weighted ns short h =
    and_from _ _ (lt-ltb (length ns) (256 ^ 2) (omega (arith, short)))
    (each_fit (neighbour weighted) [] ns (λ k d lt. neighbour_fits size few weighted (slice_index_or ns k d) (AllPass-from_list_all (fits_neighbour size weighted) ns h k d lt)))

near_fits : (size : ℕ) → size ≤ 64 → (weighted : Bool) (n : Near) → IsFew n → is_near size weighted n ≡ true → (near weighted).fits n ≡ true
unfolding near
near_fits size few weighted n short h =
    and_from _ _ (neighbours_fit size few weighted n.sources short.sources (and_parts (list_all (fits_neighbour size weighted) n.sources) (list_all (fits_neighbour size weighted) n.destinations) h).0)
    (neighbours_fit size few weighted n.destinations short.destinations (and_parts (list_all (fits_neighbour size weighted) n.sources) (list_all (fits_neighbour size weighted) n.destinations) h).1)

nears_fit : (weighted : Bool) (ns : List Near) → length ns ≤ 64 → All IsFew ns → list_all (is_near (length ns) weighted) ns ≡ true → (nears weighted (length ns)).fits ns ≡ true
nears_fit weighted ns few short h =
    each_fit (near weighted) [] ns (λ k d lt. near_fits (length ns) few weighted (slice_index_or ns k d) (short k d lt) (AllPass-from_list_all (is_near (length ns) weighted) ns h k d lt))

told_fits : (weighted : Bool) (ns : List Near) → (nears weighted (length ns)).fits ns ≡ true → is_topology (record { weighted = weighted; ranks = ns }) ≡ true → (topology (length ns)).fits (Some (record { weighted = weighted; ranks = ns })) ≡ true
unfolding topology
told_fits false ns h is = and_from _ _ h is
told_fits true ns h is = and_from _ _ h is

topology_fits : (size : ℕ) (t : Option TopologyView) → has_ranks size t ≡ true → may_stand t ≡ true → (topology size).fits t ≡ true
unfolding topology
topology_fits size None ranks is = refl
topology_fits size (Some t) ranks is =
    let parts = topology-parts t is in
    let each : All IsFew t.ranks = All-from_get_or IsFew t.ranks nobody (λ rank lt. (topology-kept t is).each rank) in
    subst (λ n. (topology n).fits (Some t) ≡ true) (eqb-true _ _ ranks) (told_fits t.weighted t.ranks (nears_fit t.weighted t.ranks (leb-true _ _ parts.few) each parts.near) is)

-- a topology that is kept stands
pub kept_stands : (t : Option TopologyView) → IsKept t → may_stand t ≡ true
kept_stands None h = refl
kept_stands (Some t) h = h.spelled

pub birth_fits : (b : BirthView) → is_birth b ≡ true → may_stand b.topology ≡ true → birth.fits b ≡ true
unfolding is_birth birth
birth_fits b is stands =
    let size = length b.members in
    let below = list_all (λ p. ltb p 64) b.members in
    let ranks = has_ranks size b.topology in
    let some = and_parts (ltb 0 size) (leb size 64 && (not (has_twice b.members) && (below && ranks))) is in
    let few = and_parts (leb size 64) (not (has_twice b.members) && (below && ranks)) some.1 in
    let distinct = and_parts (not (has_twice b.members)) (below && ranks) few.1 in
    let rest = and_parts below ranks distinct.1 in
    and_from _ _
    (members_fit b.members (ltb-true _ _ some.0)
    (IsGroup-from b.members (not-true _ distinct.0) (λ k d lt. ltb-true _ _ (AllPass-from_list_all (λ p. ltb p 64) b.members rest.0 k d lt))))
    (topology_fits size b.topology rest.1 stands)
