-- How births are spelled, and in how many bytes.
use Rattle.std.proofs.Common.{◌≡◌, ℕ, zero, suc, ◌+◌, ◌*◌, ◌<◌, Bool, true, false, cond, List, [], ◌∷◌, ◌++◌, length, Option, Some, None, refl, sym, ap, ◌∙◌, arith, length-append, take, get_or, not, ◌&&◌, reverse}
use Rattle.std.specs.Prelude.{nat_lt, nat_le}
use Rattle.std.specs.Int.{w16, w32, to_be_bytes}
use Rattle.std.specs.List.{flat_map, list_all}
use Rattle.std.proofs.lemmas.Bool.{ltb-true}
use Rattle.std.proofs.lemmas.List.{take_more, append-nil}
use Rattle.std.proofs.lemmas.Grind.{flat_map-append}
use Rattle.join_core.specs.laws.Cases.{first_true, second_true}
use Rattle.mpx_group.specs.Group.{has}
use Rattle.mpx_birth.specs.declared.edges.Neighbour.{Neighbour}
use Rattle.mpx_birth.specs.Births.{BirthView}
use Rattle.mpx_birth.specs.Topologies.{Near, TopologyView, nobody}
use Rattle.mpx_format.specs.Format.{many_fit, many_spelled}
use Rattle.mpx_format.specs.Fields.{process, member, member_count, members, call, colour, tag, child, gathering, step, steps, step_count, name}
use Rattle.mpx_format.specs.Births.{weight, neighbour, neighbours, near, topology, birth}
use Rattle.mpx_name.specs.declared.steps.Step.{Step}
use Rattle.mpx_name.specs.declared.steps.Step.TheVariants.{Child, Gathering}
use Rattle.mpx_encode.specs.Entries.{topology_spelled}
use Rattle.mpx_encode.proofs.Rising.{many_alike, many_pass}

-- so many bytes for each
pub length_each : {X : Type 0} (s : X → List ℕ) (n : ℕ) → ((x : X) → length (s x) ≡ n) → (xs : List X) → length (flat_map s xs) ≡ length xs * n
length_each s n each [] = omega arith
length_each s n each (x ∷ xs) = length-append (s x) (flat_map s xs) ∙ omega (arith, each x, length_each s n each xs)

-- one alone
pub one_alone : {X : Type 0} (xs : List X) (x : X) → length xs ≡ 1 → x ≡ get_or xs 0 x → xs ≡ x ∷ []
one_alone [] x len is = absurd (omega (arith, len))
one_alone (y ∷ z ∷ xs) x len is = absurd (omega (arith, len))
one_alone (y ∷ []) x len is = ap (λ z. z ∷ []) (sym is)

pub one_spelled : {X : Type 0} (s : X → List ℕ) (xs : List X) (x : X) → length xs ≡ 1 → x ≡ get_or xs 0 x → flat_map s xs ≡ s x
one_spelled s xs x len is = ap (flat_map s) (one_alone xs x len is) ∙ append-nil (s x)

-- MEMBERS

alike : (before : List ℕ) (p : ℕ) → (member before).spelling p ≡ process.spelling p
unfolding member
alike before p = refl

pub members_spelled : (ps : List ℕ) → members.spelling ps ≡ (length ps ∷ []) ++ flat_map process.spelling ps
unfolding members member_count
members_spelled ps = ap (λ l. length ps ∷ l) (many_alike member process.spelling alike [] ps)

one_byte : (p : ℕ) → length (process.spelling p) ≡ 1
unfolding process
one_byte p = refl

pub length-members : (ps : List ℕ) → length (members.spelling ps) ≡ 1 + length ps
length-members ps = ap length (members_spelled ps) ∙ omega (arith, length_each process.spelling 1 one_byte ps)

-- NEIGHBOURS

pub weightless : (w : ℕ) → (weight false).spelling w ≡ []
unfolding weight
weightless zero = refl
weightless (suc w) = refl

pub length-weight : (weighted : Bool) (w : ℕ) → length ((weight weighted).spelling w) ≡ cond weighted 4 0
unfolding weight
length-weight true w = refl
length-weight false zero = refl
length-weight false (suc w) = refl

length-neighbour : (weighted : Bool) (n : Neighbour) → length ((neighbour weighted).spelling n) ≡ 1 + cond weighted 4 0
unfolding neighbour process
length-neighbour weighted n = omega (arith, length-weight weighted n.weight)

pub neighbours_spelled : (weighted : Bool) (ns : List Neighbour) → (neighbours weighted).spelling ns ≡ to_be_bytes w16 (length ns) ++ flat_map (neighbour weighted).spelling ns
unfolding neighbours
neighbours_spelled weighted ns = ap (λ l. to_be_bytes w16 (length ns) ++ l) (many_alike (λ before. neighbour weighted) (neighbour weighted).spelling (λ before n. refl) [] ns)

pub length-neighbours : (weighted : Bool) (ns : List Neighbour) → length ((neighbours weighted).spelling ns) ≡ 2 + length ns * (1 + cond weighted 4 0)
length-neighbours weighted ns =
    ap length (neighbours_spelled weighted ns) ∙ length-append (to_be_bytes w16 (length ns)) (flat_map (neighbour weighted).spelling ns) ∙ ap (λ n. 2 + n) (length_each (neighbour weighted).spelling (1 + cond weighted 4 0) (length-neighbour weighted) ns)

-- TOPOLOGIES

ranks_spelled : (weighted : Bool) (ns : List Near) → many_spelled (λ before. near weighted) [] ns ≡ flat_map (near weighted).spelling ns
ranks_spelled weighted ns = many_alike (λ before. near weighted) (near weighted).spelling (λ before n. refl) [] ns

with_weights : (size : ℕ) (weighted : Bool) (ns : List Near) → (topology size).spelling (Some (record { weighted = weighted; ranks = ns })) ≡ topology_spelled (Some (record { weighted = weighted; ranks = ns }))
unfolding topology
with_weights size false ns = ap (λ l. 1 ∷ l) (ranks_spelled false ns)
with_weights size true ns = ap (λ l. 2 ∷ l) (ranks_spelled true ns)

pub topology_is : (size : ℕ) (t : Option TopologyView) → (topology size).spelling t ≡ topology_spelled t
unfolding topology
topology_is size None = refl
topology_is size (Some t) = with_weights size t.weighted t.ranks

pub birth_spelled : (b : BirthView) → birth.spelling b ≡ members.spelling b.members ++ topology_spelled b.topology
unfolding birth
birth_spelled b = ap (λ l. members.spelling b.members ++ l) (topology_is (length b.members) b.topology)

pub length-topology : (t : TopologyView) → length (topology_spelled (Some t)) ≡ 1 + length (flat_map (near t.weighted).spelling t.ranks)
length-topology t = omega arith

pub length-birth : (b : BirthView) → length (birth.spelling b) ≡ 1 + length b.members + length (topology_spelled b.topology)
length-birth b = ap length (birth_spelled b) ∙ length-append (members.spelling b.members) (topology_spelled b.topology) ∙ ap (λ n. n + length (topology_spelled b.topology)) (length-members b.members)

pub near_spelled : (weighted : Bool) (n : Near) → (near weighted).spelling n ≡ (neighbours weighted).spelling n.sources ++ (neighbours weighted).spelling n.destinations
unfolding near
near_spelled weighted n = refl

-- one rank more
pub nears_more : (weighted : Bool) (ns : List Near) (i : ℕ) → i < length ns
    → length (flat_map (near weighted).spelling (take (i + 1) ns)) ≡ length (flat_map (near weighted).spelling (take i ns)) + (length ((neighbours weighted).spelling (get_or ns i nobody).sources) + length ((neighbours weighted).spelling (get_or ns i nobody).destinations))
nears_more weighted ns i lt =
    let n = get_or ns i nobody in
    let s = (near weighted).spelling in
    ap (λ l. length (flat_map s l)) (take_more ns i nobody lt) ∙ ap length (flat_map-append s (take i ns) (n ∷ [])) ∙ length-append (flat_map s (take i ns)) (flat_map s (n ∷ []))
    ∙ ap (λ m. length (flat_map s (take i ns)) + m) (ap length (append-nil (s n)) ∙ ap length (near_spelled weighted n) ∙ length-append ((neighbours weighted).spelling n.sources) ((neighbours weighted).spelling n.destinations))

-- MEMBERS AND NAMES THAT FIT

member_pass : (before : List ℕ) (p : ℕ) → (member before).fits p ≡ true → process.fits p ≡ true
unfolding member
member_pass before p h = first_true (process.fits p) (not (has before p)) h

pub members_pass : (ps : List ℕ) → members.fits ps ≡ true → list_all process.fits ps ≡ true
unfolding members
members_pass ps h = many_pass member process.fits member_pass (length ps) [] ps (second_true (member_count.fits (length ps)) (many_fit member (length ps) [] ps) h)

pub members_below : (ps : List ℕ) → members.fits ps ≡ true → length ps < 256
unfolding members member_count
members_below ps h = ltb-true (length ps) 256 (first_true (nat_lt (length ps) 256) (nat_lt 0 (length ps) && nat_le (length ps) 64) (first_true (member_count.fits (length ps)) (many_fit member (length ps) [] ps) h))

pub birth_members : (b : BirthView) → birth.fits b ≡ true → members.fits b.members ≡ true
unfolding birth
birth_members b h = first_true (members.fits b.members) ((topology (length b.members)).fits b.topology) h

pub gathering_members : (t : ℕ) (ps : List ℕ) → step.fits (Gathering t ps) ≡ true → members.fits ps ≡ true
unfolding step gathering
gathering_members t ps h = second_true (tag.fits t) (members.fits ps) h

pub child_spelled : (k c : ℕ) → step.spelling (Child k c) ≡ ((0 ∷ []) ++ to_be_bytes w32 k) ++ to_be_bytes w32 c
unfolding step child call colour
child_spelled k c = refl

pub gathering_spelled : (t : ℕ) (ps : List ℕ) → step.spelling (Gathering t ps) ≡ ((1 ∷ []) ++ to_be_bytes w16 t) ++ members.spelling ps
unfolding step gathering tag
gathering_spelled t ps = refl

pub length-child : (k c : ℕ) → length (step.spelling (Child k c)) ≡ 9
length-child k c = ap length (child_spelled k c)

pub length-gathering : (t : ℕ) (ps : List ℕ) → length (step.spelling (Gathering t ps)) ≡ 4 + length ps
length-gathering t ps = ap length (gathering_spelled t ps) ∙ length-append ((1 ∷ []) ++ to_be_bytes w16 t) (members.spelling ps) ∙ omega (arith, length-members ps)

pub steps_spelled : (ss : List Step) → steps.spelling ss ≡ (length ss ∷ []) ++ flat_map step.spelling ss
unfolding steps step_count
steps_spelled ss = ap (λ l. length ss ∷ l) (many_alike (λ before. step) step.spelling (λ before s. refl) [] ss)

pub steps_pass : (ss : List Step) → steps.fits ss ≡ true → list_all step.fits ss ≡ true
unfolding steps
steps_pass ss h = many_pass (λ before. step) step.fits (λ before s e. e) (length ss) [] ss (second_true (step_count.fits (length ss)) (many_fit (λ before. step) (length ss) [] ss) h)

pub steps_below : (ss : List Step) → steps.fits ss ≡ true → length ss < 256
unfolding steps step_count
steps_below ss h = ltb-true (length ss) 256 (first_true (nat_lt (length ss) 256) (nat_le (length ss) 8) (first_true (step_count.fits (length ss)) (many_fit (λ before. step) (length ss) [] ss) h))

pub name_of_steps : (n : List Step) → name.spelling n ≡ steps.spelling (reverse n)
unfolding name
name_of_steps n = refl

pub name_fits_steps : (n : List Step) → name.fits n ≡ steps.fits (reverse n)
unfolding name
name_fits_steps n = refl

pub name_spelled : (n : List Step) → name.spelling n ≡ (length (reverse n) ∷ []) ++ flat_map step.spelling (reverse n)
name_spelled n = name_of_steps n ∙ steps_spelled (reverse n)

pub name_steps : (n : List Step) → name.fits n ≡ true → list_all step.fits (reverse n) ≡ true
name_steps n h = steps_pass (reverse n) (sym (name_fits_steps n) ∙ h)
