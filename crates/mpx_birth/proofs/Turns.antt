-- Where a rank stands for a time.
use Rattle.std.proofs.Common.{◌≡◌, ℕ, zero, suc, ◌+◌, ◌<◌, ◌≤◌, Bool, true, false, List, [], ◌∷◌, length, cond, take, drop, get_or, refl, sym, ap, ◌∙◌, inl, inr, arith, eqb-true, eq-eqb}
use Rattle.std.proofs.lemmas.Bool.{cases_Bool, ne_eqb}
use Rattle.std.proofs.lemmas.List.Filters.{length-filter_more}
use Rattle.std.proofs.lemmas.List.Sums.{length-filter, sum_by-cons, sum_by_more_le}
use Rattle.mpx_birth.specs.declared.edges.Neighbour.{Neighbour}
use Rattle.mpx_birth.specs.Edges.{has_rank, often}
use Rattle.mpx_birth.specs.Ends.{place_of, rank_at, turn}

-- whoever stands past the end
abbrev no_neighbour : Neighbour
no_neighbour = record { rank = 0; weight = 0 }

-- 1 where the rank stands there
abbrev one : (rank : ℕ) → Neighbour → ℕ
one rank n = cond (has_rank rank n) 1 0

one-here : (rank : ℕ) (n : Neighbour) → has_rank rank n ≡ true → one rank n ≡ 1
one-here rank n is = ap (λ (b : Bool). cond {A = ℕ} b 1 0) is

one-elsewhere : (rank : ℕ) (n : Neighbour) → has_rank rank n ≡ false → one rank n ≡ 0
one-elsewhere rank n isnt = ap (λ (b : Bool). cond {A = ℕ} b 1 0) isnt

-- how often a rank stands in a list with one more in front
often-cons : (rank : ℕ) (n : Neighbour) (ns : List Neighbour) → often rank (n ∷ ns) ≡ one rank n + often rank ns
often-cons rank n ns = omega (arith, length-filter (has_rank rank) (n ∷ ns), length-filter (has_rank rank) ns, sum_by-cons (one rank) n ns)

often-here : (rank : ℕ) (n : Neighbour) (ns : List Neighbour) → has_rank rank n ≡ true → often rank (n ∷ ns) ≡ 1 + often rank ns
often-here rank n ns is = omega (arith, often-cons rank n ns, one-here rank n is)

often-elsewhere : (rank : ℕ) (n : Neighbour) (ns : List Neighbour) → has_rank rank n ≡ false → often rank (n ∷ ns) ≡ often rank ns
often-elsewhere rank n ns isnt = omega (arith, often-cons rank n ns, one-elsewhere rank n isnt)

-- the three ways in which a place is found
place-here : (rank : ℕ) (n : Neighbour) (ns : List Neighbour) → has_rank rank n ≡ true → place_of rank 0 (n ∷ ns) ≡ 0
place-here rank n ns is = ap (λ (b : Bool). cond b 0 (1 + place_of rank 0 ns)) is

place-later : (rank time : ℕ) (n : Neighbour) (ns : List Neighbour) → has_rank rank n ≡ true → place_of rank (suc time) (n ∷ ns) ≡ 1 + place_of rank time ns
place-later rank time n ns is = ap (λ (b : Bool). 1 + cond b (place_of rank time ns) (place_of rank (suc time) ns)) is

place-elsewhere : (rank time : ℕ) (n : Neighbour) (ns : List Neighbour) → has_rank rank n ≡ false → place_of rank time (n ∷ ns) ≡ 1 + place_of rank time ns
place-elsewhere rank zero n ns is = ap (λ (b : Bool). cond b 0 (1 + place_of rank 0 ns)) is
place-elsewhere rank (suc time) n ns is = ap (λ (b : Bool). 1 + cond b (place_of rank time ns) (place_of rank (suc time) ns)) is

-- where a rank stands for a time
pub record Stands (rank time : ℕ) (ns : List Neighbour) (place : ℕ) : Type 0 where
  pub within : place < length ns
  pub there : rank_at ns place ≡ rank
  pub before : often rank (take place ns) ≡ time

stands_behind : (rank time : ℕ) (n : Neighbour) (ns : List Neighbour) (place : ℕ) → Stands rank time ns place → (time' : ℕ) → often rank (n ∷ take place ns) ≡ time' → Stands rank time' (n ∷ ns) (1 + place)
stands_behind rank time n ns place stands time' e =
    let next : 1 + place ≡ suc place = omega arith in
    rw next (record { within = (let w = stands.within in omega arith); there = stands.there; before = e })

-- it stands there for that time, where it stands there so often
pub stands : (rank time : ℕ) (ns : List Neighbour) → time < often rank ns → Stands rank time ns (place_of rank time ns)
stands rank time [] l = absurd (omega arith)
stands rank zero (n ∷ ns) l = elim (cases_Bool (has_rank rank n)) [
  | inl is ↦ rw (place-here rank n ns is) (record { within = omega arith; there = eqb-true _ _ is; before = refl })
  | inr is ↦
      let rest = stands rank zero ns (let e = often-elsewhere rank n ns is in omega (arith, e)) in
      rw (place-elsewhere rank zero n ns is) (stands_behind rank zero n ns _ rest zero (often-elsewhere rank n (take (place_of rank zero ns) ns) is ∙ rest.before))
]
stands rank (suc time) (n ∷ ns) l = elim (cases_Bool (has_rank rank n)) [
  | inl is ↦
      let rest = stands rank time ns (let e = often-here rank n ns is in omega (arith, e)) in
      rw (place-later rank time n ns is) (stands_behind rank time n ns _ rest (suc time) (let e = often-here rank n (take (place_of rank time ns) ns) is in let f = rest.before in omega (arith, e, f)))
  | inr is ↦
      let rest = stands rank (suc time) ns (let e = often-elsewhere rank n ns is in omega (arith, e)) in
      rw (place-elsewhere rank (suc time) n ns is) (stands_behind rank (suc time) n ns _ rest (suc time) (often-elsewhere rank n (take (place_of rank (suc time) ns) ns) is ∙ rest.before))
]

-- no other place does
pub stands_once : (rank time : ℕ) (ns : List Neighbour) (place : ℕ) → Stands rank time ns place → place ≡ place_of rank time ns
stands_once rank time [] place s = absurd (let w = s.within in omega arith)
stands_once rank zero (n ∷ ns) zero s = sym (place-here rank n ns (eq-eqb _ _ s.there))
stands_once rank (suc time) (n ∷ ns) zero s = absurd (let b = s.before in omega arith)
stands_once rank zero (n ∷ ns) (suc place) s = elim (cases_Bool (has_rank rank n)) [
  | inl is ↦ absurd (let b = s.before in let e = often-here rank n (take place ns) is in omega (arith, b, e))
  | inr is ↦
      let rest : place ≡ place_of rank zero ns = stands_once rank zero ns place (record { within = (let w = s.within in omega arith); there = s.there; before = sym (often-elsewhere rank n (take place ns) is) ∙ s.before }) in
      (let e = place-elsewhere rank zero n ns is in omega (arith, e, rest))
]
stands_once rank (suc time) (n ∷ ns) (suc place) s = elim (cases_Bool (has_rank rank n)) [
  | inl is ↦
      let rest : place ≡ place_of rank time ns = stands_once rank time ns place (record { within = (let w = s.within in omega arith); there = s.there; before = (let e = often-here rank n (take place ns) is in let b = s.before in omega (arith, e, b)) }) in
      (let e = place-later rank time n ns is in omega (arith, e, rest))
  | inr is ↦
      let rest : place ≡ place_of rank (suc time) ns = stands_once rank (suc time) ns place (record { within = (let w = s.within in omega arith); there = s.there; before = sym (often-elsewhere rank n (take place ns) is) ∙ s.before }) in
      (let e = place-elsewhere rank (suc time) n ns is in omega (arith, e, rest))
]

-- a place's turn is one of the times that its rank stands there
pub turn_below : (ns : List Neighbour) (place : ℕ) → place < length ns → turn ns place < often (rank_at ns place) ns
turn_below ns place l =
    let rank = rank_at ns place in
    let here = one-here rank (get_or ns place no_neighbour) (eq-eqb rank rank refl) in
    omega (arith, here, sum_by_more_le (one rank) ns place no_neighbour l, length-filter (has_rank rank) ns, length-filter (has_rank rank) (take place ns))

-- what stands after the first so many places
pub place-after : (rank p : ℕ) (ns : List Neighbour) → p ≤ length ns → place_of rank (often rank (take p ns)) ns ≡ p + place_of rank 0 (drop p ns)
place-after rank zero ns l = let e : place_of rank 0 ns ≡ 0 + place_of rank 0 ns = omega arith in e
place-after rank (suc p) [] l = absurd (omega arith)
place-after rank (suc p) (n ∷ ns) l =
    let rest : place_of rank (often rank (take p ns)) ns ≡ p + place_of rank 0 (drop p ns) = place-after rank p ns (omega arith) in
    let more : 1 + place_of rank (often rank (take p ns)) ns ≡ suc p + place_of rank 0 (drop p ns) = omega (arith, rest) in
    elim (cases_Bool (has_rank rank n)) [
      | inl is ↦
          let e : often rank (n ∷ take p ns) ≡ suc (often rank (take p ns)) = (let f = often-here rank n (take p ns) is in omega (arith, f)) in
          ap (λ (t : ℕ). place_of rank t (n ∷ ns)) e ∙ place-later rank (often rank (take p ns)) n ns is ∙ more
      | inr is ↦ ap (λ (t : ℕ). place_of rank t (n ∷ ns)) (often-elsewhere rank n (take p ns) is) ∙ place-elsewhere rank (often rank (take p ns)) n ns is ∙ more
    ]

-- one more place
pub often-more : (rank p : ℕ) (ns : List Neighbour) → p < length ns → rank_at ns p ≡ rank → often rank (take (p + 1) ns) ≡ often rank (take p ns) + 1
often-more rank p ns l there = omega (arith, length-filter_more (has_rank rank) ns p no_neighbour l, one-here rank (get_or ns p no_neighbour) (eq-eqb _ _ there))

pub often-kept : (rank p : ℕ) (ns : List Neighbour) → p < length ns → (rank_at ns p ≡ rank → ⊥) → often rank (take (p + 1) ns) ≡ often rank (take p ns)
often-kept rank p ns l other = omega (arith, length-filter_more (has_rank rank) ns p no_neighbour l, one-elsewhere rank (get_or ns p no_neighbour) (ne_eqb _ _ other))
