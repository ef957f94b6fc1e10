-- Pieces of rows, of which those at some places change.
use Rattle.std.proofs.Common.{◌≡◌, ◌==◌, ℕ, zero, suc, cond, true, false, T, Option, Some, None, List, [], ◌∷◌, ◌++◌, map, set, refl, sym, ap, ◌∙◌, subst, arith}
use Rattle.std.proofs.lemmas.Bool.Decides.{nat_tests}
use Rattle.std.specs.Cmp.{nat_cmp_total, unsigned_tied}
use Rattle.std.specs.FinMap.{entries, entries_sorted, entries-from_sorted, get, get-insert}
use Rattle.join_core.specs.laws.Cases.{answer, yes, no}
use Rattle.join_nest.specs.Placed.{rise_from, set_value, set_values, taken, values_in, with_values, with_values_under}
use Rattle.join_nest.specs.Seen.{seen}
use Rattle.join_nest.proofs.Exchanges.{exchanged_back, taken_places}
use Rattle.join_nest.proofs.RaisedPlaces.{set_more, sorted_values}
use Rattle.mpx_name.specs.Order.{name_cmp}
use Rattle.mpx_board.specs.Parts.{AcksView, OfProcesses}
use Rattle.mpx_format.specs.declared.kept.KeptAcks.{KeptAcks}
use Rattle.mpx_format.specs.Kept.{AreKept, ArePieces, Row, pieces_of, rows_of}

-- ONE PLACE MORE

module _ {K V : Type 0} where
  -- the key there
  abbrev key_at : List (K × V) → K → ℕ → K
  key_at [] k at = k
  key_at (e ∷ es) k zero = e.0
  key_at (e ∷ es) k (suc at) = key_at es k at

  set_there : (es : List (K × V)) (k : K) (at : ℕ) (v : V) → set es at (key_at es k at, v) ≡ set_value es at v
  set_there [] k at v = refl
  set_there (e ∷ es) k zero v = refl
  set_there (e ∷ es) k (suc at) v = ap (λ l. e ∷ l) (set_there es k at v)

  no_entries : (cs : List (ℕ × V)) → set_values {K = K} [] cs ≡ []
  no_entries [] = refl
  no_entries (c ∷ cs) = no_entries cs

-- values at these places and, at last, at this place
record Parted {V : Type 0} (values : List (ℕ × V)) (places : List ℕ) (place : ℕ) : Type 0 where
  before : List (ℕ × V)
  last : V
  is : values ≡ before ++ (place, last) ∷ []
  same : map (λ c. c.0) before ≡ places

parted : {V : Type 0} (values : List (ℕ × V)) (places : List ℕ) (place : ℕ) → map (λ c. c.0) values ≡ places ++ place ∷ [] → Parted values places place
parted [] [] place e = absurd cc
parted [] (q ∷ places) place e = absurd cc
parted (v ∷ []) [] place e =
    let at : v.0 ≡ place = cc in
    record { before = []; last = v.1; is = ap (λ (p : ℕ). (p, v.1) ∷ []) at; same = refl }
parted (v ∷ w ∷ values) [] place e = absurd cc
parted (v ∷ values) (q ∷ places) place e =
    let at : v.0 ≡ q = cc in
    let rest : map (λ c. c.0) values ≡ places ++ place ∷ [] = cc in
    let p = parted values places place rest in
    record { before = v ∷ p.before; last = p.last; is = ap (λ l. v ∷ l) p.is; same = λ i. at i ∷ p.same i }

-- once the rows at these places have changed
abbrev pub Forgotten : List (List ℕ) → List (List ℕ) → List ℕ → Type 0
Forgotten old new places = (rows : List Row) (values : List (ℕ × OfProcesses ℕ)) → map (λ c. c.0) values ≡ places → ArePieces old rows → ArePieces new (set_values rows values)

pub none_forgotten : (pieces : List (List ℕ)) → Forgotten pieces pieces []
none_forgotten pieces rows [] e h = h
none_forgotten pieces rows (v ∷ values) e h = absurd cc

pub one_forgotten : (old now new : List (List ℕ)) (places : List ℕ) (place : ℕ) → Forgotten old now places
    → ((rows : List Row) (row : Row) → ArePieces now rows → ArePieces new (set rows place row)) → Forgotten old new (places ++ place ∷ [])
one_forgotten old now new places place so_far one rows values e h =
    let p = parted values places place e in
    let made = set_values rows p.before in
    let row : Row = (key_at made [] place, p.last) in
    let is : set made place row ≡ set_values rows values = set_there made [] place p.last ∙ sym (set_more rows p.before ((place, p.last) ∷ [])) ∙ ap (set_values rows) (sym p.is) in
    subst (ArePieces new) is (one made row (so_far rows p.before p.same h))

-- OF ONE PROCESS

pub seen_places : {J V : Type 0} (view : J → V) (cs : List (ℕ × J)) → map (λ c. c.0) (seen view cs) ≡ map (λ c. c.0) cs
seen_places view [] = refl
seen_places view (c ∷ cs) = ap (λ l. c.0 ∷ l) (seen_places view cs)

module _ (acks : OfProcesses AcksView) (p : ℕ) (values : List (ℕ × OfProcesses ℕ)) where
  others_in : (o : Option AcksView) (q : ℕ) → (q == p) ≡ false → get (values_in acks p values o) q ≡ get acks q
  others_in None q n = refl
  others_in (Some m) q n = get-insert nat_cmp_total acks p (with_values m values) q ∙ ap (λ b. cond b (Some (with_values m values)) (get acks q)) (unsigned_tied q p ∙ n)

  others_under : (q : ℕ) → (q == p) ≡ false → get (with_values_under acks p values) q ≡ get acks q
  others_under q n = others_in (get acks p) q n

  rows_in : (o : Option AcksView) → get acks p ≡ o → rows_of (get (values_in acks p values o) p) ≡ set_values (rows_of o) values
  rows_in None e = ap rows_of e ∙ sym (no_entries values)
  rows_in (Some m) e =
      let same : (p == p) ≡ true = grind (arith, nat_tests) in
      ap rows_of (get-insert nat_cmp_total acks p (with_values m values) p ∙ ap (λ b. cond b (Some (with_values m values)) (get acks p)) (unsigned_tied p p ∙ same))
      ∙ entries-from_sorted name_cmp (set_values (entries m) values) (subst T (sym (sorted_values name_cmp (entries m) values)) (entries_sorted m))

  rows_under : rows_of (get (with_values_under acks p values) p) ≡ set_values (rows_of (get acks p)) values
  rows_under = rows_in (get acks p) refl

module _ (k l : List KeptAcks) (p : ℕ) (values : List (ℕ × OfProcesses ℕ)) (at : Forgotten (pieces_of k p) (pieces_of l p) (map (λ c. c.0) values)) (others : (q : ℕ) → (q == p) ≡ false → pieces_of l q ≡ pieces_of k q) where
  -- what is kept, once it says so
  pub places_stored : (old new : OfProcesses AcksView) → new ≡ with_values_under old p values → AreKept k old → AreKept l new
  places_stored old new is h q = elim (answer (q == p)) [
    | yes t ↦
        let here : p ≡ q = grind (arith, nat_tests) in
        let rows : set_values (rows_of (get old p)) values ≡ rows_of (get new p) = sym (ap (λ m. rows_of (get m p)) is ∙ rows_under old p values) in
        subst (λ i. ArePieces (pieces_of l i) (rows_of (get new i))) here
        (subst (ArePieces (pieces_of l p)) rows (at (rows_of (get old p)) values refl (h p)))
    | no n ↦
        subst (λ ps. ArePieces ps (rows_of (get new q))) (sym (others q n))
        (subst (λ o. ArePieces (pieces_of k q) (rows_of o)) (sym (ap (λ m. get m q) is ∙ others_under old p values q n)) (h q))
  ]

  -- and once it says again what it said
  pub places_unstored : rise_from 0 values ≡ true → (old new : OfProcesses AcksView) → old ≡ with_values_under new p values → AreKept k old → AreKept l new
  places_unstored rises old new is h q = elim (answer (q == p)) [
    | yes t ↦
        let here : p ≡ q = grind (arith, nat_tests) in
        let es = rows_of (get new p) in
        let rows : rows_of (get old p) ≡ set_values es values = ap (λ m. rows_of (get m p)) is ∙ rows_under new p values in
        subst (λ i. ArePieces (pieces_of l i) (rows_of (get new i))) here
        (subst (ArePieces (pieces_of l p)) (exchanged_back values 0 es rises)
        (at (set_values es values) (taken es values) (taken_places values es) (subst (ArePieces (pieces_of k p)) rows (h p))))
    | no n ↦
        subst (λ ps. ArePieces ps (rows_of (get new q))) (sym (others q n))
        (subst (λ o. ArePieces (pieces_of k q) (rows_of o)) (sym (sym (others_under new p values q n) ∙ sym (ap (λ m. get m q) is))) (h q))
  ]
