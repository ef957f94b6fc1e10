-- Rows that are kept as they are spelled: those that stand at the front as they are kept change nothing, and those that change are forgotten.
use Rattle.std.proofs.Common.{◌≡◌, ◌==◌, ℕ, zero, suc, ◌+◌, ◌-◌, ◌*◌, ◌≤◌, ◌<◌, Bool, true, false, ◌&&◌, cond, List, [], ◌∷◌, ◌++◌, length, min, take, drop, set, get_or, inl, inr, Option, Some, Ok, refl, sym, ap, ◌∙◌, subst, arith, append_assoc}
use Rattle.std.proofs.lemmas.List.{drop-map, length-drop, length-map, length-set, length-take-le, map-set, take-append-le, take-map, take_min}
use Rattle.std.proofs.lemmas.List.Edits.{length-insert}
use Rattle.std.proofs.Math.Seq.{drop-drop, take-take}
use Rattle.std.specs.List.{flat_map, list_all}
use Rattle.std.specs.declared.cmp.Ordering.{Ordering}
use Rattle.std.specs.Ordering.{eq_by_cmp, nat_cmp}
use Rattle.std.specs.Cmp.{IsTotalOrder, nat_cmp_total, unsigned_tied}
use Rattle.std.specs.FinMap.{IsAntisymmetric, entries, find, get, is_sorted, nat_cmp-IsAntisymmetric}
use Rattle.join_core.specs.laws.Cases.{answer, yes, no, is_tied, first_true, second_true}
use Rattle.join_core.specs.Joins.{Joining, JoinLaws}
use Rattle.join_nest.specs.Optional.{option_join}
use Rattle.join_nest.specs.Seen.{keyed_view, seen}
use Rattle.join_nest.proofs.Steps.{find_seen}
use Rattle.join_nest.proofs.Views.{get_view}
use Rattle.mpx_format.specs.Format.{Format}
use Rattle.mpx_format.specs.declared.kept.KeptAcks.{KeptAcks}
use Rattle.mpx_format.specs.Kept.{AreKept, ArePieces, IsPiece, Row, pieces_of, row_fits, row_spelled, rows_of}
use Rattle.mpx_format.proofs.Rows.{behind}
use Rattle.mpx_name.specs.Name.{Name}
use Rattle.mpx_board.specs.Parts.{AcksView, OfProcesses}
use Rattle.mpx_decode.specs.Raising.{IsChangedAt, IsJoinedAt, RaisesRows, row}
use Rattle.mpx_decode.proofs.OneRow.{found, now_found, sorted_at}

-- ONE PIECE

-- the piece at a place spells the rows from there on
pub piece_at : (k : ℕ) (ps : List (List ℕ)) (rows : List Row) (bytes : List ℕ) → k < length ps → bytes ≡ get_or ps k bytes → ArePieces ps rows → IsPiece bytes (take 8 (drop (8 * k) rows))
unfolding ArePieces
piece_at k [] rows bytes lt e h = absurd (omega (arith, lt))
piece_at zero (p ∷ ps) rows bytes lt e h =
    let none : 0 ≡ 8 * zero = omega arith in
    subst (λ n. IsPiece bytes (take 8 (drop n rows))) none (subst (λ b. IsPiece b (take 8 rows)) (sym e) h.0)
piece_at (suc k) (p ∷ ps) rows bytes lt e h =
    let far : 8 + 8 * k ≡ 8 * suc k = omega arith in
    subst (λ l. IsPiece bytes (take 8 l)) (drop-drop (8 * k) 8 rows ∙ ap (λ n. drop n rows) far) (piece_at k ps (drop 8 rows) bytes (omega (arith, lt)) e h.1)

-- a piece with bytes spells its rows
pub piece_spelled : (bytes : List ℕ) (rows : List Row) → 0 < length bytes → IsPiece bytes rows → (bytes ≡ flat_map row_spelled rows) × (list_all row_fits rows ≡ true)
piece_spelled [] rows some h = absurd (omega (arith, some))
piece_spelled (b ∷ bytes) rows some h = h

-- ROWS THAT CHANGE NOTHING

-- the entry at a place
at_place : {A : Type 0} (es : List A) (i : ℕ) → i < length es → (e : A) × (e ≡ get_or es i e)
at_place [] i lt = absurd (omega (arith, lt))
at_place (e ∷ es) zero lt = (e, refl)
at_place (x ∷ es) (suc i) lt = at_place es i (omega (arith, lt))

module _ {K J V : Type 0} {R : K → K → Ordering} (o : IsTotalOrder R) (exact : IsAntisymmetric R) (view : J → V) (key : Format K) (value : Format V) {j : Joining V} (p : JoinLaws j)
    (again : (v : K × V) (rest : List ℕ) → (key.fits v.0 && value.fits v.1) ≡ true → (row key value).read ((key.spelling v.0 ++ value.spelling v.1) ++ rest) ≡ Ok (v, rest))
    (es : List (K × J)) (h : is_sorted R es ≡ true) where
  -- a value joined with itself
  joined_there : (i : ℕ) (e : K × J) → i < length es → e ≡ get_or es i e → IsJoinedAt R view es es j e.0 (view e.1)
  joined_there i e lt is q =
      let there = found o exact view es h i e e.1 lt is in
      elim (answer (eq_by_cmp R q e.0)) [
        | yes t ↦
            let same : q ≡ e.0 = exact q e.0 (is_tied _ t) in
            ap (λ k. find R k (seen view es)) same ∙ there ∙ ap Some (sym (p.idempotent (view e.1)))
            ∙ sym (ap (λ (f : Option V). option_join j f (Some (view e.1))) there)
            ∙ sym (ap (λ b. cond b (option_join j (find R e.0 (seen view es)) (Some (view e.1))) (find R q (seen view es))) t)
        | no n ↦ sym (ap (λ b. cond b (option_join j (find R e.0 (seen view es)) (Some (view e.1))) (find R q (seen view es))) n)
      ]

  abbrev spelled : K × V → List ℕ
  spelled e = key.spelling e.0 ++ value.spelling e.1

  abbrev fits : K × V → Bool
  fits e = key.fits e.0 && value.fits e.1

  pub same_raised : (n i : ℕ) (rest : List ℕ) → i + n ≤ length es → list_all fits (take n (seen view (drop i es))) ≡ true → RaisesRows R view (row key value) j n (flat_map spelled (take n (seen view (drop i es))) ++ rest) rest es es
  same_raised zero i rest le all = (refl, refl)
  same_raised (suc n) i rest le all =
      let x = at_place es i (omega (arith, le)) in
      let e = x.0 in
      let first : (K × V) = (e.0, view e.1) in
      let more = take n (seen view (drop (i + 1) es)) in
      let split : take (suc n) (seen view (drop i es)) ≡ first ∷ more = ap (take (suc n)) (behind view es i e (omega (arith, le)) x.1) in
      let pass : (fits first && list_all fits more) ≡ true = sym (ap (list_all fits) split) ∙ all in
      let after = flat_map spelled more ++ rest in
      let bytes : flat_map spelled (take (suc n) (seen view (drop i es))) ++ rest ≡ spelled first ++ after = ap (λ l. flat_map spelled l ++ rest) split ∙ append_assoc (spelled first) (flat_map spelled more) rest in (
        after,
        es,
        record {
          key = e.0;
          value = view e.1;
          read = ap (row key value).read bytes ∙ again first after (first_true (fits first) (list_all fits more) pass);
          joined = joined_there i e (omega (arith, le)) x.1;
        },
        same_raised n (i + 1) rest (omega (arith, le)) (second_true (fits first) (list_all fits more) pass),
      )

-- ROWS THAT CHANGE

module _ {J : Type 0} (view : J → OfProcesses ℕ) (old new : List (Name × J)) (after : ℕ) (c : IsChangedAt after old new) (ps qs : List (List ℕ)) (h : ArePieces ps (seen view old)) where
  place : after - 1 ≡ c.at
  place = let is = c.next in omega (arith, is)

  -- where there are as many rows as before, one was changed in place
  pub changed_kept : length new ≡ length old → ((rows : List Row) (row : Row) → ArePieces ps rows → ArePieces qs (set rows (after - 1) row)) → ArePieces qs (seen view new)
  changed_kept same forget = elim c.made [
    | inl made ↦
        let put = forget (seen view old) (c.entry.0, view c.entry.1) h in
        subst (λ rows. ArePieces qs rows)
        (ap (λ i. set (seen view old) i (c.entry.0, view c.entry.1)) place ∙ sym (map-set (λ (e : Name × J). (e.0, view e.1)) old c.at c.entry) ∙ ap (seen view) (sym made))
        put
    | inr made ↦
        let more = length-insert old c.at c.entry c.within in
        let long = ap length made in
        absurd (omega (arith, more, long, same))
  ]

  -- where there are others, one was put in, and those before it are as they were
  pub put_kept : (length new ≡ length old → ⊥) → ((rows fresh : List Row) → take (after - 1) fresh ≡ take (after - 1) rows → ArePieces ps rows → ArePieces qs fresh) → ArePieces qs (seen view new)
  put_kept other forget = elim c.made [
    | inl made ↦ absurd (other (ap length made ∙ length-set old c.at c.entry))
    | inr made ↦
        let few : c.at ≤ length (take c.at old) = let long = length-take-le c.at old c.within in omega (arith, long) in
        let front : take c.at new ≡ take c.at old = ap (take c.at) made ∙ take-append-le c.at (take c.at old) (c.entry ∷ drop c.at old) few ∙ take-take c.at c.at old (omega arith) in
        let rows : take c.at (seen view new) ≡ take c.at (seen view old) =
        take-map (λ (e : Name × J). (e.0, view e.1)) c.at new ∙ ap (seen view) front ∙ sym (take-map (λ (e : Name × J). (e.0, view e.1)) c.at old) in
        forget (seen view old) (seen view new) (ap (λ i. take i (seen view new)) place ∙ rows ∙ ap (λ i. take i (seen view old)) (sym place)) h
  ]

-- the rows of a piece are as many as there are from its place on, at most eight
pub shorter : {K J V : Type 0} (view : J → V) (es : List (K × J)) (at n : ℕ) → at ≤ length es → n ≡ min (length es - at) 8 → take 8 (drop at (seen view es)) ≡ take n (seen view (drop at es))
shorter {K} {J} view es at n le is =
    let rows = seen view (drop at es) in
    let long : length rows ≡ length es - at = length-map (drop at es) (λ (e : K × J). (e.0, view e.1)) ∙ length-drop at es in
    let few : n ≡ min 8 (length rows) = omega (arith, le, is, long) in
    ap (take 8) (drop-map _ at es) ∙ sym (take_min 8 rows) ∙ ap (λ k. take k rows) (sym few)

-- past the last process nothing is kept
pub no_pieces : (kept : List KeptAcks) (p : ℕ) → length kept ≤ p → pieces_of kept p ≡ []
no_pieces [] p le = refl
no_pieces (k ∷ kept) zero le = absurd (omega (arith, le))
no_pieces (k ∷ kept) (suc p) le = no_pieces kept p (omega (arith, le))

-- ONE PROCESS

module _ {J : Type 0} (view : J → AcksView) (es : List (ℕ × J)) (h : is_sorted nat_cmp es ≡ true) (i : ℕ) (e : ℕ × J) (lt : i < length es) (is : e ≡ get_or es i e) where
  -- what the process at a place says
  said_there : get (keyed_view nat_cmp view es) e.0 ≡ Some (view e.1)
  said_there = get_view nat_cmp view es e.0 h ∙ sym (find_seen nat_cmp view e.0 es) ∙ found nat_cmp_total nat_cmp-IsAntisymmetric view es h i e e.1 lt is

  pub kept_there : (k : List KeptAcks) → AreKept k (keyed_view nat_cmp view es) → ArePieces (pieces_of k e.0) (entries (view e.1))
  kept_there k kept = subst (λ o. ArePieces (pieces_of k e.0) (rows_of o)) said_there (kept e.0)

  module _ (w : J) where
    said_now : (q : ℕ) → get (keyed_view nat_cmp view (set es i (e.0, w))) q ≡ cond (q == e.0) (Some (view w)) (get (keyed_view nat_cmp view es) q)
    said_now q =
        get_view nat_cmp view (set es i (e.0, w)) q (sorted_at nat_cmp_total nat_cmp-IsAntisymmetric view es h i e w lt is)
        ∙ sym (find_seen nat_cmp view q (set es i (e.0, w)))
        ∙ now_found nat_cmp_total nat_cmp-IsAntisymmetric view es h i e w lt is q
        ∙ ap (λ b. cond b (Some (view w)) (find nat_cmp q (seen view es))) (unsigned_tied q e.0)
        ∙ ap (λ o. cond (q == e.0) (Some (view w)) o) (find_seen nat_cmp view q es ∙ sym (get_view nat_cmp view es q h))

    -- one process says something else, and all others what they said
    pub kept_now : (k l : List KeptAcks) → AreKept k (keyed_view nat_cmp view es) → ArePieces (pieces_of l e.0) (entries (view w)) → ((p : ℕ) → (p == e.0) ≡ false → pieces_of l p ≡ pieces_of k p) → AreKept l (keyed_view nat_cmp view (set es i (e.0, w)))
    kept_now k l kept here others q = elim (answer (q == e.0)) [
      | yes t ↦
          let same : q ≡ e.0 = nat_cmp-IsAntisymmetric q e.0 (is_tied _ (unsigned_tied q e.0 ∙ t)) in
          let says = said_now q ∙ ap (λ b. cond b (Some (view w)) (get (keyed_view nat_cmp view es) q)) t in
          subst (λ o. ArePieces (pieces_of l q) (rows_of o)) (sym says) (subst (λ p. ArePieces (pieces_of l p) (entries (view w))) (sym same) here)
      | no n ↦
          let says = said_now q ∙ ap (λ b. cond b (Some (view w)) (get (keyed_view nat_cmp view es) q)) n in
          subst (λ o. ArePieces (pieces_of l q) (rows_of o)) (sym says) (subst (λ ps. ArePieces ps (rows_of (get (keyed_view nat_cmp view es) q))) (sym (others q n)) (kept q))
    ]
