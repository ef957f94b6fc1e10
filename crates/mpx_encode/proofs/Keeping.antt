-- Rows that are kept as they are spelled, in pieces.
use Rattle.std.proofs.Common.{◌≡◌, ◌==◌, ℕ, zero, suc, ◌+◌, ◌-◌, ◌*◌, ◌<◌, ◌≤◌, Bool, true, false, ◌&&◌, List, [], ◌∷◌, ◌++◌, length, take, drop, set, get_or, Option, Some, None, sym, ap, ◌∙◌, subst, arith}
use Rattle.std.specs.Prelude.{IfSome}
use Rattle.std.specs.Cmp.{nat_cmp_total, tied_itself}
use Rattle.std.specs.FinMap.{entries, entries_sorted, get, get-entries}
use Rattle.std.specs.List.{flat_map, list_all}
use Rattle.std.proofs.lemmas.Bool.{eqb-true}
use Rattle.std.proofs.lemmas.Grind.{flat_map-append}
use Rattle.std.proofs.lemmas.List.{take-append-drop, take_all, drop-drop}
use Rattle.std.proofs.lemmas.List.Folds.{list_all-append}
use Rattle.join_core.specs.laws.Cases.{answer, yes, no, first_true, second_true}
use Rattle.join_nest.specs.Seen.{seen}
use Rattle.join_nest.proofs.Places.{find_at}
use Rattle.join_nest.proofs.Steps.{length_seen}
use Rattle.mpx_board.specs.Parts.{AcksView, OfProcesses}
use Rattle.mpx_format.specs.declared.kept.KeptAcks.{KeptAcks}
use Rattle.mpx_format.specs.Kept.{AreKept, ArePieces, IsPiece, Row, pieces_of, rows_of}
use Rattle.mpx_encode.specs.Keeping.{AreEntriesKept}
use Rattle.mpx_encode.specs.Room.{room_left}
use Rattle.mpx_encode.proofs.Loops.{seen_at}
use Rattle.mpx_encode.proofs.Rooms.{room_stops_at, room_behind}

-- THE FIRST AND THOSE BEHIND THEM

module _ {X : Type 0} (n : ℕ) (xs : List X) where
  -- bytes of so many elements, and of those behind them
  spelled_apart : (s : X → List ℕ) → flat_map s xs ≡ flat_map s (take n xs) ++ flat_map s (drop n xs)
  spelled_apart s = ap (flat_map s) (sym (take-append-drop n xs)) ∙ flat_map-append s (take n xs) (drop n xs)

  -- a test that so many elements and those behind them pass
  passed_apart : (p : X → Bool) → list_all p xs ≡ (list_all p (take n xs) && list_all p (drop n xs))
  passed_apart p = ap (list_all p) (sym (take-append-drop n xs)) ∙ list_all-append p (take n xs) (drop n xs)

  pub passed_first : (p : X → Bool) → list_all p xs ≡ true → list_all p (take n xs) ≡ true
  passed_first p h = first_true (list_all p (take n xs)) (list_all p (drop n xs)) (sym (passed_apart p) ∙ h)

  pub passed_behind : (p : X → Bool) → list_all p xs ≡ true → list_all p (drop n xs) ≡ true
  passed_behind p h = second_true (list_all p (take n xs)) (list_all p (drop n xs)) (sym (passed_apart p) ∙ h)

  -- where so many elements don't fit, all of them don't
  pub stops_first : (s : X → List ℕ) (room : ℕ) (first : List X) → first ≡ take n xs → room_left (length (flat_map s first)) room ≡ None → room_left (length (flat_map s xs)) room ≡ None
  stops_first s room first is e =
      let stops : room_left (length (flat_map s (take n xs))) room ≡ None = ap (λ l. room_left (length (flat_map s l)) room) (sym is) ∙ e in
      ap (λ l. room_left (length l) room) (spelled_apart s) ∙ room_stops_at (flat_map s (take n xs)) (flat_map s (drop n xs)) room stops

  -- behind them, the others have what is left
  pub goes_on_behind : (s : X → List ℕ) (room left : ℕ) (first behind : List X) → first ≡ take n xs → behind ≡ drop n xs → room_left (length (flat_map s first)) room ≡ Some left
      → room_left (length (flat_map s xs)) room ≡ room_left (length (flat_map s behind)) left
  goes_on_behind s room left first behind is are e =
      let goes : room_left (length (flat_map s (take n xs))) room ≡ Some left = ap (λ l. room_left (length (flat_map s l)) room) (sym is) ∙ e in
      ap (λ l. room_left (length l) room) (spelled_apart s) ∙ room_behind (flat_map s (take n xs)) (flat_map s (drop n xs)) room left goes ∙ ap (λ l. room_left (length (flat_map s l)) left) (sym are)

-- PIECES

-- a piece more, of which nothing is known
pub one_unknown : (ps : List (List ℕ)) (rows : List Row) → ArePieces ps rows → ArePieces (ps ++ [] ∷ []) rows
unfolding ArePieces
one_unknown [] rows h = (tt, tt)
one_unknown (p ∷ ps) rows h = (h.0, one_unknown ps (drop 8 rows) h.1)

-- a piece is kept
pub piece_kept : (k : ℕ) (ps : List (List ℕ)) (p : List ℕ) (rows : List Row) → IsPiece p (take 8 (drop (8 * k) rows)) → ArePieces ps rows → ArePieces (set ps k p) rows
unfolding ArePieces
piece_kept k [] p rows is h = tt
piece_kept zero (q ∷ ps) p rows is h = (is, h.1)
piece_kept (suc k) (q ∷ ps) p rows is h =
    let at : 8 + 8 * k ≡ 8 * suc k = omega arith in
    (h.0, piece_kept k ps p (drop 8 rows) (subst (λ l. IsPiece p (take 8 l)) (ap (λ n. drop n rows) (sym at) ∙ sym (drop-drop (8 * k) 8 rows)) is) h.1)

-- the rows behind so many pieces, and one more
pub rows_behind : (k : ℕ) (rest rows : List Row) → rest ≡ drop (8 * k) rows → drop 8 rest ≡ drop (8 * (k + 1)) rows
rows_behind k rest rows is =
    let at : 8 * k + 8 ≡ 8 * (k + 1) = omega arith in
    ap (drop 8) is ∙ drop-drop 8 (8 * k) rows ∙ ap (λ n. drop n rows) at

-- the first piece, and those behind it
pub first_piece : (ps : List (List ℕ)) (p : List ℕ) (rows first : List Row) → 1 ≤ length ps → p ≡ get_or ps 0 p → first ≡ take 8 rows → ArePieces ps rows → IsPiece p first
unfolding ArePieces
first_piece [] p rows first some is are h = absurd (omega (arith, some))
first_piece (q ∷ ps) p rows first some is are h = subst (IsPiece p) (sym are) (subst (λ b. IsPiece b (take 8 rows)) (sym is) h.0)

pub pieces_behind : (ps : List (List ℕ)) (rows behind : List Row) → 1 ≤ length ps → behind ≡ drop 8 rows → ArePieces ps rows → ArePieces (take (length ps - 1) (drop 1 ps)) behind
unfolding ArePieces
pieces_behind [] rows behind some are h = absurd (omega (arith, some))
pieces_behind (q ∷ ps) rows behind some are h =
    let all : take (length (q ∷ ps) - 1) ps ≡ ps = take_all (length (q ∷ ps) - 1) ps (omega arith) in
    subst (ArePieces (take (length (q ∷ ps) - 1) ps)) (sym are) (subst (λ l. ArePieces l (drop 8 rows)) (sym all) h.1)

-- ENTRIES

-- what holds where there is something
pub if_some : {A : Type 0} (P Q : A → Type 0) (o : Option A) → ((a : A) → P a → Q a) → IfSome o P → IfSome o Q
if_some P Q None so h = h
if_some P Q (Some a) so h = so a h

-- what is kept of one entry
pub kept_at : {J : Type 0} (view : J → AcksView) (k : List KeptAcks) (es : List (ℕ × J)) (i : ℕ) (e : ℕ × J) (ps : List (List ℕ)) → i < length es → e ≡ get_or es i e → ps ≡ pieces_of k e.0 → AreEntriesKept k (seen view es) → ArePieces ps (entries (view e.1))
kept_at view k es i e ps lt is are h =
    let d : ℕ × AcksView = (e.0, view e.1) in
    let within : i < length (seen view es) = omega (arith, lt, length_seen view es) in
    subst (λ l. ArePieces l (entries (view e.1))) (sym are) (subst (λ (x : ℕ × AcksView). ArePieces (pieces_of k x.0) (entries x.1)) (sym (seen_at view es i e lt is)) (h i d within))

get_at : (m : OfProcesses AcksView) (i : ℕ) (d : ℕ × AcksView) → i < length (entries m) → get m (get_or (entries m) i d).0 ≡ Some (get_or (entries m) i d).1
get_at m i d lt = let q = (get_or (entries m) i d).0 in get-entries m q ∙ find_at nat_cmp_total q (entries m) i d (entries_sorted m) lt (tied_itself nat_cmp_total q)

-- what is kept of all is kept of each entry
pub entries_kept : (m : OfProcesses AcksView) (k : List KeptAcks) (es : List (ℕ × AcksView)) → es ≡ entries m → AreKept k m → AreEntriesKept k es
entries_kept m k es are h =
    subst (AreEntriesKept k) (sym are) (λ i d lt. subst (λ o. ArePieces (pieces_of k (get_or (entries m) i d).0) (rows_of o)) (get_at m i d lt) (h (get_or (entries m) i d).0))

module _ {J : Type 0} (view : J → AcksView) (m : OfProcesses AcksView) (es : List (ℕ × J)) (i : ℕ) (e : ℕ × J) (are : seen view es ≡ entries m) (lt : i < length es) (is : e ≡ get_or es i e) where
  -- what a process says, by its entry
  there : get m e.0 ≡ Some (view e.1)
  there =
      let d : ℕ × AcksView = (e.0, view e.1) in
      let at : d ≡ get_or (entries m) i d = seen_at view es i e lt is ∙ ap (λ (l : List (ℕ × AcksView)). get_or l i d) are in
      let within : i < length (entries m) = omega (arith, lt, length_seen view es, ap length are) in
      ap (λ (x : ℕ × AcksView). get m x.0) at ∙ get_at m i d within ∙ ap (λ (x : ℕ × AcksView). Some x.1) (sym at)

  -- what is kept of it
  pub kept_of : (k : List KeptAcks) → AreKept k m → ArePieces (pieces_of k e.0) (entries (view e.1))
  kept_of k h = subst (λ o. ArePieces (pieces_of k e.0) (rows_of o)) there (h e.0)

  -- it is kept anew, and all others as they were
  pub kept_anew : (old new : List KeptAcks) → ArePieces (pieces_of new e.0) (entries (view e.1)) → ((q : ℕ) → (q == e.0) ≡ false → pieces_of new q ≡ pieces_of old q) → AreKept old m → AreKept new m
  kept_anew old new made others h q = elim (answer (q == e.0)) [
    | yes t ↦ subst (λ p. ArePieces (pieces_of new p) (rows_of (get m p))) (sym (eqb-true q e.0 t)) (subst (λ o. ArePieces (pieces_of new e.0) (rows_of o)) (sym there) made)
    | no n ↦ subst (λ ps. ArePieces ps (rows_of (get m q))) (sym (others q n)) (h q)
  ]
