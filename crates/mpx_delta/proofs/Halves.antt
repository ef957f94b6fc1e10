-- Entries taken by halves.
use Rattle.std.proofs.Common.{◌≡◌, ◌-◌, ℕ, Bool, true, List, [], ◌∷◌, ◌++◌, length, take, drop, get_or, refl, sym, ap, ◌∙◌, subst, length-drop, arith}
use Rattle.std.specs.Prelude.{All, ◌&&◌}
use Rattle.std.specs.List.{list_all}
use Rattle.std.specs.declared.cmp.Ordering.{Ordering}
use Rattle.std.specs.Ordering.{is_lt}
use Rattle.std.specs.FinMap.{is_sorted}
use Rattle.std.specs.FinMap.Entries.{below_all}
use Rattle.std.proofs.lemmas.List.{take-append-drop, take_all, map-append}
use Rattle.std.proofs.lemmas.List.Elements.{All-nil, All-cons, All-head, All-append}
use Rattle.std.proofs.lemmas.List.Folds.{list_all-append}
use Rattle.join_core.specs.laws.Cases.{both_true, first_true, second_true}
use Rattle.join_nest.specs.Seen.{seen}
use Rattle.mpx_board.specs.Boards.{Fact}
use Rattle.mpx_board.specs.declared.board.Board.{Board}
use Rattle.mpx_delta.specs.Pieces.{AddsPieces, IsEntryRun}
use Rattle.mpx_delta.proofs.Adding.{All-front, All-back, adds_nothing, adds_then, adds_same}

-- the first so many, and the others
halves : {X : Type 0} (xs : List X) (h : ℕ) → take h xs ++ take (length xs - h) (drop h xs) ≡ xs
halves xs h = ap (λ l. take h xs ++ l) (take_all (length xs - h) (drop h xs) (omega (arith, length-drop h xs))) ∙ take-append-drop h xs

-- RUNS

module _ {K J : Type 0} (R : K → K → Ordering) where
  below_front : (k : K) (xs ys : List (K × J)) → below_all R k (xs ++ ys) ≡ true → below_all R k xs ≡ true
  below_front k [] ys h = refl
  below_front k (x ∷ xs) ys h = both_true (is_lt (R k x.0)) (below_all R k xs) (first_true (is_lt (R k x.0)) (below_all R k (xs ++ ys)) h) (below_front k xs ys (second_true (is_lt (R k x.0)) (below_all R k (xs ++ ys)) h))

  sorted_front : (xs ys : List (K × J)) → is_sorted R (xs ++ ys) ≡ true → is_sorted R xs ≡ true
  sorted_front [] ys h = refl
  sorted_front (x ∷ xs) ys h = both_true (below_all R x.0 xs) (is_sorted R xs) (below_front x.0 xs ys (first_true (below_all R x.0 (xs ++ ys)) (is_sorted R (xs ++ ys)) h)) (sorted_front xs ys (second_true (below_all R x.0 (xs ++ ys)) (is_sorted R (xs ++ ys)) h))

  sorted_back : (xs ys : List (K × J)) → is_sorted R (xs ++ ys) ≡ true → is_sorted R ys ≡ true
  sorted_back [] ys h = h
  sorted_back (x ∷ xs) ys h = sorted_back xs ys (second_true (below_all R x.0 (xs ++ ys)) (is_sorted R (xs ++ ys)) h)

  module _ {V : Type 0} (view : J → V) (test : K × V → Bool) where
    two_runs : (xs ys : List (K × J)) → IsEntryRun R view test (xs ++ ys) → IsEntryRun R view test xs × IsEntryRun R view test ys
    two_runs xs ys run =
        let pass : (list_all test (seen view xs) && list_all test (seen view ys)) ≡ true = sym (list_all-append test (seen view xs) (seen view ys)) ∙ ap (list_all test) (sym (map-append (λ e. (e.0, view e.1)) xs ys)) ∙ run.pass in (
          record { rising = sorted_front xs ys run.rising; pass = first_true (list_all test (seen view xs)) (list_all test (seen view ys)) pass },
          record { rising = sorted_back xs ys run.rising; pass = second_true (list_all test (seen view xs)) (list_all test (seen view ys)) pass },
        )

    -- a half of a run is one
    pub low_run : (es : List (K × J)) (h : ℕ) → IsEntryRun R view test es → IsEntryRun R view test (take h es)
    low_run es h run = (two_runs (take h es) (take (length es - h) (drop h es)) (subst (IsEntryRun R view test) (sym (halves es h)) run)).0

    pub high_run : (es : List (K × J)) (h : ℕ) → IsEntryRun R view test es → IsEntryRun R view test (take (length es - h) (drop h es))
    high_run es h run = (two_runs (take h es) (take (length es - h) (drop h es)) (subst (IsEntryRun R view test) (sym (halves es h)) run)).1

-- PIECES

module _ {K J V : Type 0} (view : J → V) (S : (Fact → Type 0) → K × V → Type 0) where
  both_seen : (xs ys : List (K × J)) (a b c : List Board) → AddsPieces (λ P. All (S P) (seen view xs)) a b → AddsPieces (λ P. All (S P) (seen view ys)) b c → AddsPieces (λ P. All (S P) (seen view (xs ++ ys))) a c
  both_seen xs ys a b c sooner later =
      let both : seen view (xs ++ ys) ≡ seen view xs ++ seen view ys = map-append (λ e. (e.0, view e.1)) xs ys in
      adds_then (λ P. All (S P) (seen view xs)) (λ P. All (S P) (seen view ys)) (λ P. All (S P) (seen view (xs ++ ys))) a b c sooner later
      (λ P x y. subst (All (S P)) (sym both) (All-append (S P) (seen view xs) (seen view ys) x y))
      (λ P all. All-front (S P) (seen view xs) (seen view ys) (subst (All (S P)) both all))
      (λ P all. All-back (S P) (seen view xs) (seen view ys) (subst (All (S P)) both all))

  -- the pieces of both halves
  pub adds_halves : (es : List (K × J)) (h : ℕ) (a b c : List Board) → AddsPieces (λ P. All (S P) (seen view (take h es))) a b → AddsPieces (λ P. All (S P) (seen view (take (length es - h) (drop h es)))) b c → AddsPieces (λ P. All (S P) (seen view es)) a c
  adds_halves es h a b c sooner later = subst (λ l. AddsPieces (λ P. All (S P) (seen view l)) a c) (halves es h) (both_seen (take h es) (take (length es - h) (drop h es)) a b c sooner later)

  -- none where there is no entry
  pub adds_none : (es : List (K × J)) (a : List Board) → length es ≡ 0 → AddsPieces (λ P. All (S P) (seen view es)) a a
  adds_none [] a none = adds_nothing (λ P. All (S P) []) a (λ P. All-nil (S P))
  adds_none (e ∷ es) a none = absurd (omega (arith, none))

  -- the pieces of an entry that stands alone
  pub adds_one : (es : List (K × J)) (x : K × J) (a b : List Board) → length es ≡ 1 → x ≡ get_or es 0 x → AddsPieces (λ P. S P (x.0, view x.1)) a b → AddsPieces (λ P. All (S P) (seen view es)) a b
  adds_one [] x a b one is adds = cc
  adds_one (e ∷ []) x a b one is adds = subst (λ y. AddsPieces (λ P. All (S P) ((y.0, view y.1) ∷ [])) a b) is
      (adds_same (λ P. S P (x.0, view x.1)) (λ P. All (S P) ((x.0, view x.1) ∷ [])) a b
      (λ P says. All-cons (S P) (x.0, view x.1) [] says (All-nil (S P)))
      (λ P all. All-head (S P) (x.0, view x.1) [] all) adds)
  adds_one (e ∷ f ∷ es) x a b one is adds = absurd (omega (arith, one))
