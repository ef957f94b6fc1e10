-- Pieces added one after another.
use Rattle.std.proofs.Common.{◌≡◌, ◌≤◌, ◌<◌, ◌+◌, ℕ, Bool, true, false, List, [], ◌∷◌, ◌++◌, length, map, take, get_or, nat_eq, nat_lt, Option, Some, None, refl, sym, ap, ◌∙◌, subst, arith}
use Rattle.std.specs.Prelude.{All, not, ◌||◌, IfSome}
use Rattle.std.specs.FinMap.{entries, len, len-entries}
use Rattle.std.proofs.lemmas.List.{take_more, take_all, nil_from_length}
use Rattle.std.proofs.lemmas.Bool.Decides.{nat_tests}
use Rattle.std.proofs.lemmas.Option.{same_Some}
use Rattle.std.proofs.lemmas.List.Elements.{All-nil, All-map, All-push, All-head, All-tail, All-cons}
use Rattle.join_core.specs.Flat.{FlatView, unknown, known, clash}
use Rattle.join_nest.specs.Seen.{seen}
use Rattle.mpx_name.specs.Name.{Name}
use Rattle.mpx_board.specs.Boards.{Fact, Front, Has, Stands, IsBoardBelow}
use Rattle.mpx_board.specs.Parts.{EntryView}
use Rattle.mpx_board.specs.Tidy.{is_unknown, is_bare}
use Rattle.mpx_board.specs.Looks.{look, parts_of}
use Rattle.mpx_board.specs.declared.board.Board.{Board}
use Rattle.mpx_format.specs.Encoding.{length_told}
use Rattle.mpx_delta.specs.Facts.{OnlyFactsOf, SaysHead}
use Rattle.mpx_delta.specs.Pieces.{IsPiece, AddsPieces, most_of_piece, has_head}

module _ {X : Type 0} (Q : X → Type 0) where
  pub All-front : (xs ys : List X) → All Q (xs ++ ys) → All Q xs
  All-front [] ys all = All-nil Q
  All-front (x ∷ xs) ys all = All-cons Q x xs (All-head Q x (xs ++ ys) all) (All-front xs ys (All-tail Q x (xs ++ ys) all))

  pub All-back : (xs ys : List X) → All Q (xs ++ ys) → All Q ys
  All-back [] ys all = all
  All-back (x ∷ xs) ys all = All-back xs ys (All-tail Q x (xs ++ ys) all)

  pub All-last : (xs : List X) (x : X) → All Q (xs ++ x ∷ []) → Q x
  All-last xs x all = All-head Q x [] (All-back xs (x ∷ []) all)

-- what is said of nothing is said
pub adds_nothing : (S : (Fact → Type 0) → Type 0) (bs : List Board) → ((P : Fact → Type 0) → S P) → AddsPieces S bs bs
adds_nothing S bs h = record { covers = λ d all. (all, h (Stands d)); only = λ w says all. all; fits = λ all. all }

-- one piece
pub adds_piece : (S : (Fact → Type 0) → Type 0) (bs : List Board) (b : Board) → IsPiece S b → AddsPieces S bs (bs ++ b ∷ [])
adds_piece S bs b piece = record {
  covers = λ d all. (All-front (λ b. IsBoardBelow (look b) d) bs (b ∷ []) all, piece.covers d (All-last (λ b. IsBoardBelow (look b) d) bs b all));
  only = λ w says all. All-push (λ b. OnlyFactsOf (look b) w) bs b all (piece.only w says);
  fits = λ all. All-push (λ b. length_told (parts_of b) ≤ most_of_piece) bs b all piece.fits;
}

-- some pieces and then others
pub adds_then : (S T U : (Fact → Type 0) → Type 0) (a b c : List Board) → AddsPieces S a b → AddsPieces T b c
    → ((P : Fact → Type 0) → S P → T P → U P) → ((P : Fact → Type 0) → U P → S P) → ((P : Fact → Type 0) → U P → T P) → AddsPieces U a c
adds_then S T U a b c s t join left right = record {
  covers = λ d all.
      let later = t.covers d all in
      let sooner = s.covers d later.0 in
      (sooner.0, join (Stands d) sooner.1 later.1);
  only = λ w says all. t.only w (right (Has w) says) (s.only w (left (Has w) says) all);
  fits = λ all. t.fits (s.fits all);
}

-- the pieces of one entry more
module _ {X : Type 0} (S : (Fact → Type 0) → X → Type 0) (xs : List X) where
  pub adds_more : (i : ℕ) (x : X) (a b c : List Board) → i < length xs → x ≡ get_or xs i x → AddsPieces (λ P. All (S P) (take i xs)) a b → AddsPieces (λ P. S P x) b c → AddsPieces (λ P. All (S P) (take (i + 1) xs)) a c
  adds_more i x a b c lt is sooner later =
      let more : take (i + 1) xs ≡ take i xs ++ x ∷ [] = take_more xs i x lt ∙ ap (λ y. take i xs ++ y ∷ []) (sym is) in
      adds_then (λ P. All (S P) (take i xs)) (λ P. S P x) (λ P. All (S P) (take (i + 1) xs)) a b c sooner later
      (λ P before here. subst (All (S P)) (sym more) (All-push (S P) (take i xs) x before here))
      (λ P all. All-front (S P) (take i xs) (x ∷ []) (subst (All (S P)) more all))
      (λ P all. All-last (S P) (take i xs) x (subst (All (S P)) more all))

-- the same said in other words
pub adds_same : (S T : (Fact → Type 0) → Type 0) (a b : List Board) → ((P : Fact → Type 0) → S P → T P) → ((P : Fact → Type 0) → T P → S P) → AddsPieces S a b → AddsPieces T a b
adds_same S T a b to from h = record {
  covers = λ d all. ((h.covers d all).0, to (Stands d) (h.covers d all).1);
  only = λ w says all. h.only w (from (Has w) says) all;
  fits = h.fits;
}

module _ {X Y : Type 0} (Q : Y → Type 0) (f : X → Y) where
  All-unmap : (xs : List X) → All Q (map f xs) → All (λ x. Q (f x)) xs
  All-unmap [] all = All-nil (λ x. Q (f x))
  All-unmap (x ∷ xs) all = All-cons (λ x. Q (f x)) x xs (All-head Q (f x) (map f xs) all) (All-unmap xs (All-tail Q (f x) (map f xs) all))

-- the pieces of all entries, once the loop is over
module _ {K J V : Type 0} (view : J → V) (S : (Fact → Type 0) → K × V → Type 0) where
  pub adds_all : (es : List (K × J)) (vs : List (K × V)) (i : ℕ) (a b : List Board) → length es ≤ i → seen view es ≡ vs → AddsPieces (λ P. All (λ e. S P (e.0, view e.1)) (take i es)) a b → AddsPieces (λ P. All (S P) vs) a b
  adds_all es vs i a b le is h = adds_same (λ P. All (λ e. S P (e.0, view e.1)) (take i es)) (λ P. All (S P) vs) a b
      (λ P all. subst (All (S P)) is (All-map (S P) (λ e. (e.0, view e.1)) es (subst (All (λ e. S P (e.0, view e.1))) (take_all i es le) all)))
      (λ P all. subst (All (λ e. S P (e.0, view e.1))) (sym (take_all i es le)) (All-unmap (S P) (λ e. (e.0, view e.1)) es (subst (All (S P)) (sym is) all)))
      h

-- nothing is said of the context beside the posts
pub no_head : (P : Fact → Type 0) (name : Name) (e : EntryView) → has_head e ≡ false → SaysHead P name e
no_head P name e h = record {
  birth = λ told. absurd (told (unknown_is e.0 (left (is_unknown e.0) (not (is_bare e.1.0) || nat_lt 0 e.1.1.dropped) h)));
  fronts = subst (All (λ x. P (Front name x.0 x.1))) (sym (nil_from_length (entries e.1.0) (sym (len-entries e.1.0) ∙ bare (len e.1.0) (nat_lt 0 e.1.1.dropped) (right (is_unknown e.0) (not (is_bare e.1.0) || nat_lt 0 e.1.1.dropped) h)))) (All-nil (λ x. P (Front name x.0 x.1)));
  dropped = λ some. absurd (none (is_bare e.1.0) e.1.1.dropped (right (is_unknown e.0) (not (is_bare e.1.0) || nat_lt 0 e.1.1.dropped) h) some);
} where
  left : (b c : Bool) → (not b || c) ≡ false → b ≡ true
  left true c h = refl
  left false c h = cc

  right : (b c : Bool) → (not b || c) ≡ false → c ≡ false
  right true c h = h
  right false c h = cc

  unknown_is : {A : Type 0} (v : FlatView A) → is_unknown v ≡ true → v ≡ unknown
  unknown_is unknown h = refl
  unknown_is (known x) h = cc
  unknown_is clash h = cc

  bare : (n : ℕ) (c : Bool) → (not (nat_eq n 0) || c) ≡ false → n ≡ 0
  bare n c h = grind (arith, nat_tests, left (nat_eq n 0) c h)

  none : (b : Bool) (n : ℕ) → (not b || nat_lt 0 n) ≡ false → 0 < n → ⊥
  none true n h some = grind (arith, nat_tests)
  none false n h some = cc

pub told_false : (b : Bool) → not b ≡ true → b ≡ false
told_false true h = cc
told_false false h = refl

-- what holds of the value, if any, holds of the one that was found
pub some_at : {X : Type 0} (o : Option X) (x : X) (Q : X → Type 0) → IfSome o Q → o ≡ Some x → Q x
some_at None x Q h is = absurd cc
some_at (Some y) x Q h is = subst Q (same_Some y x is) h
