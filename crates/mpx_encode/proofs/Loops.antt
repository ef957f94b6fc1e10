-- Steps of a loop over a list, each of whose elements has a spelling.
use Rattle.std.proofs.Common.{◌≡◌, ℕ, zero, suc, ◌+◌, ◌*◌, ◌<◌, ◌≤◌, Bool, true, List, [], ◌∷◌, ◌++◌, length, take, drop, get_or, Some, None, sym, ap, ◌∙◌, arith, append_assoc}
use Rattle.std.specs.List.{flat_map, list_all}
use Rattle.std.proofs.lemmas.List.{take_more, append-nil, take-append-drop, get_or_default}
use Rattle.std.proofs.lemmas.List.Folds.{list_all_more}
use Rattle.std.proofs.lemmas.Grind.{flat_map-append}
use Rattle.byteorder.proofs.Slices.{write_step}
use Rattle.join_core.specs.laws.Cases.{both_true, first_true, second_true}
use Rattle.join_nest.specs.Seen.{seen}
use Rattle.mpx_encode.specs.Room.{room_left}
use Rattle.mpx_encode.proofs.Rooms.{room_stops_at, room_behind}

-- what holds of each element holds at a place
pub holds_at : {X : Type 0} (p : X → Bool) (xs : List X) (i : ℕ) (x : X) → i < length xs → x ≡ get_or xs i x → list_all p xs ≡ true → p x ≡ true
holds_at p [] i x lt is h = absurd (omega arith)
holds_at p (y ∷ ys) zero x lt is h = ap p is ∙ first_true (p y) (list_all p ys) h
holds_at p (y ∷ ys) (suc i) x lt is h = holds_at p ys i x (omega arith) is (second_true (p y) (list_all p ys) h)

module _ {X : Type 0} (s : X → List ℕ) (xs : List X) (i : ℕ) (x : X) where
  -- the bytes up to an element, and its own
  spelled_more : i < length xs → x ≡ get_or xs i x → flat_map s (take (i + 1) xs) ≡ flat_map s (take i xs) ++ s x
  spelled_more lt is =
      ap (flat_map s) (take_more xs i x lt ∙ ap (λ y. take i xs ++ y ∷ []) (sym is)) ∙ flat_map-append s (take i xs) (x ∷ []) ∙ ap (λ l. flat_map s (take i xs) ++ l) (append-nil (s x))

  pub written_more : (old out new : List ℕ) → i < length xs → x ≡ get_or xs i x → out ≡ old ++ flat_map s (take i xs) → new ≡ out ++ s x → new ≡ old ++ flat_map s (take (i + 1) xs)
  written_more old out new lt is so_far e =
      e ∙ ap (λ l. l ++ s x) so_far ∙ append_assoc old (flat_map s (take i xs)) (s x) ∙ ap (λ l. old ++ l) (sym (spelled_more lt is))

  -- the same, read with a value for places past the end
  pub written_at : (d : X) (old out new : List ℕ) → i < length xs → x ≡ get_or xs i d → out ≡ old ++ flat_map s (take i xs) → new ≡ out ++ s x → new ≡ old ++ flat_map s (take (i + 1) xs)
  written_at d old out new lt is so_far e = written_more old out new lt (is ∙ get_or_default xs i d x lt) so_far e

  -- the room that is left behind one element more
  pub room_more : (room left next : ℕ) → i < length xs → x ≡ get_or xs i x → room_left (length (flat_map s (take i xs))) room ≡ Some left → room_left (length (s x)) left ≡ Some next
      → room_left (length (flat_map s (take (i + 1) xs))) room ≡ Some next
  room_more room left next lt is so_far e =
      ap (λ l. room_left (length l) room) (spelled_more lt is) ∙ room_behind (flat_map s (take i xs)) (s x) room left so_far ∙ e

  -- where one element more doesn't fit, all of them don't
  pub room_ends : (room left : ℕ) → i < length xs → x ≡ get_or xs i x → room_left (length (flat_map s (take i xs))) room ≡ Some left → room_left (length (s x)) left ≡ None
      → room_left (length (flat_map s xs)) room ≡ None
  room_ends room left lt is so_far e =
      let up : room_left (length (flat_map s (take (i + 1) xs))) room ≡ None = ap (λ l. room_left (length l) room) (spelled_more lt is) ∙ room_behind (flat_map s (take i xs)) (s x) room left so_far ∙ e in
      ap (λ l. room_left (length (flat_map s l)) room) (sym (take-append-drop (i + 1) xs)) ∙ ap (λ l. room_left (length l) room) (flat_map-append s (take (i + 1) xs) (drop (i + 1) xs)) ∙ room_stops_at (flat_map s (take (i + 1) xs)) (flat_map s (drop (i + 1) xs)) room up

-- a test passed by one element more
pub passed_more : {X : Type 0} (p : X → Bool) (xs : List X) (i : ℕ) (x : X) → i < length xs → x ≡ get_or xs i x → list_all p (take i xs) ≡ true → p x ≡ true → list_all p (take (i + 1) xs) ≡ true
passed_more p xs i x lt is so_far e = list_all_more p xs i x lt ∙ both_true _ _ so_far (ap p (sym is) ∙ e)

module _ {K J V : Type 0} (view : J → V) where
  -- an entry as its value says it stands at the same place
  pub seen_at : (es : List (K × J)) (i : ℕ) (e : K × J) → i < length es → e ≡ get_or es i e → (e.0, view e.1) ≡ get_or (seen view es) i (e.0, view e.1)
  seen_at [] i e lt is = absurd (omega arith)
  seen_at (x ∷ es) zero e lt is = λ j. ((is j).0, view (is j).1)
  seen_at (x ∷ es) (suc i) e lt is = seen_at es i e (omega arith) is

-- one element more is written at its place
pub placed_more : {X : Type 0} (s : X → List ℕ) (n : ℕ) (xs : List X) (d : X) (dst mid post bs rest : List ℕ) (i : ℕ) → n * i ≤ length dst → i < length xs → length (s (get_or xs i d)) ≡ n → bs ≡ s (get_or xs i d) → mid ≡ bs ++ rest
    → take (n * i) dst ≡ flat_map s (take i xs) → take (n * i + n) (take (n * i) dst ++ (mid ++ post)) ≡ flat_map s (take (i + 1) xs)
placed_more s n xs d dst mid post bs rest i room fits len eb is before = rw is (write_step s n xs d dst bs rest post i room fits len eb before)
