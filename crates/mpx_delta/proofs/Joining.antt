-- Boards put together: they still have only facts of the whole, and say all of it.
use Rattle.std.proofs.Common.{◌≡◌, ◌≢◌, ◌≤◌, ◌<◌, ◌⊎◌, inl, inr, ◌||◌, ℕ, zero, suc, max, Bool, true, false, cond, List, [], ◌∷◌, ◌++◌, length, map, get_or, set, fold, refl, sym, ap, ◌∙◌, subst, arith}
use Rattle.std.specs.Prelude.{All, nat_le}
use Rattle.std.proofs.lemmas.List.Elements.{All-nil, All-cons, All-head, All-tail, All-append}
use Rattle.join_core.specs.Joins.{JoinLaws}
use Rattle.join_core.specs.laws.Cases.{yes, no, answer}
use Rattle.join_core.specs.Flat.{FlatView, unknown, known, clash, flat_join, flat_joining}
use Rattle.join_core.specs.laws.Flat.{flat_laws}
use Rattle.join_core.proofs.Orders.{order_laws}
use Rattle.mpx_post.specs.Posts.{Given}
use Rattle.mpx_post.specs.Equality.{same_given, given_equality}
use Rattle.mpx_birth.specs.Births.{birth_equality}
use Rattle.mpx_board.specs.Boards.{Context, Look, Born, Held, Front, Dropped, Dead, Acknowledged, Has, Stands, IsBoardBelow, gone, join_live, join_contexts, join, join_all, empty}
use Rattle.mpx_board.specs.Contexts.{look_of}
use Rattle.mpx_board.specs.Looks.{look, parts_of}
use Rattle.mpx_board.specs.Parts.{PartsView, parts_joining, parts_laws}
use Rattle.mpx_board.specs.Tidy.{is_tidy}
use Rattle.mpx_board.specs.declared.board.Board.{Board}
use Rattle.std.specs.FinMap.{empty as no_entry}
use Rattle.mpx_board.proofs.Facts.{join_is_least, below_through, under_itself, facts_below, fold_above, empty_under}
use Rattle.mpx_board.proofs.Looking.{look-join, join-empty, look-empty}
use Rattle.mpx_board.proofs.Order.{leq_is_below}
use Rattle.mpx_board.proofs.Tidiness.{tidy_join, tidy_empty}
use Rattle.mpx_format.specs.Encoding.{length_told}
use Rattle.mpx_delta.specs.Facts.{OnlyFactsOf, SaysParts}
use Rattle.mpx_delta.specs.Pieces.{NoNeighboursFit, SayTogether, AddsPieces, AreBelow, HaveOnlyFactsOf, AllFit, most_of_piece}
use Rattle.mpx_delta.proofs.FactsSaid.{all_said, said_all}
use Rattle.mpx_delta.proofs.Adding.{All-front, All-back}

-- FACTS OF A JOIN

not_zero : (n : ℕ) → 0 < n → 0 ≡ n → ⊥
not_zero n some none = omega (arith, some, none)

number_only : (a b w n : ℕ) → (0 < a → w ≡ a) → (0 < b → w ≡ b) → 0 < n → max a b ≡ n → w ≡ n
number_only zero b w n x y some is = let same : b ≡ n = omega (arith, is) in y (omega (arith, same, some)) ∙ same
number_only (suc a) zero w n x y some is = let same : suc a ≡ n = omega (arith, is) in x (omega arith) ∙ same
number_only (suc a) (suc b) w n x y some is = omega (arith, is, x (omega arith), y (omega arith))

module _ {A : Type 0} {same : A → A → Bool} (p : JoinLaws (flat_joining same)) where
  flat_only : (x y w v : FlatView A) → (x ≢ unknown → w ≡ x) → (y ≢ unknown → w ≡ y) → v ≢ unknown → flat_join same x y ≡ v → w ≡ v
  flat_only unknown y w v f g told is = g (λ none. told (sym is ∙ none)) ∙ is
  flat_only (known a) unknown w v f g told is = f (λ none. cc) ∙ is
  flat_only (known a) (known b) w v f g told is = f (λ none. cc) ∙ sym (p.idempotent (known a)) ∙ ap (flat_join same (known a)) (sym (f (λ none. cc)) ∙ g (λ none. cc)) ∙ is
  flat_only (known a) clash w v f g told is = g (λ none. cc) ∙ is
  flat_only clash y w v f g told is = f (λ none. cc) ∙ is

post_only : (t : Bool) (x y w v : FlatView Given) → (x ≢ unknown → w ≡ x) → (y ≢ unknown → w ≡ y) → v ≢ unknown → cond t (flat_join same_given x y) unknown ≡ v → w ≡ v
post_only true x y w v f g told is = flat_only (flat_laws given_equality) x y w v f g told is
post_only false x y w v f g told is = absurd (told (sym is))

-- what a join tells of a context, other than that it is dead, is told of two live ones
of_live : {X : Type 0} (read : Context → X) (x y : Context) (v : X) → (read gone ≡ v → ⊥) → read (join_contexts x y) ≡ v → read (join_live x y) ≡ v
of_live read x y v untold is = elim (answer (x.dead || y.dead)) [
  | yes t ↦ absurd (untold (sym (ap (λ b. read (cond b gone (join_live x y))) t) ∙ is))
  | no n ↦ sym (ap (λ b. read (cond b gone (join_live x y))) n) ∙ is
]

-- one of the two is dead where their join is
either_dead : (x y : Context) → (join_contexts x y).dead ≡ true → (x.dead ≡ true) ⊎ (y.dead ≡ true)
either_dead x y is = elim (answer x.dead) [
  | yes t ↦ inl t
  | no n ↦ elim (answer y.dead) [
    | yes t ↦ inr t
    | no m ↦
        let alive : false ≡ true = sym (ap (λ b. (cond (b || y.dead) gone (join_live x y)).dead) n ∙ ap (λ b. (cond b gone (join_live x y)).dead) m) ∙ is in
        cc
  ]
]

dead_only : (x y w : Context) → (x.dead ≡ true → w.dead ≡ true) → (y.dead ≡ true → w.dead ≡ true) → (x.dead ≡ true) ⊎ (y.dead ≡ true) → w.dead ≡ true
dead_only x y w f g (inl t) = f t
dead_only x y w f g (inr t) = g t

pub join_only : (a b w : Look) → OnlyFactsOf a w → OnlyFactsOf b w → OnlyFactsOf (join a b) w
join_only a b w x y (Born name v) has =
    let told : (join_live (a.contexts name) (b.contexts name)).birth ≡ v = of_live (λ c. c.birth) (a.contexts name) (b.contexts name) v (λ none. has.0 (sym none)) has.1 in
    (has.0, flat_only (flat_laws birth_equality) (a.contexts name).birth (b.contexts name).birth (w.contexts name).birth v (λ told. (x (Born name (a.contexts name).birth) (told, refl)).1) (λ told. (y (Born name (b.contexts name).birth) (told, refl)).1) has.0 told)
join_only a b w x y (Held name k p v) has =
    let told : (join_live (a.contexts name) (b.contexts name)).posts k p ≡ v = of_live (λ c. c.posts k p) (a.contexts name) (b.contexts name) v (λ none. has.0 (sym none)) has.1 in
    (has.0, post_only (nat_le (max (a.contexts name).dropped (b.contexts name).dropped) k) ((a.contexts name).posts k p) ((b.contexts name).posts k p) ((w.contexts name).posts k p) v (λ told. (x (Held name k p ((a.contexts name).posts k p)) (told, refl)).1) (λ told. (y (Held name k p ((b.contexts name).posts k p)) (told, refl)).1) has.0 told)
join_only a b w x y (Front name p n) has =
    let told : (join_live (a.contexts name) (b.contexts name)).fronts p ≡ n = of_live (λ c. c.fronts p) (a.contexts name) (b.contexts name) n (not_zero n has.0) has.1 in
    (has.0, number_only ((a.contexts name).fronts p) ((b.contexts name).fronts p) ((w.contexts name).fronts p) n (λ some. (x (Front name p ((a.contexts name).fronts p)) (some, refl)).1) (λ some. (y (Front name p ((b.contexts name).fronts p)) (some, refl)).1) has.0 told)
join_only a b w x y (Dropped name n) has =
    let told : (join_live (a.contexts name) (b.contexts name)).dropped ≡ n = of_live (λ c. c.dropped) (a.contexts name) (b.contexts name) n (not_zero n has.0) has.1 in
    (has.0, number_only (a.contexts name).dropped (b.contexts name).dropped (w.contexts name).dropped n (λ some. (x (Dropped name (a.contexts name).dropped) (some, refl)).1) (λ some. (y (Dropped name (b.contexts name).dropped) (some, refl)).1) has.0 told)
join_only a b w x y (Dead name) has = dead_only (a.contexts name) (b.contexts name) (w.contexts name) (x (Dead name)) (y (Dead name)) (either_dead (a.contexts name) (b.contexts name) has)
join_only a b w x y (Acknowledged q name p n) has = (has.0, number_only (a.acks q name p) (b.acks q name p) (w.acks q name p) n (λ some. (x (Acknowledged q name p (a.acks q name p)) (some, refl)).1) (λ some. (y (Acknowledged q name p (b.acks q name p)) (some, refl)).1) has.0 has.1)

-- LISTS THAT SAY THE SAME

module _ (limit : ℕ) where
  pub says_itself : (bs : List Board) → SayTogether limit bs bs
  says_itself bs = record { covers = λ d all. all; only = λ w all. all; fits = λ all. all }

  pub says_then : (a b c : List Board) → SayTogether limit a b → SayTogether limit b c → SayTogether limit a c
  says_then a b c s t = record { covers = λ d all. s.covers d (t.covers d all); only = λ w all. t.only w (s.only w all); fits = λ all. t.fits (s.fits all) }

  beside : (Q R : Board → Type 0) (a b c : List Board) → (All Q a → All R b) → All Q (a ++ c) → (All Q c → All R c) → All R (b ++ c)
  beside Q R a b c f all g = All-append R b c (f (All-front Q a c all)) (g (All-back Q a c all))

  -- and others behind them
  pub says_before : (a b c : List Board) → SayTogether limit a b → SayTogether limit (a ++ c) (b ++ c)
  says_before a b c s = record {
    covers = λ d all. beside (λ x. IsBoardBelow (look x) d) (λ x. IsBoardBelow (look x) d) b a c (s.covers d) all (λ h. h);
    only = λ w all. beside (λ x. OnlyFactsOf (look x) w) (λ x. OnlyFactsOf (look x) w) a b c (s.only w) all (λ h. h);
    fits = λ all. beside (λ x. length_told (parts_of x) ≤ limit) (λ x. length_told (parts_of x) ≤ limit) a b c s.fits all (λ h. h);
  }

  pub says_behind : (a b c : List Board) → SayTogether limit b c → SayTogether limit (a ++ b) (a ++ c)
  says_behind a b c s = record {
    covers = λ d all. All-append (λ x. IsBoardBelow (look x) d) a b (All-front (λ x. IsBoardBelow (look x) d) a c all) (s.covers d (All-back (λ x. IsBoardBelow (look x) d) a c all));
    only = λ w all. All-append (λ x. OnlyFactsOf (look x) w) a c (All-front (λ x. OnlyFactsOf (look x) w) a b all) (s.only w (All-back (λ x. OnlyFactsOf (look x) w) a b all));
    fits = λ all. All-append (λ x. length_told (parts_of x) ≤ limit) a c (All-front (λ x. length_told (parts_of x) ≤ limit) a b all) (s.fits (All-back (λ x. length_told (parts_of x) ≤ limit) a b all));
  }

  -- two boards joined, where that fits
  pub says_joined : (bs : List Board) (a b j : Board) → parts_of j ≡ parts_joining.join (parts_of a) (parts_of b) → length_told (parts_of j) ≤ limit → SayTogether limit (bs ++ a ∷ b ∷ []) (bs ++ j ∷ [])
  says_joined bs a b j is fits =
      let seen : look j ≡ join (look a) (look b) = ap look_of is ∙ look-join (parts_of a) (parts_of b) in
      says_behind bs (a ∷ b ∷ []) (j ∷ []) (record {
        covers = λ d all.
            let below : IsBoardBelow (join (look a) (look b)) d = subst (λ x. IsBoardBelow x d) seen (All-head (λ x. IsBoardBelow (look x) d) j [] all) in
            All-cons (λ x. IsBoardBelow (look x) d) a (b ∷ []) (below_through (look a) (join (look a) (look b)) d (join_is_least (look a) (look b)).left below)
            (All-cons (λ x. IsBoardBelow (look x) d) b [] (below_through (look b) (join (look a) (look b)) d (join_is_least (look a) (look b)).right below) (All-nil (λ x. IsBoardBelow (look x) d)));
        only = λ w all.
            let rest = All-tail (λ x. OnlyFactsOf (look x) w) a (b ∷ []) all in
            All-cons (λ x. OnlyFactsOf (look x) w) j [] (subst (λ x. OnlyFactsOf x w) (sym seen) (join_only (look a) (look b) w (All-head (λ x. OnlyFactsOf (look x) w) a (b ∷ []) all) (All-head (λ x. OnlyFactsOf (look x) w) b [] rest))) (All-nil (λ x. OnlyFactsOf (look x) w));
        fits = λ all. All-cons (λ x. length_told (parts_of x) ≤ limit) j [] fits (All-nil (λ x. length_told (parts_of x) ≤ limit));
      })

  assoc : (xs ys zs : List Board) → (xs ++ ys) ++ zs ≡ xs ++ (ys ++ zs)
  assoc [] ys zs = refl
  assoc (x ∷ xs) ys zs = ap (λ l. x ∷ l) (assoc xs ys zs)

  -- a board joined with the first of the others
  pub says_first : (a j b : Board) (bs : List Board) → 0 < length bs → b ≡ get_or bs 0 b → parts_of j ≡ parts_joining.join (parts_of a) (parts_of b) → length_told (parts_of j) ≤ limit → SayTogether limit (a ∷ bs) (set bs 0 j)
  says_first a j b [] some at is fits = absurd (omega (arith, some))
  says_first a j b (x ∷ bs) some at is fits = says_before (a ∷ x ∷ []) (j ∷ []) bs (says_joined [] a x j (is ∙ ap (λ y. parts_joining.join (parts_of a) (parts_of y)) at) fits)

  -- and what stands before them
  pub says_seam : (all front : List Board) (a : Board) (rest new : List Board) → all ≡ front ++ a ∷ [] → SayTogether limit (a ∷ rest) new → SayTogether limit (all ++ rest) (front ++ new)
  says_seam all front a rest new is s = subst (λ l. SayTogether limit l (front ++ new)) (sym (ap (λ l. l ++ rest) is ∙ assoc front (a ∷ []) rest)) (says_behind front (a ∷ rest) new s)

  -- two halves
  pub says_halves : (all low high made rest new : List Board) → low ++ high ≡ all → SayTogether limit low made → SayTogether limit high rest → SayTogether limit (made ++ rest) new → SayTogether limit all new
  says_halves all low high made rest new is s t u = subst (λ l. SayTogether limit l new) is (says_then (low ++ high) (made ++ rest) new (says_then (low ++ high) (made ++ high) (made ++ rest) (says_before low made high s) (says_behind made high rest t)) u)

-- NEIGHBOURS

module _ (limit : ℕ) where
  -- those in front
  pub front_apart : (xs ys : List Board) → NoNeighboursFit limit (xs ++ ys) → NoNeighboursFit limit xs
  front_apart [] ys h = tt
  front_apart (a ∷ []) ys h = tt
  front_apart (a ∷ b ∷ xs) ys h = (h.0, front_apart (b ∷ xs) ys h.1)

  -- one more, which doesn't fit the last
  pub last_apart : (xs : List Board) (a b : Board) → NoNeighboursFit limit (xs ++ a ∷ []) → limit < length_told (parts_joining.join (parts_of a) (parts_of b)) → NoNeighboursFit limit ((xs ++ a ∷ []) ++ b ∷ [])
  last_apart [] a b h long = (long, tt)
  last_apart (x ∷ []) a b h long = (h.0, (long, tt))
  last_apart (x ∷ y ∷ xs) a b h long = (h.0, last_apart (y ∷ xs) a b h.1 long)

  -- the last one joined with one more, where that fits
  pub says_fused : (front : List Board) (a b j : Board) (old new : List Board) → old ≡ front ++ a ∷ [] → parts_of j ≡ parts_joining.join (parts_of a) (parts_of b) → length_told (parts_of j) ≤ limit
      → SayTogether limit (front ++ j ∷ []) new → SayTogether limit (old ++ b ∷ []) new
  says_fused front a b j old new is same fits s =
      subst (λ l. SayTogether limit l new) (sym (ap (λ l. l ++ b ∷ []) is ∙ assoc limit front (a ∷ []) (b ∷ [])))
      (says_then limit (front ++ a ∷ b ∷ []) (front ++ j ∷ []) new (says_joined limit front a b j same fits) s)

-- THE WHOLE

below_itself : (a : Look) → IsBoardBelow a a
below_itself a = facts_below a a (under_itself a)

only_below : (a w : Look) → OnlyFactsOf a w → IsBoardBelow a w
only_below a w only f has = below_itself w f (only f has)

-- the join of these parts, as parts of a board
joined : PartsView → List Board → PartsView
joined v [] = v
joined v (b ∷ bs) = joined (parts_joining.join v (parts_of b)) bs

joined_look : (v : PartsView) (bs : List Board) → fold join (look_of v) (map look bs) ≡ look_of (joined v bs)
unfolding joined
joined_look v [] = refl
joined_look v (b ∷ bs) = ap (λ x. fold join x (map look bs)) (sym (look-join v (parts_of b))) ∙ joined_look (parts_joining.join v (parts_of b)) bs

joined_tidy : (v : PartsView) (bs : List Board) → is_tidy v ≡ true → is_tidy (joined v bs) ≡ true
unfolding joined
joined_tidy v [] tidy = tidy
joined_tidy v (b ∷ bs) tidy = joined_tidy (parts_joining.join v (parts_of b)) bs (tidy_join v (parts_of b) tidy b.tidy)

all_above : (bs : List Board) (a : Look) → IsBoardBelow a (fold join a (map look bs))
all_above bs a = facts_below a (fold join a (map look bs)) (fold_above (map look bs) a)

each_below : (bs : List Board) (a : Look) → AreBelow bs (fold join a (map look bs))
each_below [] a = All-nil (λ x. IsBoardBelow (look x) a)
each_below (b ∷ bs) a =
    let all = fold join (join a (look b)) (map look bs) in
    All-cons (λ x. IsBoardBelow (look x) all) b bs (below_through (look b) (join a (look b)) all (join_is_least a (look b)).right (all_above bs (join a (look b)))) (each_below bs (join a (look b)))

all_below : (bs : List Board) (a w : Look) → IsBoardBelow a w → AreBelow bs w → IsBoardBelow (fold join a (map look bs)) w
all_below [] a w h all = h
all_below (b ∷ bs) a w h all = all_below bs (join a (look b)) w ((join_is_least a (look b)).least w h (All-head (λ x. IsBoardBelow (look x) w) b bs all)) (All-tail (λ x. IsBoardBelow (look x) w) b bs all)

same_looks : (u v : PartsView) → is_tidy u ≡ true → is_tidy v ≡ true → IsBoardBelow (look_of u) (look_of v) → IsBoardBelow (look_of v) (look_of u) → look_of u ≡ look_of v
same_looks u v tidy tidy_v s t = ap look_of ((order_laws parts_laws).antisymmetric u v ((leq_is_below u v tidy).1 s) ((leq_is_below v u tidy_v).1 t))

-- boards with only facts of the whole, and below nothing that the whole isn't below, join as the whole
pub join_is_whole : (b : Board) (made : List Board) → HaveOnlyFactsOf made (look b) → ((d : Look) → AreBelow made d → IsBoardBelow (look b) d) → join_all (map look made) ≡ look b
join_is_whole b made only covers =
    let start : PartsView = (no_entry, no_entry) in
    let all = joined start made in
    let seen : join_all (map look made) ≡ look_of all = ap (λ x. fold join x (map look made)) (sym look-empty) ∙ joined_look start made in
    let above : IsBoardBelow (look b) (join_all (map look made)) = covers (join_all (map look made)) (each_below made empty) in
    let below : IsBoardBelow (join_all (map look made)) (look b) = all_below made empty (look b) (facts_below empty (look b) (empty_under (look b))) (λ k d lt. only_below _ (look b) (only k d lt)) in
    seen ∙ same_looks all (parts_of b) (joined_tidy start made tidy_empty) b.tidy (subst (λ x. IsBoardBelow x (look b)) seen below) (subst (λ x. IsBoardBelow (look b) x) seen above)

-- the pieces of a board, put together
module _ (b : Board) (limit : ℕ) (pieces made : List Board) (apart : AddsPieces (λ P. SaysParts P (parts_of b)) [] pieces) (together : SayTogether limit pieces made) where
  pub whole_facts : HaveOnlyFactsOf made (look b)
  whole_facts = together.only (look b) (apart.only (look b) (said_all (Has (look b)) (parts_of b) b.tidy (λ f has. has)) (All-nil (λ x. OnlyFactsOf (look x) (look b))))

  pub whole_fits : most_of_piece ≤ limit → AllFit limit made
  whole_fits least = together.fits (λ k d lt. omega (arith, least, apart.fits (All-nil (λ x. length_told (parts_of x) ≤ most_of_piece)) k d lt))

  pub whole_join : join_all (map look made) ≡ look b
  whole_join = join_is_whole b made whole_facts (λ d all. all_said (Stands d) (parts_of b) (apart.covers d (together.covers d all)).1)

-- a board in one part
module _ (b c : Board) (same : parts_of c ≡ parts_of b) where
  pub one_join : join_all (map look (c ∷ [])) ≡ look b
  one_join = join-empty (parts_of c) ∙ ap look_of same
