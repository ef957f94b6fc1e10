-- What is so of results of which the first were let go.
use Rattle.std.proofs.Common.{◌≡◌, ℕ, zero, suc, ◌+◌, ◌-◌, ◌<◌, ◌≤◌, true, List, [], ◌∷◌, ◌++◌, length, drop, map, Option, Some, None, refl, sym, ap, ◌∙◌, inl, inr, subst, arith, length-append}
use Rattle.std.specs.Prelude.{◌⊎◌, IsTrue, is_some, nat_le, slice_get, slice_index_or}
use Rattle.std.specs.Borrow.{Bor}
use Rattle.std.specs.Slice.{IsGetResult}
use Rattle.std.proofs.lemmas.Bool.Decides.{nat_tests}
use Rattle.std.specs.Option.{option_copied}
use Rattle.std.proofs.lemmas.Option.{slice_get_past}
use Rattle.mpx_node.specs.Stored.{after_gone, count_gone, let_go, stored_at}
pub use Rattle.mpx_node.specs.laws.Gone.{length_after}

-- WHAT IS LENT OF A LIST

at_place : {A : Type 0} (xs : List A) (i : ℕ) (y : A) → i < length xs → y ≡ slice_index_or xs i y → slice_get xs i ≡ Some y
at_place [] i y l e = absurd (omega (arith, l))
at_place (x ∷ xs) zero y l e = ap Some (sym e)
at_place (x ∷ xs) (suc i) y l e = at_place xs i y (omega (arith, l)) e

pub lent_there : {A : Type 0} (xs : List A) (low i : ℕ) (r : Option (Bor A)) → (length xs ≤ low → length xs ≤ i) → (low < length xs → i < length xs) → IsGetResult xs low i r → option_copied r ≡ slice_get xs i
lent_there xs low i None out inside h = sym (slice_get_past xs i (out (h.3)))
lent_there xs low i (Some x) out inside h = sym (at_place xs i x.now (inside (h.3.0)) (h.1))

module _ {A : Type 0} where
  -- one more at the end
  kept_push : (xs : List A) (x : A) → map (λ (y : A). Some y) (xs ++ x ∷ []) ≡ map (λ (y : A). Some y) xs ++ Some x ∷ []
  kept_push [] x = refl
  kept_push (y ∷ xs) x = ap (λ ys. Some y ∷ ys) (kept_push xs x)

  pub push_after : (gone : ℕ) (xs : List A) (x : A) → after_gone gone (xs ++ x ∷ []) ≡ after_gone gone xs ++ Some x ∷ []
  push_after zero xs x = kept_push xs x
  push_after (suc n) xs x = ap (λ ys. None ∷ ys) (push_after n xs x)

  pub one_more_stored : (gone : ℕ) (xs reserved pushed : List A) (x : A) → reserved ≡ xs → pushed ≡ reserved ++ x ∷ [] → after_gone gone pushed ≡ after_gone gone xs ++ Some x ∷ []
  one_more_stored gone xs reserved pushed x same more = ap (after_gone gone) (more ∙ ap (λ ys. ys ++ x ∷ []) same) ∙ push_after gone xs x

  -- below the first that is kept there is none
  pub none_before : (gone : ℕ) (xs : List A) (k : ℕ) → k < gone → stored_at (after_gone gone xs) k ≡ None
  none_before zero xs k l = absurd (omega (arith, l))
  none_before (suc n) xs zero l = refl
  none_before (suc n) xs (suc k) l = none_before n xs k (omega (arith, l))

  kept_there : (xs : List A) (k : ℕ) → stored_at (map (λ (y : A). Some y) xs) k ≡ slice_get xs k
  kept_there [] k = refl
  kept_there (x ∷ xs) zero = refl
  kept_there (x ∷ xs) (suc k) = kept_there xs k

  -- and from there on each is at its place
  pub stored_from : (gone : ℕ) (xs : List A) (k : ℕ) → gone ≤ k → stored_at (after_gone gone xs) k ≡ slice_get xs (k - gone)
  stored_from zero xs k l = kept_there xs k ∙ ap (slice_get xs) (omega arith)
  stored_from (suc n) xs zero l = absurd (omega (arith, l))
  stored_from (suc n) xs (suc k) l = stored_from n xs k (omega (arith, l)) ∙ ap (slice_get xs) (omega (arith, l))

  pub counted_all : (gone : ℕ) (xs : List A) → count_gone (after_gone gone xs) ≡ gone
  counted_all zero [] = refl
  counted_all zero (x ∷ xs) = refl
  counted_all (suc n) xs = ap suc (counted_all n xs)

  no_more_gone : (n m : ℕ) (xs : List A) → m ≡ 0 → after_gone n xs ≡ after_gone (n + m) (drop m xs)
  no_more_gone n m xs e = subst (λ i. after_gone n xs ≡ after_gone (n + i) (drop i xs)) (sym e) (ap (λ i. after_gone i xs) (omega arith))

  let_none : (below : ℕ) (ys : List (Option A)) → let_go (suc below) (None ∷ ys) ≡ None ∷ let_go below ys
  let_none zero [] = refl
  let_none (suc b) [] = refl
  let_none below (o ∷ ys) = refl

  -- more are let go: as many as there are below that place, but the last
  pub gone_more : (below n m : ℕ) (xs : List A) → m ≤ length xs - 1 → m ≤ below - n → (m + 1 < length xs → below - n ≤ m) → let_go below (after_gone n xs) ≡ after_gone (n + m) (drop m xs)
  gone_more zero n m xs within low most = no_more_gone n m xs (omega (arith, low))
  gone_more (suc b) (suc n) m xs within low most =
      let step : suc (n + m) ≡ suc n + m = omega arith in
      let_none b (after_gone n xs)
      ∙ ap (λ ys. None ∷ ys) (gone_more b n m xs within (omega (arith, low)) (λ l. let r = most l in omega (arith, r)))
      ∙ ap (λ i. after_gone i (drop m xs)) step
  gone_more (suc b) zero zero [] within low most = refl
  gone_more (suc b) zero zero (x ∷ []) within low most = refl
  gone_more (suc b) zero zero (x ∷ y ∷ xs) within low most = let r = most (omega arith) in absurd (omega (arith, r))
  gone_more (suc b) zero (suc m) [] within low most = absurd (omega (arith, within))
  gone_more (suc b) zero (suc m) (x ∷ []) within low most = absurd (omega (arith, within))
  gone_more (suc b) zero (suc m) (x ∷ y ∷ xs) within low most =
      let step : suc (0 + m) ≡ 0 + suc m = omega arith in
      ap (λ ys. None ∷ ys) (gone_more b zero m (y ∷ xs) (omega (arith, within)) (omega (arith, low)) (λ l. let r = most (omega (arith, l)) in omega (arith, r)))
      ∙ ap (λ i. after_gone i (drop m (y ∷ xs))) step

  -- up to a place, where that is further than what is gone
  pub lets_up_to : (below gone most : ℕ) (xs rest : List A) → most ≤ below → most ≤ gone + length xs - 1 → (most < gone + length xs - 1 → below ≤ most) → gone < most → rest ≡ drop (most - gone) xs
      → after_gone most rest ≡ let_go below (after_gone gone xs)
  lets_up_to below gone most xs rest low within all l e =
      let place : most ≡ gone + (most - gone) = omega (arith, l) in
      ap (after_gone most) e ∙ ap (λ i. after_gone i (drop (most - gone) xs)) place
      ∙ sym (gone_more below gone (most - gone) xs (omega (arith, within, l)) (omega (arith, low)) (λ m. let r = all (omega (arith, m, l)) in omega (arith, r)))

  -- and none, where it isn't
  pub lets_none : (below gone most : ℕ) (xs : List A) → (most < gone + length xs - 1 → below ≤ most) → most ≤ gone → after_gone gone xs ≡ let_go below (after_gone gone xs)
  lets_none below gone most xs all l =
      let place : gone ≡ gone + 0 = omega arith in
      ap (λ i. after_gone i xs) place ∙ sym (gone_more below gone 0 xs (omega arith) (omega arith) (λ m. let r = all (omega (arith, m, l)) in omega (arith, r, l)))

  -- there is room for one more where fewer are stored than posted
  pub room_for_one : (posted gone : ℕ) (xs reserved pushed : List A) (x : A) → length (after_gone gone xs) < posted → reserved ≡ xs → pushed ≡ reserved ++ x ∷ [] → nat_le (gone + length pushed) posted ≡ true
  room_for_one posted gone xs reserved pushed x less same more =
      let l = length_after gone xs in
      let n : length pushed ≡ length xs + 1 = ap length (more ∙ ap (λ ys. ys ++ x ∷ []) same) ∙ length-append xs (x ∷ []) in
      grind (arith, nat_tests, less, l, n)

  -- the last one is the last of those that are left
  pub end_after : (n : ℕ) (xs : List A) → stored_at (after_gone n xs) (length (after_gone n xs) - 1) ≡ slice_get xs (length xs - 1)
  end_after zero [] = refl
  end_after (suc n) [] = let l = length_after {A = A} (suc n) [] in none_before (suc n) [] (length (after_gone {A = A} (suc n) []) - 1) (omega (arith, l))
  end_after n (x ∷ xs) =
      let l = length_after n (x ∷ xs) in
      stored_from n (x ∷ xs) (length (after_gone n (x ∷ xs)) - 1) (omega (arith, l)) ∙ ap (slice_get (x ∷ xs)) (omega (arith, l))

  -- ONE MORE STORED, AND SOME LET GO

  -- what is stored stays so behind more
  pub stored_append : (xs ys : List (Option A)) (k : ℕ) (x : A) → stored_at xs k ≡ Some x → stored_at (xs ++ ys) k ≡ Some x
  stored_append [] ys k x e = cc e
  stored_append (o ∷ xs) ys zero x e = e
  stored_append (o ∷ xs) ys (suc k) x e = stored_append xs ys k x e

  -- and what was let go
  pub gone_append : (xs ys : List (Option A)) (k : ℕ) → k < count_gone xs → k < count_gone (xs ++ ys)
  gone_append [] ys k l = absurd (omega (arith, l))
  gone_append (None ∷ xs) ys zero l = omega arith
  gone_append (None ∷ xs) ys (suc k) l = let r = gone_append xs ys k (omega (arith, l)) in omega (arith, r)
  gone_append (Some x ∷ xs) ys k l = absurd (omega (arith, l))

  -- what is stored behind one more was there, or is the last
  pub stored_push : (P : A → ℕ → Type 0) (xs : List (Option A)) (y : A) (k : ℕ) (x : A) → stored_at (xs ++ Some y ∷ []) k ≡ Some x → (stored_at xs k ≡ Some x → P x k) → (y ≡ x → k ≡ length xs → P x k) → P x k
  stored_push P [] y zero x e old last = last (cc e) refl
  stored_push P [] y (suc k) x e old last = cc e
  stored_push P (o ∷ xs) y zero x e old last = old e
  stored_push P (o ∷ xs) y (suc k) x e old last = stored_push (λ a i. P a (suc i)) xs y k x e old (λ is at. last is (ap suc at))

  pub length_lets : (n : ℕ) (xs : List (Option A)) → length (let_go n xs) ≡ length xs
  length_lets zero xs = refl
  length_lets (suc n) [] = refl
  length_lets (suc n) (o ∷ []) = refl
  length_lets (suc n) (o ∷ p ∷ xs) = ap suc (length_lets n (p ∷ xs))

  -- what is still there was there
  pub stored_before : (n : ℕ) (xs : List (Option A)) (k : ℕ) (x : A) → stored_at (let_go n xs) k ≡ Some x → stored_at xs k ≡ Some x
  stored_before zero xs k x e = e
  stored_before (suc n) [] k x e = cc e
  stored_before (suc n) (o ∷ []) k x e = e
  stored_before (suc n) (o ∷ p ∷ xs) zero x e = cc e
  stored_before (suc n) (o ∷ p ∷ xs) (suc k) x e = stored_before n (p ∷ xs) k x e

  -- what was there is still there, or is let go
  pub stored_or_gone : (n : ℕ) (xs : List (Option A)) (k : ℕ) (x : A) → stored_at xs k ≡ Some x → (stored_at (let_go n xs) k ≡ Some x) ⊎ ((k < n) × (k < count_gone (let_go n xs)))
  stored_or_gone zero xs k x e = inl e
  stored_or_gone (suc n) [] k x e = cc e
  stored_or_gone (suc n) (o ∷ []) k x e = inl e
  stored_or_gone (suc n) (o ∷ p ∷ xs) zero x e = inr (omega arith, omega arith)
  stored_or_gone (suc n) (o ∷ p ∷ xs) (suc k) x e = elim (stored_or_gone n (p ∷ xs) k x e) [
    | inl there ↦ inl there
    | inr gone ↦ inr (let l = gone.0 in omega (arith, l), let l = gone.1 in omega (arith, l))
  ]

  -- what was let go stays so
  pub gone_lets : (n : ℕ) (xs : List (Option A)) (k : ℕ) → k < count_gone xs → k < count_gone (let_go n xs)
  gone_lets zero xs k l = l
  gone_lets (suc n) [] k l = absurd (omega (arith, l))
  gone_lets (suc n) (o ∷ []) k l = l
  gone_lets (suc n) (o ∷ p ∷ xs) zero l = omega arith
  gone_lets (suc n) (None ∷ p ∷ xs) (suc k) l = let r = gone_lets n (p ∷ xs) k (omega (arith, l)) in omega (arith, r)
  gone_lets (suc n) (Some x ∷ p ∷ xs) (suc k) l = absurd (omega (arith, l))

  -- the last one stays
  pub last_stays : (n : ℕ) (xs : List (Option A)) → stored_at (let_go n xs) (length (let_go n xs) - 1) ≡ stored_at xs (length xs - 1)
  last_stays zero xs = refl
  last_stays (suc n) [] = refl
  last_stays (suc n) (o ∷ []) = refl
  last_stays (suc n) (o ∷ p ∷ xs) =
      let l = length_lets n (p ∷ xs) in
      let first : length (let_go (suc n) (o ∷ p ∷ xs)) - 1 ≡ suc (length (let_go n (p ∷ xs)) - 1) = omega (arith, l) in
      let last : length (o ∷ p ∷ xs) - 1 ≡ suc (length (p ∷ xs) - 1) = omega arith in
      ap (stored_at (let_go (suc n) (o ∷ p ∷ xs))) first ∙ last_stays n (p ∷ xs) ∙ sym (ap (stored_at (o ∷ p ∷ xs)) last)

  -- and so does each at this place or behind it
  pub stays_from : (n : ℕ) (xs : List (Option A)) (k : ℕ) → n ≤ k → stored_at (let_go n xs) k ≡ stored_at xs k
  stays_from zero xs k l = refl
  stays_from (suc n) [] k l = refl
  stays_from (suc n) (o ∷ []) k l = refl
  stays_from (suc n) (o ∷ p ∷ xs) zero l = absurd (omega (arith, l))
  stays_from (suc n) (o ∷ p ∷ xs) (suc k) l = stays_from n (p ∷ xs) k (omega (arith, l))

  pub stored_within : (xs : List (Option A)) (k : ℕ) (x : A) → stored_at xs k ≡ Some x → k < length xs
  stored_within [] k x e = cc e
  stored_within (o ∷ xs) zero x e = omega arith
  stored_within (o ∷ xs) (suc k) x e = let l = stored_within xs k x e in omega (arith, l)

  -- WHERE NONE IS LET GO

  -- each is there
  abbrev pub AllThere : List (Option A) → Type 0
  AllThere xs = (k : ℕ) → k < length xs → IsTrue (is_some (stored_at xs k))

  pub all_push : (xs : List (Option A)) (y : A) → AllThere xs → AllThere (xs ++ Some y ∷ [])
  all_push [] y all zero l = refl
  all_push [] y all (suc k) l = absurd (omega (arith, l))
  all_push (o ∷ xs) y all zero l = all 0 (omega arith)
  all_push (o ∷ xs) y all (suc k) l = all_push xs y (λ i m. all (suc i) (omega (arith, m))) k (omega (arith, l))

  -- so what isn't there is past the last
  pub past_all : (xs : List (Option A)) (k : ℕ) → AllThere xs → stored_at xs k ≡ None → length xs ≤ k
  past_all [] k all e = omega arith
  past_all (o ∷ xs) zero all e = let t = all 0 (omega arith) in cc (t, e)
  past_all (o ∷ xs) (suc k) all e = let l = past_all xs k (λ i m. all (suc i) (omega (arith, m))) e in omega (arith, l)
