-- Values exchanged at their places, and exchanged back.
use Rattle.std.proofs.Common.{◌≡◌, ℕ, zero, suc, ◌+◌, ◌<◌, ◌≤◌, true, nat_le, ◌&&◌, List, [], ◌∷◌, ◌++◌, length, get_or, map, set, take, drop, refl, sym, ap, ◌∙◌, arith}
use Rattle.std.proofs.lemmas.Bool.Decides.{nat_tests}
use Rattle.std.proofs.lemmas.List.{append-nil, drop_all, get_or-set_same, length-set, set-get_or, set-set, take_all}
use Rattle.std.specs.Option.{option_map}
use Rattle.std.specs.declared.cmp.Ordering.{Ordering}
use Rattle.std.specs.Cmp.{IsTotalOrder}
use Rattle.std.specs.FinMap.{FinMap, IsAntisymmetric, is_sorted, from_sorted, insert}
use Rattle.join_core.specs.laws.Cases.{both_true, first_true, second_true}
use Rattle.join_nest.specs.Place.{IsAt, IsGap}
use Rattle.join_nest.specs.Placed.{rise_from, set_value, set_values, taken, taken_at, values_in, with_values, with_values_under}
use Rattle.join_nest.specs.Seen.{keyed_view, seen}
use Rattle.join_nest.proofs.Places.{find_in_gap, holds, set_is_put, taken_at as found_at}
use Rattle.join_nest.proofs.RaisedPlaces.{seen_rising, sorted_set, sorted_values}
use Rattle.join_nest.proofs.Views.{entries_of, get_view, view_put}

-- AT ONE PLACE

module _ {K J : Type 0} where
  pub set_is_value : (es : List (K × J)) (at : ℕ) (e : K × J) (v : J) → at < length es → e ≡ get_or es at e → set es at (e.0, v) ≡ set_value es at v
  set_is_value [] at e v lt is = absurd (omega arith)
  set_is_value (x ∷ es) zero e v lt is = ap (λ (y : K × J). (y.0, v) ∷ es) is
  set_is_value (x ∷ es) (suc at) e v lt is = ap (λ l. x ∷ l) (set_is_value es at e v (omega arith) is)

  pub taken_is : (es : List (K × J)) (at : ℕ) (e : K × J) (v : J) → at < length es → e ≡ get_or es at e → e.1 ≡ taken_at es at v
  taken_is [] at e v lt is = absurd (omega arith)
  taken_is (x ∷ es) zero e v lt is = ap (λ (y : K × J). y.1) is
  taken_is (x ∷ es) (suc at) e v lt is = taken_is es at e v (omega arith) is

  pub past_stays : (es : List (K × J)) (at : ℕ) (v : J) → length es ≤ at → es ≡ set_value es at v
  past_stays [] at v le = refl
  past_stays (x ∷ es) zero v le = absurd (omega arith)
  past_stays (x ∷ es) (suc at) v le = ap (λ l. x ∷ l) (past_stays es at v (omega arith))

  pub past_taken : (es : List (K × J)) (at : ℕ) (v : J) → length es ≤ at → v ≡ taken_at es at v
  past_taken [] at v le = refl
  past_taken (x ∷ es) zero v le = absurd (omega arith)
  past_taken (x ∷ es) (suc at) v le = past_taken es at v (omega arith)

  apart : (es : List (K × J)) (i k : ℕ) (v w : J) → i < k → set_value (set_value es k w) i v ≡ set_value (set_value es i v) k w
  apart [] i k v w lt = refl
  apart (x ∷ es) zero zero v w lt = absurd (omega arith)
  apart (x ∷ es) zero (suc k) v w lt = refl
  apart (x ∷ es) (suc i) zero v w lt = absurd (omega arith)
  apart (x ∷ es) (suc i) (suc k) v w lt = ap (λ l. x ∷ l) (apart es i k v w (omega arith))

  taken_apart : (es : List (K × J)) (i k : ℕ) (v w : J) → i < k → taken_at (set_value es i v) k w ≡ taken_at es k w
  taken_apart [] i k v w lt = refl
  taken_apart (x ∷ es) zero zero v w lt = absurd (omega arith)
  taken_apart (x ∷ es) zero (suc k) v w lt = refl
  taken_apart (x ∷ es) (suc i) zero v w lt = absurd (omega arith)
  taken_apart (x ∷ es) (suc i) (suc k) v w lt = taken_apart es i k v w (omega arith)

  put_back : (es : List (K × J)) (at : ℕ) (v : J) → set_value (set_value es at v) at (taken_at es at v) ≡ es
  put_back [] at v = refl
  put_back (x ∷ es) zero v = refl
  put_back (x ∷ es) (suc at) v = ap (λ l. x ∷ l) (put_back es at v)

-- ONE AFTER THE OTHER

module _ {K J : Type 0} (es : List (K × J)) (cs : List (ℕ × J)) (i : ℕ) (past : length cs ≤ i) where
  pub all_taken : cs ≡ take i cs ++ taken es (drop i cs)
  all_taken = sym (append-nil cs) ∙ (λ t. sym (take_all i cs past) t ++ taken es (sym (drop_all i cs past) t))

-- AND BACK

module _ {V : Type 0} where
  from_less : (cs : List (ℕ × V)) (n m : ℕ) → n ≤ m → rise_from m cs ≡ true → rise_from n cs ≡ true
  from_less [] n m le h = refl
  from_less (c ∷ cs) n m le h =
      let here : nat_le m c.0 ≡ true = first_true (nat_le m c.0) (rise_from (suc c.0) cs) h in
      both_true (nat_le n c.0) (rise_from (suc c.0) cs) (grind (arith, nat_tests)) (second_true (nat_le m c.0) (rise_from (suc c.0) cs) h)

  later : (c : ℕ × V) (cs : List (ℕ × V)) (i : ℕ) → rise_from (suc i) (c ∷ cs) ≡ true → i < c.0
  later c cs i h =
      let here : nat_le (suc i) c.0 ≡ true = first_true (nat_le (suc i) c.0) (rise_from (suc c.0) cs) h in
      grind (arith, nat_tests)

  after : (c : ℕ × V) (cs : List (ℕ × V)) (n : ℕ) → rise_from n (c ∷ cs) ≡ true → rise_from (suc c.0) cs ≡ true
  after c cs n h = second_true (nat_le n c.0) (rise_from (suc c.0) cs) h

  still_later : (c : ℕ × V) (cs : List (ℕ × V)) (i : ℕ) → rise_from (suc i) (c ∷ cs) ≡ true → rise_from (suc i) cs ≡ true
  still_later c cs i h = let lt : i < c.0 = later c cs i h in from_less cs (suc i) (suc c.0) (omega arith) (after c cs (suc i) h)

module _ {K V : Type 0} where
  set_below : (cs : List (ℕ × V)) (es : List (K × V)) (i : ℕ) (v : V) → rise_from (suc i) cs ≡ true → set_value (set_values es cs) i v ≡ set_values (set_value es i v) cs
  set_below [] es i v h = refl
  set_below (c ∷ cs) es i v h =
      set_below cs (set_value es c.0 c.1) i v (still_later c cs i h)
      ∙ ap (λ l. set_values l cs) (apart es i c.0 v c.1 (later c cs i h))

  taken_above : (cs : List (ℕ × V)) (es : List (K × V)) (i : ℕ) (v : V) → rise_from (suc i) cs ≡ true → taken (set_value es i v) cs ≡ taken es cs
  taken_above [] es i v h = refl
  taken_above (c ∷ cs) es i v h =
      (λ t. (c.0, taken_apart es i c.0 v c.1 (later c cs i h) t) ∷ taken (sym (apart es i c.0 v c.1 (later c cs i h)) t) cs)
      ∙ ap (λ l. (c.0, taken_at es c.0 c.1) ∷ l) (taken_above cs (set_value es c.0 c.1) i v (still_later c cs i h))

  pub exchanged_back : (cs : List (ℕ × V)) (n : ℕ) (es : List (K × V)) → rise_from n cs ≡ true → set_values (set_values es cs) (taken es cs) ≡ es
  exchanged_back [] n es h = refl
  exchanged_back (c ∷ cs) n es h =
      let more = set_value es c.0 c.1 in
      let old = taken_at es c.0 c.1 in
      ap (λ l. set_values l (taken more cs)) (set_below cs more c.0 old (after c cs n h) ∙ ap (λ l. set_values l cs) (put_back es c.0 c.1))
      ∙ ap (set_values (set_values es cs)) (taken_above cs es c.0 c.1 (after c cs n h))
      ∙ exchanged_back cs (suc c.0) es (after c cs n h)

  pub taken_places : (cs : List (ℕ × V)) (es : List (K × V)) → map (λ c. c.0) (taken es cs) ≡ map (λ c. c.0) cs
  taken_places [] es = refl
  taken_places (c ∷ cs) es = ap (λ l. c.0 ∷ l) (taken_places cs (set_value es c.0 c.1))

  pub taken_rises : (cs : List (ℕ × V)) (n : ℕ) (es : List (K × V)) → rise_from n (taken es cs) ≡ rise_from n cs
  taken_rises [] n es = refl
  taken_rises (c ∷ cs) n es = ap (λ b. nat_le n c.0 && b) (taken_rises cs (suc c.0) (set_value es c.0 c.1))

-- AS VALUES SAY THEM

module _ {K J V : Type 0} (view : J → V) where
  seen_value : (es : List (K × J)) (at : ℕ) (v : J) → seen view (set_value es at v) ≡ set_value (seen view es) at (view v)
  seen_value [] at v = refl
  seen_value (e ∷ es) zero v = refl
  seen_value (e ∷ es) (suc at) v = ap (λ l. (e.0, view e.1) ∷ l) (seen_value es at v)

  seen_taken_at : (es : List (K × J)) (at : ℕ) (v : J) → view (taken_at es at v) ≡ taken_at (seen view es) at (view v)
  seen_taken_at [] at v = refl
  seen_taken_at (e ∷ es) zero v = refl
  seen_taken_at (e ∷ es) (suc at) v = seen_taken_at es at v

  pub seen_values : (cs : List (ℕ × J)) (es : List (K × J)) → seen view (set_values es cs) ≡ set_values (seen view es) (seen view cs)
  seen_values [] es = refl
  seen_values (c ∷ cs) es = seen_values cs (set_value es c.0 c.1) ∙ ap (λ l. set_values l (seen view cs)) (seen_value es c.0 c.1)

  pub seen_taken : (cs : List (ℕ × J)) (es : List (K × J)) → seen view (taken es cs) ≡ taken (seen view es) (seen view cs)
  seen_taken [] es = refl
  seen_taken (c ∷ cs) es =
      ap (λ l. (c.0, view (taken_at es c.0 c.1)) ∷ l) (seen_taken cs (set_value es c.0 c.1))
      ∙ (λ t. (c.0, seen_taken_at es c.0 c.1 t) ∷ taken (seen_value es c.0 c.1 t) (seen view cs))

-- THE KEYS STAY

module _ {K J : Type 0} (R : K → K → Ordering) where
  pub exchanged_sorted : (cs : List (ℕ × J)) (es made : List (K × J)) → made ≡ set_values es cs → is_sorted R es ≡ true → is_sorted R made ≡ true
  exchanged_sorted cs es made e h = ap (is_sorted R) e ∙ sorted_values R es cs ∙ h

  pub place_sorted : (es : List (K × J)) (at : ℕ) (e : K × J) (v : J) → at < length es → e ≡ get_or es at e → is_sorted R es ≡ true → is_sorted R (set es at (e.0, v)) ≡ true
  place_sorted es at e v lt is h = ap (is_sorted R) (set_is_value es at e v lt is) ∙ sorted_set R es at v ∙ h

-- IN THE MAP

module _ {L J V : Type 0} (S : L → L → Ordering) (view : J → V) (es made : List (L × J)) (cs : List (ℕ × J)) (e : made ≡ set_values es cs) (h : is_sorted S es ≡ true) where
  -- the map with these values
  pub map_with : keyed_view S view made ≡ with_values (keyed_view S view es) (seen view cs)
  map_with =
      ap (keyed_view S view) e
      ∙ ap from_sorted (seen_values view cs es)
      ∙ ap (λ l. from_sorted (set_values l (seen view cs))) (sym (entries_of S view es h))

  -- and without them again
  pub map_back : (old : List (ℕ × J)) → old ≡ taken es cs → rise_from 0 cs ≡ true → keyed_view S view es ≡ with_values (keyed_view S view made) (seen view old)
  map_back old o r =
      sym (ap (λ l. from_sorted (set_values l (seen view old))) (entries_of S view made (exchanged_sorted S cs es made e h))
      ∙ (λ t. from_sorted (set_values (seen view (e t)) (seen view (o t))))
      ∙ (λ t. from_sorted (set_values (seen_values view cs es t) (seen_taken view cs es t)))
      ∙ ap from_sorted (exchanged_back (seen view cs) 0 (seen view es) (seen_rising view 0 cs ∙ r)))

module _ {K L M V : Type 0} {R : K → K → Ordering} {S : L → L → Ordering} (o : IsTotalOrder R) (view : M → FinMap S V) (q : K) (es : List (K × M)) (h : is_sorted R es ≡ true) (cs : List (ℕ × V)) where
  pub under_nothing : (at : ℕ) → IsGap R es q at → keyed_view R view es ≡ with_values_under (keyed_view R view es) q cs
  under_nothing at gap = ap (values_in (keyed_view R view es) q cs) (sym (get_view R view es q h ∙ ap (option_map view) (find_in_gap o q es at gap)))

  pub under_place : IsAntisymmetric R → (at : ℕ) (e : K × M) (v : M) → IsAt R es q at → e ≡ get_or es at e → view v ≡ with_values (view e.1) cs → keyed_view R view (set es at (e.0, v)) ≡ with_values_under (keyed_view R view es) q cs
  under_place exact at e v there is new =
      ap (λ k. keyed_view R view (set es at (k, v))) (exact e.0 q (ap (λ x. R x.0 q) is ∙ there.has_key e))
      ∙ ap (keyed_view R view) (set_is_put o exact q v es at (holds _ h) there)
      ∙ view_put o view q v es h
      ∙ ap (insert (keyed_view R view es) q) new
      ∙ ap (values_in (keyed_view R view es) q cs) (sym (get_view R view es q h ∙ ap (option_map view) (sym (found_at o q es at e (holds _ h) there is))))

module _ {K L M V : Type 0} {R : K → K → Ordering} {S : L → L → Ordering} (o : IsTotalOrder R) (view : M → FinMap S V) (q : K) (es : List (K × M)) (h : is_sorted R es ≡ true) (cs : List (ℕ × V)) where
  place_stays : (at : ℕ) (e : K × M) (v : M) → IsAt R es q at → e ≡ get_or es at e → IsAt R (set es at (e.0, v)) q at
  place_stays at e v there is =
      let within : at < length es = there.in_range in
      let long : length (set es at (e.0, v)) ≡ length es = length-set es at (e.0, v) in
      record {
        in_range = omega (arith, within, long);
        has_key = λ d. ap (λ x. R x.0 q) (get_or-set_same es at (e.0, v) d within) ∙ ap (λ x. R x.0 q) is ∙ there.has_key e;
      }

  pub under_back : IsAntisymmetric R → (at : ℕ) (e : K × M) (v : M) → IsAt R es q at → e ≡ get_or es at e → view e.1 ≡ with_values (view v) cs → with_values_under (keyed_view R view (set es at (e.0, v))) q cs ≡ keyed_view R view es
  under_back exact at e v there is old =
      let within : at < length es = there.in_range in
      let made = set es at (e.0, v) in
      let again : set made at e ≡ es = set-set es at (e.0, v) e ∙ ap (set es at) is ∙ set-get_or es at e in
      sym (under_place o view q made (place_sorted R es at e v within is h) cs exact at (e.0, v) e.1 (place_stays at e v there is) (sym (get_or-set_same es at (e.0, v) (e.0, v) within)) old)
      ∙ ap (keyed_view R view) again
