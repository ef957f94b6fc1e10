-- Values that are joined at the places of their keys, and those places, which rise.
use Rattle.std.proofs.Common.{◌≡◌, ℕ, zero, suc, ◌+◌, ◌-◌, ◌<◌, ◌≤◌, nat_le, Bool, true, false, cond, ◌&&◌, T, List, [], ◌∷◌, ◌++◌, length, get_or, take, drop, Option, Some, None, refl, sym, ap, ◌∙◌, arith}
use Rattle.std.proofs.lemmas.Bool.Decides.{nat_tests}
use Rattle.std.proofs.lemmas.List.{append-nil, at_drop_all, get_or-drop, get_or-map, length-drop, take_rest}
use Rattle.std.specs.declared.cmp.Ordering.{Ordering}
use Rattle.std.specs.declared.cmp.Ordering.TheVariants.{Less, Equal, Greater}
use Rattle.std.specs.Ordering.{eq_by_cmp, is_lt, ordering_reverse}
use Rattle.std.specs.Cmp.{IsTotalOrder, alike_right}
use Rattle.std.specs.FinMap.{find, is_sorted, from_sorted, get-from_sorted, same_map, IsAntisymmetric}
use Rattle.std.specs.FinMap.Entries.{below_all}
use Rattle.join_core.specs.laws.Cases.{answer, yes, no, is_tied, first, second, first_true, second_true, both_true}
use Rattle.join_core.specs.Joins.{Joining, JoinLaws}
use Rattle.join_nest.specs.laws.Entries.{below_tied, find_below}
use Rattle.join_nest.specs.Keyed.{keyed_joining}
use Rattle.join_nest.specs.laws.Keyed.{get_join}
use Rattle.join_nest.specs.Optional.{option_join}
use Rattle.join_nest.specs.Place.{IsAt}
use Rattle.join_nest.specs.Placed.{raised_at, rise_from, set_value, set_values}
use Rattle.join_nest.specs.Seen.{seen, keyed_view, sorted_seen}
use Rattle.join_nest.proofs.Places.{below_at, find_at, holds, holding}
use Rattle.join_nest.proofs.Steps.{length_seen, seen_more}
use Rattle.join_nest.proofs.Views.{seen_sorted}

-- VALUES SET AT PLACES

module _ {K V : Type 0} where
  pub set_more : (es : List (K × V)) (cs more : List (ℕ × V)) → set_values es (cs ++ more) ≡ set_values (set_values es cs) more
  set_more es [] more = refl
  set_more es (c ∷ cs) more = set_more (set_value es c.0 c.1) cs more

  -- a later place keeps its entry
  set_before : (es : List (K × V)) (at k : ℕ) (v : V) (d : K × V) → at < k → get_or (set_value es at v) k d ≡ get_or es k d
  set_before [] at k v d lt = refl
  set_before (e ∷ es) zero zero v d lt = absurd (omega arith)
  set_before (e ∷ es) zero (suc k) v d lt = refl
  set_before (e ∷ es) (suc at) zero v d lt = absurd (omega arith)
  set_before (e ∷ es) (suc at) (suc k) v d lt = set_before es at k v d (omega arith)

  set_either : (l : Bool) (es : List (K × V)) (at k : ℕ) (v : V) (d : K × V) → at < k → get_or (set_values es (cond l [] ((at, v) ∷ []))) k d ≡ get_or es k d
  set_either true es at k v d lt = refl
  set_either false es at k v d lt = set_before es at k v d lt

  length_set : (es : List (K × V)) (at : ℕ) (v : V) → length (set_value es at v) ≡ length es
  length_set [] at v = refl
  length_set (e ∷ es) zero v = refl
  length_set (e ∷ es) (suc at) v = ap suc (length_set es at v)

  length_values : (es : List (K × V)) (cs : List (ℕ × V)) → length (set_values es cs) ≡ length es
  length_values es [] = refl
  length_values es (c ∷ cs) = length_values (set_value es c.0 c.1) cs ∙ length_set es c.0 c.1

module _ {K V : Type 0} (R : K → K → Ordering) where
  below_set : (k : K) (es : List (K × V)) (at : ℕ) (v : V) → below_all R k (set_value es at v) ≡ below_all R k es
  below_set k [] at v = refl
  below_set k (e ∷ es) zero v = refl
  below_set k (e ∷ es) (suc at) v = ap (λ b. is_lt (R k e.0) && b) (below_set k es at v)

  -- the keys stay
  pub sorted_set : (es : List (K × V)) (at : ℕ) (v : V) → is_sorted R (set_value es at v) ≡ is_sorted R es
  sorted_set [] at v = refl
  sorted_set (e ∷ es) zero v = refl
  sorted_set (e ∷ es) (suc at) v = λ i. below_set e.0 es at v i && sorted_set es at v i

  pub sorted_values : (es : List (K × V)) (cs : List (ℕ × V)) → is_sorted R (set_values es cs) ≡ is_sorted R es
  sorted_values es [] = refl
  sorted_values es (c ∷ cs) = sorted_values (set_value es c.0 c.1) cs ∙ sorted_set es c.0 c.1

  sorted_drop : (n : ℕ) (es : List (K × V)) → T (is_sorted R es) → T (is_sorted R (drop n es))
  sorted_drop zero es h = h
  sorted_drop (suc n) [] h = h
  sorted_drop (suc n) (e ∷ es) h = sorted_drop n es (second _ _ h)

  -- the entries from a place on, as a slice of them says it
  pub sorted_rest : (n : ℕ) (es : List (K × V)) → is_sorted R es ≡ true → is_sorted R (take (length es - n) (drop n es)) ≡ true
  sorted_rest n es h = ap (is_sorted R) (take_rest es n) ∙ holding _ (sorted_drop n es (holds _ h))

module _ {K V : Type 0} {R : K → K → Ordering} (o : IsTotalOrder R) where
  find_set : (q k : K) (es : List (K × V)) (at : ℕ) (v : V) (d : K × V) → T (is_sorted R es) → at < length es → R (get_or es at d).0 k ≡ Equal → find R q (set_value es at v) ≡ cond (eq_by_cmp R q k) (Some v) (find R q es)
  find_set q k [] at v d h lt is = absurd (omega arith)
  find_set q k (e ∷ es) zero v d h lt is = rw (alike_right o e.0 k q is) (elim (answer (eq_by_cmp R q k)) [ yes t ↦ rw t refl | no t ↦ rw t refl ])
  find_set q k (e ∷ es) (suc at) v d h lt is =
      let in_range : at < length es = omega arith in
      let smaller : R e.0 k ≡ Less = sym (alike_right o (get_or es at d).0 k e.0 is) ∙ below_at R e.0 es at d (first _ _ h) in_range in
      let rest : find R q (set_value es at v) ≡ cond (eq_by_cmp R q k) (Some v) (find R q es) = find_set q k es at v d (second _ _ h) in_range is in
      elim (answer (eq_by_cmp R q k)) [
        | yes t ↦
            let greater : R q e.0 ≡ Greater = o.congr q k e.0 (is_tied _ t) ∙ o.antisymm k e.0 ∙ ap ordering_reverse smaller in
            rw (greater, t) (rest ∙ ap (λ b. cond b (Some v) (find R q es)) t)
        | no t ↦ rw t (ap (cond (eq_by_cmp R q e.0) (Some e.1)) (rest ∙ ap (λ b. cond b (Some v) (find R q es)) t))
      ]

-- ONE MORE IS JOINED AT ITS PLACE

module _ {K V : Type 0} {R : K → K → Ordering} (o : IsTotalOrder R) {j : Joining V} (p : JoinLaws j) (q k : K) (es : List (K × V)) (at : ℕ) (v w : V) (d : K × V) (h : T (is_sorted R es)) (lt : at < length es) (is : R (get_or es at d).0 k ≡ Equal) (there : (get_or es at d).1 ≡ v) where
  find_there : eq_by_cmp R q k ≡ true → find R q es ≡ Some v
  find_there t = find_at o q es at d h lt (alike_right o q k _ (is_tied _ t) ∙ is) ∙ ap Some there

  find_raised : find R q (set_values es (raised_at j at v w)) ≡ cond (eq_by_cmp R q k) (Some (j.join v w)) (find R q es)
  find_raised = elim (answer (j.leq w v)) [
    | yes t ↦ rw t (elim (answer (eq_by_cmp R q k)) [
      | yes u ↦ find_there u ∙ ap Some (sym (p.commutative v w ∙ p.leq_sound w v t)) ∙ rw u refl
      | no u ↦ rw u refl
    ])
    | no t ↦ rw t (find_set o q k es at (j.join v w) d h lt is)
  ]

  -- from the others to the entries
  raised_moves : (left : List (K × V)) → T (below_all R k left) → option_join j (find R q (set_values es (raised_at j at v w))) (find R q left) ≡ option_join j (find R q es) (find R q ((k, w) ∷ left))
  raised_moves left below = elim (answer (eq_by_cmp R q k)) [
    | yes t ↦
        let mine : find R q (set_values es (raised_at j at v w)) ≡ Some (j.join v w) = find_raised ∙ rw t refl in
        let none : find R q left ≡ None = find_below o q left (below_tied o q k left (is_tied _ t) below) in
        let first_one : find R q ((k, w) ∷ left) ≡ Some w = rw t refl in
        (λ i. option_join j (mine i) (none i)) ∙ sym (λ i. option_join j (find_there t i) (first_one i))
    | no t ↦
        let mine : find R q (set_values es (raised_at j at v w)) ≡ find R q es = find_raised ∙ rw t refl in
        let later : find R q ((k, w) ∷ left) ≡ find R q left = rw t refl in
        (λ i. option_join j (mine i) (sym later i))
  ]

module _ {V : Type 0} where
  rise_more : (least : ℕ) (cs : List (ℕ × V)) (a b : ℕ) (v w : V) → rise_from least (cs ++ (a, v) ∷ []) ≡ true → a < b → rise_from least ((cs ++ (a, v) ∷ []) ++ (b, w) ∷ []) ≡ true
  rise_more least [] a b v w h lt = let later : nat_le (suc a) b ≡ true = grind (arith, nat_tests) in both_true _ _ (first_true _ _ h) (both_true _ _ later refl)
  rise_more least (c ∷ cs) a b v w h lt = both_true _ _ (first_true _ _ h) (rise_more (suc c.0) cs a b v w (second_true _ _ h) lt)

  rise_either : (l : Bool) (cs : List (ℕ × V)) (a : ℕ) (v : V) → rise_from 0 cs ≡ true → rise_from 0 (cs ++ (a, v) ∷ []) ≡ true → rise_from 0 (cs ++ cond l [] ((a, v) ∷ [])) ≡ true
  rise_either true cs a v none one = ap (rise_from 0) (append-nil cs) ∙ none
  rise_either false cs a v none one = one

  rise_after : (l : Bool) (cs : List (ℕ × V)) (a b : ℕ) (v w : V) → rise_from 0 (cs ++ (a, v) ∷ []) ≡ true → rise_from 0 (cs ++ (b, w) ∷ []) ≡ true → a < b → rise_from 0 ((cs ++ cond l [] ((a, v) ∷ [])) ++ (b, w) ∷ []) ≡ true
  rise_after true cs a b v w one next lt = ap (λ l. rise_from 0 (l ++ (b, w) ∷ [])) (append-nil cs) ∙ next
  rise_after false cs a b v w one next lt = rise_more 0 cs a b v w one lt

  pub seen_rising : {J : Type 0} (view : J → V) (least : ℕ) (cs : List (ℕ × J)) → rise_from least (seen view cs) ≡ rise_from least cs
  seen_rising view least [] = refl
  seen_rising view least (c ∷ cs) = ap (λ b. nat_le least c.0 && b) (seen_rising view (suc c.0) cs)

-- A TURN OF THE LOOP

-- the first others, so many of them, are joined at places before this one: the others that are left bring the rest of the join
abbrev pub Raised : {K J V : Type 0} → (K → K → Ordering) → (J → V) → Joining V → List (K × J) → List (K × J) → List (ℕ × V) → ℕ → ℕ → Type 0
Raised {K} {V = V} R view j entries others made from i = record {
  within : from ≤ length entries;
  found : (q : K) → option_join j (find R q (set_values (seen view entries) made)) (find R q (seen view (drop i others))) ≡ option_join j (find R q (seen view entries)) (find R q (seen view others));
  same_from : (at : ℕ) (d : K × V) → from ≤ at → get_or (set_values (seen view entries) made) at d ≡ get_or (seen view entries) at d;
  rising : rise_from 0 made ≡ true;
  next : (at : ℕ) (v : V) → from ≤ at → rise_from 0 (made ++ (at, v) ∷ []) ≡ true;
}

module _ {K J V : Type 0} {R : K → K → Ordering} (o : IsTotalOrder R) (view : J → V) {j : Joining V} (p : JoinLaws j) (entries others : List (K × J)) (sorted : is_sorted R entries ≡ true) (sorted_others : is_sorted R others ≡ true) (made more : List (ℕ × V)) (from off i : ℕ) (e x : K × J)
    (so_far : Raised R view j entries others made from i) (there : IsAt R (take (length entries - from) (drop from entries)) x.0 off) (lt : i < length others) (is_other : x ≡ get_or others i x) (is_entry : e ≡ get_or entries (from + off) e)
    (add : more ≡ made ++ raised_at j (from + off) (view e.1) (view x.1)) where
  place_within : from + off < length entries
  place_within = omega (arith, there.in_range, ap length (take_rest entries from), length-drop from entries)

  tied_there : R e.0 x.0 ≡ Equal
  tied_there = ap (λ y. R y.0 x.0) (is_entry ∙ sym (get_or-drop from entries off e) ∙ ap (λ l. get_or l off e) (sym (take_rest entries from))) ∙ there.has_key e

  -- the entry there is as it was
  kept_there : get_or (set_values (seen view entries) made) (from + off) (e.0, view e.1) ≡ (e.0, view e.1)
  kept_there =
      so_far.same_from (from + off) (e.0, view e.1) (omega arith)
      ∙ get_or-map (λ y. (y.0, view y.1)) entries (from + off) e (e.0, view e.1) place_within
      ∙ ap (λ y. (y.0, view y.1)) (sym is_entry)

  more_set : set_values (seen view entries) more ≡ set_values (set_values (seen view entries) made) (raised_at j (from + off) (view e.1) (view x.1))
  more_set = ap (set_values (seen view entries)) add ∙ set_more (seen view entries) made _

  below_left : T (below_all R x.0 (seen view (drop (i + 1) others)))
  below_left =
      let left : T (is_sorted R (seen view (drop i others))) = seen_sorted R view (drop i others) (holding _ (sorted_drop R i others (holds _ sorted_others))) in
      first _ _ (holds _ (sym (seen_more view others i x lt is_other (is_sorted R)) ∙ holding _ left))

  found_more : (q : K) → option_join j (find R q (set_values (seen view entries) more)) (find R q (seen view (drop (i + 1) others))) ≡ option_join j (find R q (seen view entries)) (find R q (seen view others))
  found_more q =
      let S = set_values (seen view entries) made in
      let left = seen view (drop (i + 1) others) in
      let sorted_made : T (is_sorted R S) = holds _ (sorted_values R (seen view entries) made ∙ sorted_seen R view entries ∙ sorted) in
      let in_range : from + off < length S = omega (arith, place_within, length_values (seen view entries) made, length_seen view entries) in
      ap (λ l. option_join j (find R q l) (find R q left)) more_set
      ∙ raised_moves o p q x.0 S (from + off) (view e.1) (view x.1) (e.0, view e.1) sorted_made in_range (ap (λ y. R y.0 x.0) kept_there ∙ tied_there) (ap (λ y. y.1) kept_there) left below_left
      ∙ sym (seen_more view others i x lt is_other (λ l. option_join j (find R q S) (find R q l)))
      ∙ so_far.found q

  same_more : (at : ℕ) (d : K × V) → from + off + 1 ≤ at → get_or (set_values (seen view entries) more) at d ≡ get_or (seen view entries) at d
  same_more at d le =
      ap (λ l. get_or l at d) more_set
      ∙ set_either (j.leq (view x.1) (view e.1)) (set_values (seen view entries) made) (from + off) at (j.join (view e.1) (view x.1)) d (omega arith)
      ∙ so_far.same_from at d (omega arith)

  pub raised_more : Raised R view j entries others more (from + off + 1) (i + 1)
  raised_more =
      let below = j.leq (view x.1) (view e.1) in
      let joined = j.join (view e.1) (view x.1) in
      let one = so_far.next (from + off) joined (omega arith) in
      record {
        within = omega (arith, place_within);
        found = found_more;
        same_from = same_more;
        rising = ap (rise_from 0) add ∙ rise_either below made (from + off) joined so_far.rising one;
        next = λ at v le. ap (λ l. rise_from 0 (l ++ (at, v) ∷ [])) add ∙ rise_after below made (from + off) at joined v one (so_far.next at v (omega arith)) (omega arith);
      }

-- ALL ARE JOINED

none_right : {V : Type 0} (j : Joining V) (a : Option V) → option_join j a None ≡ a
none_right j None = refl
none_right j (Some v) = refl

module _ {K J V : Type 0} {R : K → K → Ordering} (o : IsTotalOrder R) (exact : IsAntisymmetric R) (view : J → V) (j : Joining V) where
  pub all_joined : (entries others : List (K × J)) (made : List (ℕ × V)) (from i : ℕ) → is_sorted R entries ≡ true → is_sorted R others ≡ true → length others ≤ i → Raised R view j entries others made from i
      → from_sorted (set_values (seen view entries) made) ≡ (keyed_joining j).join (keyed_view R view entries) (keyed_view R view others)
  all_joined entries others made from i h k past raised = same_map o exact _ _ (λ q.
      get-from_sorted R (set_values (seen view entries) made) q (holds _ (sorted_values R (seen view entries) made ∙ sorted_seen R view entries ∙ h))
      ∙ sym (none_right j _)
      ∙ sym (at_drop_all (λ l. option_join j (find R q (set_values (seen view entries) made)) (find R q (seen view l))) others i past)
      ∙ raised.found q
      ∙ (λ t. option_join j (sym (get-from_sorted R (seen view entries) q (seen_sorted R view entries h)) t) (sym (get-from_sorted R (seen view others) q (seen_sorted R view others k)) t))
      ∙ sym (get_join o j (keyed_view R view entries) (keyed_view R view others) q))
