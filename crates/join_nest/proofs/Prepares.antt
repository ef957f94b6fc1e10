-- Entries that are made before they are put in, by look-ups.
use Rattle.std.proofs.Common.{◌≡◌, true, ◌&&◌, T, List, [], ◌∷◌, ◌++◌, Option, Some, None, refl, sym, ap, ◌∙◌}
use Rattle.std.specs.Option.{option_map}
use Rattle.std.specs.Ordering.{eq_by_cmp, is_lt}
use Rattle.std.specs.declared.cmp.Ordering.{Ordering}
use Rattle.std.specs.Cmp.{IsTotalOrder}
use Rattle.std.specs.FinMap.{find, put, is_sorted, from_sorted, get, get-from_sorted}
use Rattle.std.specs.FinMap.Entries.{below_all, find_tied, find-put, is_sorted-put}
use Rattle.join_core.specs.laws.Cases.{answer, yes, no, is_tied}
use Rattle.join_core.specs.Joins.{Joining}
use Rattle.join_nest.specs.Entries.{put_all}
use Rattle.join_nest.specs.Prepared.{entries_there, joined_there, joined_to, put_over}
use Rattle.join_nest.specs.Seen.{seen, keyed_view}
use Rattle.join_nest.proofs.Places.{holds, holding}
use Rattle.join_nest.proofs.Views.{get_view, sorted_made}

-- WHAT IS MADE

module _ {K J V : Type 0} (R : K → K → Ordering) (view : J → V) (j : Joining V) where
  below_there : (k : K) (others es : List (K × J)) → below_all R k (entries_there R view j others es) ≡ below_all R k others
  below_there k [] es = refl
  below_there k (x ∷ xs) es = ap (λ b. is_lt (R k x.0) && b) (below_there k xs es)

  sorted_there : (others es : List (K × J)) → is_sorted R (entries_there R view j others es) ≡ is_sorted R others
  sorted_there [] es = refl
  sorted_there (x ∷ xs) es = λ i. below_there x.0 xs es i && sorted_there xs es i

  pub there_sorted : (made others es : List (K × J)) → is_sorted R others ≡ true → seen view made ≡ entries_there R view j others es → is_sorted R made ≡ true
  there_sorted made others es h e = sorted_made R view made _ e (holds _ (sorted_there others es ∙ h))

  module _ (o : IsTotalOrder R) where
    find_there : (others es : List (K × J)) (q : K) → find R q (entries_there R view j others es) ≡ joined_there j (option_map view (find R q others)) (option_map view (find R q es))
    find_there [] es q = refl
    find_there (x ∷ xs) es q = elim (answer (eq_by_cmp R q x.0)) [
      | yes t ↦ rw t (ap (λ f. Some (joined_to j (view x.1) (option_map view f))) (find_tied R o q x.0 (is_tied _ t) es))
      | no t ↦ rw t (find_there xs es q)
    ]

    pub there_view : (made others es : List (K × J)) → is_sorted R others ≡ true → is_sorted R es ≡ true → seen view made ≡ entries_there R view j others es
        → (q : K) → get (keyed_view R view made) q ≡ joined_there j (get (keyed_view R view others) q) (get (keyed_view R view es) q)
    there_view made others es h k e q =
        ap (λ l. get (from_sorted {R = R} l) q) e
        ∙ get-from_sorted R (entries_there R view j others es) q (holds _ (sorted_there others es ∙ h))
        ∙ find_there others es q
        ∙ (λ i. joined_there j (sym (get_view R view others q h) i) (sym (get_view R view es q k) i))

-- WHAT IS PUT IN

module _ {K J : Type 0} (R : K → K → Ordering) where
  put_last : (cs es : List (K × J)) (c : K × J) → put_all R (cs ++ c ∷ []) es ≡ put_all R cs (put R c.0 c.1 es)
  put_last [] es c = refl
  put_last (d ∷ cs) es c = ap (put R d.0 d.1) (put_last cs es c)

  -- the last one is put in first
  pub put_popped : (cs left es more : List (K × J)) (c : K × J) → cs ≡ left ++ c ∷ [] → more ≡ put R c.0 c.1 es → put_all R left more ≡ put_all R cs es
  put_popped cs left es more c is put_in = ap (put_all R left) put_in ∙ sym (put_last left es c) ∙ ap (λ l. put_all R l es) (sym is)

module _ {K J : Type 0} {R : K → K → Ordering} (o : IsTotalOrder R) where
  all_sorted : (cs es : List (K × J)) → T (is_sorted R es) → T (is_sorted R (put_all R cs es))
  all_sorted [] es h = h
  all_sorted (c ∷ cs) es h = is_sorted-put R o c.0 c.1 (put_all R cs es) (all_sorted cs es h)

  pub one_sorted : (q : K) (v : J) (es made : List (K × J)) → is_sorted R es ≡ true → made ≡ put R q v es → is_sorted R made ≡ true
  one_sorted q v es made h e = ap (is_sorted R) e ∙ holding _ (is_sorted-put R o q v es (holds _ h))

  pub over_sorted : (cs es made : List (K × J)) → is_sorted R es ≡ true → made ≡ put_all R cs es → is_sorted R made ≡ true
  over_sorted cs es made h e = ap (is_sorted R) e ∙ holding _ (all_sorted cs es (holds _ h))

  find_all : (cs es : List (K × J)) (q : K) → find R q (put_all R cs es) ≡ put_over (find R q cs) (find R q es)
  find_all [] es q = refl
  find_all (c ∷ cs) es q = find-put R o q c.0 c.1 (put_all R cs es) ∙ elim (answer (eq_by_cmp R q c.0)) [ yes t ↦ rw t refl | no t ↦ rw t (find_all cs es q) ]

  module _ {V : Type 0} (view : J → V) where
    over_seen : (x y : Option J) → option_map view (put_over x y) ≡ put_over (option_map view x) (option_map view y)
    over_seen None y = refl
    over_seen (Some v) y = refl

    pub over_view : (cs es made : List (K × J)) → is_sorted R cs ≡ true → is_sorted R es ≡ true → made ≡ put_all R cs es → (q : K) → get (keyed_view R view made) q ≡ put_over (get (keyed_view R view cs) q) (get (keyed_view R view es) q)
    over_view cs es made h k e q =
        get_view R view made q (over_sorted cs es made k e)
        ∙ ap (λ l. option_map view (find R q l)) e
        ∙ ap (option_map view) (find_all cs es q)
        ∙ over_seen (find R q cs) (find R q es)
        ∙ (λ i. put_over (sym (get_view R view cs q h) i) (sym (get_view R view es q k) i))
