-- The numbers of one process after another.
use Rattle.std.proofs.Common.{arith, ◌≡◌, ℕ, zero, suc, ◌<◌, ◌+◌, ◌==◌, ◌&&◌, ◌||◌, Bool, true, false, T, not, cond, List, [], ◌∷◌, ◌++◌, length, get_or, replicate, take, Option, Some, None, refl, sym, ap, ◌∙◌, nat_lt}
use Rattle.std.proofs.Math.Bool.{or-false}
use Rattle.std.proofs.lemmas.Bool.Decides.{nat_tests}
use Rattle.std.proofs.lemmas.List.{append-nil, map-append, take_more, get_or-replicate}
use Rattle.std.proofs.lemmas.List.Folds.{list_any-append}
use Rattle.join_nest.specs.Entries.{with_key}
use Rattle.mpx_birth.specs.Orders.{upto}
use Rattle.join_core.specs.declared.max.Max.{Max}
use Rattle.join_nest.specs.Seen.{seen}
use Rattle.mpx_digest.specs.Keep.{kept}
use Rattle.mpx_board.specs.Parts.{CallView}
use Rattle.mpx_digest.specs.Reach.{AreMarks, has_posted, is_told_of, numbered, numbers_with, unless_zero}
use Rattle.mpx_post.specs.Drafts.{most_calls}
use Rattle.std.specs.List.{list_any}
use Rattle.std.specs.Ordering.{eq_by_cmp, is_lt, nat_cmp}
use Rattle.std.specs.Cmp.{nat_cmp_total, unsigned_tied}
use Rattle.std.specs.FinMap.{find, is_sorted}
use Rattle.std.specs.FinMap.Entries.{below_all}
use Rattle.join_core.specs.Flat.{FlatView}
use Rattle.join_nest.specs.laws.Entries.{below_tied, less}
use Rattle.mpx_post.specs.Posts.{Given}
use Rattle.mpx_board.specs.Contexts.{or_unknown}
use Rattle.mpx_board.specs.Tidy.{is_unknown}
use Rattle.join_core.specs.laws.Cases.{yes, no, answer, first, second, first_true, is_tied}

-- the numbers of one process more
pub one_more : (n : ℕ) (ns : List ℕ) → numbers_with (ns ++ n ∷ []) ≡ numbers_with ns ++ (n, tt) ∷ []
one_more n [] = refl
one_more n (m ∷ ns) = ap (λ l. (m, tt) ∷ l) (one_more n ns)

key_before : (k : ℕ) (o : Option ℕ) (xs ys : List (ℕ × ℕ)) → with_key k o (xs ++ ys) ≡ with_key k o xs ++ ys
key_before k None xs ys = refl
key_before k (Some w) xs ys = refl

kept_both : (f : ℕ → Unit {0} → Option ℕ) (xs ys : List (ℕ × Unit {0})) → kept f (xs ++ ys) ≡ kept f xs ++ kept f ys
kept_both f [] ys = refl
kept_both f (x ∷ xs) ys = ap (with_key x.0 (f x.0 x.1)) (kept_both f xs ys) ∙ key_before x.0 (f x.0 x.1) (kept f xs) (kept f ys)

pub kept_numbered : (f : ℕ → Unit {0} → Option ℕ) (n : ℕ) → kept f (numbered (n + 1)) ≡ kept f (numbered n) ++ with_key n (f n tt) []
kept_numbered f n = ap (λ m. kept f (numbered m)) (one n) ∙ ap (kept f) (one_more n (upto n)) ∙ kept_both f (numbered n) ((n, tt) ∷ []) where
  one : (n : ℕ) → n + 1 ≡ suc n
  one n = omega arith

pub zero_none : (n : ℕ) → n ≡ 0 → unless_zero n ≡ None
zero_none n is = ap unless_zero is

pub more_some : (n m : ℕ) → m ≡ n → (m ≡ 0 → ⊥) → unless_zero n ≡ Some m
more_some n zero is some = absurd (some refl)
more_some n (suc m) is some = ap unless_zero (sym is) ∙ ap (λ b. cond b (Some (suc m)) None) (positive m) where
  positive : (m : ℕ) → nat_lt 0 (suc m) ≡ true
  positive m = grind (arith, nat_tests)

pub low_calls : (k : ℕ) (b : Bool) → (nat_lt k most_calls && b) ≡ true → k < most_calls
low_calls k b h = let t : nat_lt k most_calls ≡ true = first_true (nat_lt k most_calls) b h in grind (arith, nat_tests, t)

module _ (f : ℕ → Unit {0} → Option ℕ) (n : ℕ) (made more : List (ℕ × Max)) (so_far : seen (λ m. m.0) made ≡ kept f (numbered n)) where
  seen_both : (xs ys : List (ℕ × Max)) → seen (λ m. m.0) (xs ++ ys) ≡ seen (λ m. m.0) xs ++ seen (λ m. m.0) ys
  seen_both [] ys = refl
  seen_both (x ∷ xs) ys = ap (λ l. (x.0, x.1.0) ∷ l) (seen_both xs ys)

  -- a number of one process more
  pub more_kept : (x : ℕ × Max) → more ≡ made ++ x ∷ [] → x.0 ≡ n → f n tt ≡ Some x.1.0 → seen (λ m. m.0) more ≡ kept f (numbered (n + 1))
  more_kept x is key some =
      ap (seen (λ m. m.0)) is ∙ seen_both made (x ∷ []) ∙ ap (λ l. l ++ (x.0, x.1.0) ∷ []) so_far
      ∙ ap (λ k. kept f (numbered n) ++ (k, x.1.0) ∷ []) key
      ∙ ap (λ o. kept f (numbered n) ++ with_key n o []) (sym some) ∙ sym (kept_numbered f n)

  -- none
  pub same_kept : more ≡ made → f n tt ≡ None → seen (λ m. m.0) more ≡ kept f (numbered (n + 1))
  same_kept is none = ap (seen (λ m. m.0)) is ∙ so_far ∙ sym (append-nil (kept f (numbered n))) ∙ ap (λ o. kept f (numbered n) ++ with_key n o []) (sym none) ∙ sym (kept_numbered f n)

-- MARKS

pub no_marks : AreMarks (λ p. false) (replicate 64 false)
no_marks p lt = get_or-replicate 64 p false false lt

-- POSTS THAT ARE TOLD

abbrev pub told_at_key : ℕ → ℕ × FlatView Given → Bool
told_at_key p e = e.0 == p && not (is_unknown e.1)

told_none : (p : ℕ) (es : List (ℕ × FlatView Given)) → T (below_all nat_cmp p es) → list_any (told_at_key p) es ≡ false
told_none p [] h = refl
told_none p (e ∷ es) h = rw (other p e.0 (first _ _ h)) (told_none p es (second _ _ h)) where
  other : (p k : ℕ) → T (is_lt (nat_cmp p k)) → (k == p) ≡ false
  other p k h = grind (arith, nat_tests, less _ h)

-- a post is told where one with its key is
pub told_found : (p : ℕ) (es : List (ℕ × FlatView Given)) → T (is_sorted nat_cmp es) → list_any (told_at_key p) es ≡ not (is_unknown (or_unknown (find nat_cmp p es)))
told_found p [] h = refl
told_found p (e ∷ es) h = elim (answer (eq_by_cmp nat_cmp p e.0)) [
  | yes t ↦ rw (t, here p e.0 t) (ap (λ b. not (is_unknown e.1) || b) (told_none p es (below_tied nat_cmp_total p e.0 es (is_tied _ t) (first _ _ h))) ∙ or-false (not (is_unknown e.1)))
  | no f ↦ rw (f, there p e.0 f) (told_found p es (second _ _ h))
] where
  here : (p k : ℕ) → eq_by_cmp nat_cmp p k ≡ true → (k == p) ≡ true
  here p k t = let u : (p == k) ≡ true = sym (unsigned_tied p k) ∙ t in grind (arith, nat_tests, u)

  there : (p k : ℕ) → eq_by_cmp nat_cmp p k ≡ false → (k == p) ≡ false
  there p k f = let u : (p == k) ≡ false = sym (unsigned_tied p k) ∙ f in grind (arith, nat_tests, u)

-- one call more
pub posted_more : {J : Type 0} (view : J → CallView) (es : List (ℕ × J)) (i : ℕ) (e : ℕ × J) (p : ℕ) → i < length es → e ≡ get_or es i e → has_posted p (seen view (take (i + 1) es)) ≡ (has_posted p (seen view (take i es)) || is_told_of p (view e.1))
posted_more view es i e p lt is =
    ap (λ l. has_posted p (seen view l)) (take_more es i e lt ∙ ap (λ x. take i es ++ x ∷ []) (sym is))
    ∙ ap (has_posted p) (map-append (λ x. (x.0, view x.1)) (take i es) (e ∷ []))
    ∙ list_any-append (λ x. is_told_of p x.1) (seen view (take i es)) ((e.0, view e.1) ∷ [])
    ∙ ap (λ b. has_posted p (seen view (take i es)) || b) (or-false (is_told_of p (view e.1)))
