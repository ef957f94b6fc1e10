-- The steps of a loop over entries that keeps some, or asks something of each.
use Rattle.std.proofs.Common.{◌≡◌, ℕ, ◌+◌, ◌<◌, ◌≤◌, Bool, true, false, List, [], ◌∷◌, ◌++◌, length, take, get_or, Option, Some, None, refl, sym, ap, ◌∙◌, subst, T}
use Rattle.std.specs.declared.cmp.Ordering.{Ordering}
use Rattle.std.specs.FinMap.{is_sorted}
use Rattle.std.specs.List.{list_all}
use Rattle.std.proofs.lemmas.List.{take_more, take_all, append-nil}
use Rattle.std.proofs.lemmas.List.Sums.{AllPass-from_list_all}
use Rattle.join_core.specs.laws.Cases.{both_true, first_true, second_true}
use Rattle.join_nest.specs.Entries.{with_key}
use Rattle.join_nest.specs.Seen.{seen, sorted_seen}
use Rattle.mpx_digest.specs.Keep.{kept}
use Rattle.mpx_digest.proofs.Kept.{sorted_kept}

pub true_of : (b : Bool) → T b → b ≡ true
true_of true t = refl
true_of false t = absurd t

module _ {K V W : Type 0} (f : K → V → Option W) where
  key_before : (k : K) (o : Option W) (xs ys : List (K × W)) → with_key k o (xs ++ ys) ≡ with_key k o xs ++ ys
  key_before k None xs ys = refl
  key_before k (Some w) xs ys = refl

  kept_both : (xs ys : List (K × V)) → kept f (xs ++ ys) ≡ kept f xs ++ kept f ys
  kept_both [] ys = refl
  kept_both (x ∷ xs) ys = ap (with_key x.0 (f x.0 x.1)) (kept_both xs ys) ∙ key_before x.0 (f x.0 x.1) (kept f xs) (kept f ys)

  module _ {J I : Type 0} (view : J → V) (look : I → W) (es : List (K × J)) where
    -- what is kept of the first entries
    abbrev pub KeptSoFar : List (K × I) → ℕ → Type 0
    KeptSoFar made i = seen look made ≡ kept f (seen view (take i es))

    seen_both : (xs ys : List (K × J)) → seen view (xs ++ ys) ≡ seen view xs ++ seen view ys
    seen_both [] ys = refl
    seen_both (x ∷ xs) ys = ap (λ l. (x.0, view x.1) ∷ l) (seen_both xs ys)

    look_both : (xs ys : List (K × I)) → seen look (xs ++ ys) ≡ seen look xs ++ seen look ys
    look_both [] ys = refl
    look_both (x ∷ xs) ys = ap (λ l. (x.0, look x.1) ∷ l) (look_both xs ys)

    pub one_more : (i : ℕ) (e : K × J) → i < length es → e ≡ get_or es i e → kept f (seen view (take (i + 1) es)) ≡ kept f (seen view (take i es)) ++ with_key e.0 (f e.0 (view e.1)) []
    one_more i e lt is =
        ap (λ l. kept f (seen view l)) (take_more es i e lt ∙ ap (λ x. take i es ++ x ∷ []) (sym is))
        ∙ ap (kept f) (seen_both (take i es) (e ∷ []))
        ∙ kept_both (seen view (take i es)) ((e.0, view e.1) ∷ [])

    -- an entry is left out
    pub kept_none : (made : List (K × I)) (i : ℕ) (e : K × J) → i < length es → e ≡ get_or es i e → f e.0 (view e.1) ≡ None → KeptSoFar made i → KeptSoFar made (i + 1)
    kept_none made i e lt is none h = h ∙ sym (append-nil (kept f (seen view (take i es)))) ∙ ap (λ o. kept f (seen view (take i es)) ++ with_key e.0 o []) (sym none) ∙ sym (one_more i e lt is)

    -- an entry is kept
    pub kept_one : (made : List (K × I)) (i : ℕ) (e : K × J) (x : K × I) → i < length es → e ≡ get_or es i e → x.0 ≡ e.0 → f e.0 (view e.1) ≡ Some (look x.1) → KeptSoFar made i → KeptSoFar (made ++ x ∷ []) (i + 1)
    kept_one made i e x lt is key some h =
        look_both made (x ∷ [])
        ∙ ap (λ l. l ++ (x.0, look x.1) ∷ []) h
        ∙ ap (λ k. kept f (seen view (take i es)) ++ (k, look x.1) ∷ []) key
        ∙ ap (λ o. kept f (seen view (take i es)) ++ with_key e.0 o []) (sym some)
        ∙ sym (one_more i e lt is)

    pub kept_whole : (made : List (K × I)) (i : ℕ) → length es ≤ i → KeptSoFar made i → seen look made ≡ kept f (seen view es)
    kept_whole made i le h = h ∙ ap (λ l. kept f (seen view l)) (take_all i es le)

    -- what is kept rises as the entries do
    pub kept_rises : (R : K → K → Ordering) (made : List (K × I)) → is_sorted R es ≡ true → seen look made ≡ kept f (seen view es) → is_sorted R made ≡ true
    kept_rises R made h is = true_of _ (subst T (sorted_seen R look made) (subst (λ l. T (is_sorted R l)) (sym is) (sorted_kept R f (seen view es) (subst T (sym (sorted_seen R view es ∙ h)) tt))))

-- an entry of a list that passes a test
module _ {K J V : Type 0} (view : J → V) (p : K × V → Bool) where
  passes : (es : List (K × J)) → list_all p (seen view es) ≡ true → list_all (λ e. p (e.0, view e.1)) es ≡ true
  passes [] h = refl
  passes (e ∷ es) h = both_true (p (e.0, view e.1)) (list_all (λ e. p (e.0, view e.1)) es) (first_true (p (e.0, view e.1)) (list_all p (seen view es)) h) (passes es (second_true (p (e.0, view e.1)) (list_all p (seen view es)) h))

  pub passes_at : (es : List (K × J)) (vs : List (K × V)) (i : ℕ) (e : K × J) → i < length es → e ≡ get_or es i e → seen view es ≡ vs → list_all p vs ≡ true → p (e.0, view e.1) ≡ true
  passes_at es vs i e lt at is h = subst (λ x. p (x.0, view x.1) ≡ true) (sym at) (AllPass-from_list_all (λ x. p (x.0, view x.1)) es (passes es (ap (list_all p) is ∙ h)) i e lt)
