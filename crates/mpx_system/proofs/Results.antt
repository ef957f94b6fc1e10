-- Lists of transcripts, and of those who wait.
use Rattle.std.proofs.Common.{◌≡◌, ℕ, zero, suc, ◌<◌, ◌≤◌, Bool, true, false, cond, ◌&&◌, List, [], ◌∷◌, ◌++◌, length, map, take, Option, Some, None, refl, sym, ap, ◌∙◌, arith}
use Rattle.std.specs.Prelude.{slice_get, nat_lt}
use Rattle.std.specs.List.{list_all}
use Rattle.std.specs.Option.{option_map}
use Rattle.std.proofs.lemmas.List.{map-append}
use Rattle.std.proofs.lemmas.Option.{same_Some, slice_get-map}
use Rattle.std.proofs.lemmas.Bool.Decides.{nat_tests}
use Rattle.mpx_world.proofs.Lists.{slice_get-push}
use Rattle.mpx_meaning.specs.declared.line.Line.{Line}
use Rattle.mpx_meaning.specs.Ranks.{Todo}
use Rattle.mpx_meaning.specs.Evaluation.{IsPrefixOf}
use Rattle.mpx_meaning.specs.Transcripts.{line_text}
use Rattle.mpx_meaning.specs.Reports.{which, is_left}
use Rattle.mpx_meaning.proofs.Tells.{mapped_some}
use Rattle.mpx_post.proofs.Lists.{slice_get-append}

-- LISTS

-- what is among the first of a list
pub taken_at : {A : Type 0} (n : ℕ) (xs : List A) (p : ℕ) (x : A) → slice_get (take n xs) p ≡ Some x → (p < n) × (slice_get xs p ≡ Some x)
taken_at zero xs p x e = cc e
taken_at (suc n) [] p x e = cc e
taken_at (suc n) (y ∷ ys) zero x e = (omega arith, e)
taken_at (suc n) (y ∷ ys) (suc p) x e = let rest = taken_at n ys p x e in (omega (arith, rest.0), rest.1)

pub length_taken : {A : Type 0} (n : ℕ) (xs : List A) → n ≤ length xs → length (take n xs) ≡ n
length_taken zero xs l = refl
length_taken (suc n) [] l = absurd (omega (arith, l))
length_taken (suc n) (x ∷ xs) l = ap suc (length_taken n xs (omega (arith, l)))

pub map_taken : {A B : Type 0} (f : A → B) (n : ℕ) (xs : List A) → map f (take n xs) ≡ take n (map f xs)
map_taken f zero xs = refl
map_taken f (suc n) [] = refl
map_taken f (suc n) (x ∷ xs) = ap (λ ys. f x ∷ ys) (map_taken f n xs)

pub some_at : {A : Type 0} (xs : List A) (p : ℕ) → p < length xs → (x : A) × (slice_get xs p ≡ Some x)
some_at [] p l = absurd (omega (arith, l))
some_at (x ∷ xs) zero l = (x, refl)
some_at (x ∷ xs) (suc p) l = some_at xs p (omega (arith, l))

-- where one doesn't pass, not all pass
pub one_fails : {A : Type 0} (f : A → Bool) (xs : List A) (i : ℕ) (x : A) → slice_get xs i ≡ Some x → f x ≡ false → list_all f xs ≡ false
one_fails f [] i x e none = cc e
one_fails f (y ∷ ys) zero x e none = ap (λ b. b && list_all f ys) (ap f (same_Some y x e) ∙ none)
one_fails f (y ∷ ys) (suc i) x e none = by_first (f y) (one_fails f ys i x e none) where
  by_first : (b : Bool) → list_all f ys ≡ false → (b && list_all f ys) ≡ false
  by_first true rest = rest
  by_first false rest = refl

pub none_mapped : {A B : Type 0} (f : A → B) (o : Option A) → option_map f o ≡ None → o ≡ None
none_mapped f None e = refl
none_mapped f (Some x) e = cc e

-- what is behind the first
pub behind_first : {A : Type 0} (xs : List A) (x : A) → slice_get xs 0 ≡ Some x → (rest : List A) × (xs ≡ x ∷ rest)
behind_first [] x e = cc e
behind_first (y ∷ ys) x e = (ys, ap (λ z. z ∷ ys) (same_Some y x e))

pub mapped_at : {A B : Type 0} (f : A → B) (xs : List A) (p : ℕ) (y : B) → slice_get (map f xs) p ≡ Some y → (x : A) × (slice_get xs p ≡ Some x) × (f x ≡ y)
mapped_at f xs p y e = mapped_some f (slice_get xs p) y (sym (slice_get-map f xs p) ∙ e)

-- WHO WAITS

-- each number that passes the test is there
pub which_has : (test : ℕ → Bool) (n p : ℕ) → p < n → test p ≡ true → (place : ℕ) × (slice_get (which test n) place ≡ Some p)
which_has test zero p l e = absurd (omega (arith, l))
which_has test (suc n) p l e = by_last (nat_lt p n) refl (which_has test n p) where
  by_last : (b : Bool) → nat_lt p n ≡ b → (p < n → test p ≡ true → (place : ℕ) × (slice_get (which test n) place ≡ Some p)) → (place : ℕ) × (slice_get (which test (suc n)) place ≡ Some p)
  by_last true t before =
      let below : p < n = grind (arith, nat_tests, t) in
      let found = before below e in
      (found.0, slice_get-append (which test n) (cond (test n) (n ∷ []) []) found.0 p found.1)
  by_last false t before =
      let above : n ≤ p = grind (arith, nat_tests, t) in
      let same : p ≡ n = omega (arith, l, above) in
      let here : test n ≡ true = ap test (sym same) ∙ e in
      (length (which test n), ap (λ b. slice_get (which test n ++ cond b (n ∷ []) []) (length (which test n))) here ∙ slice_get-push (which test n) n ∙ ap Some (sym same))

pub nothing_left : (todo : List Todo) → (is_left todo ≡ true → ⊥) → todo ≡ []
nothing_left [] none = refl
nothing_left (x ∷ rest) none = absurd (none refl)

-- LINES

pub prefix_map : (xs ys : List Line) → IsPrefixOf xs ys → IsPrefixOf (map line_text xs) (map line_text ys)
prefix_map xs ys p = (map line_text p.0, sym (map-append line_text xs p.0) ∙ ap (map line_text) p.1)
