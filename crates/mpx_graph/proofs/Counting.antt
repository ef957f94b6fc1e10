-- How many pass a test.
use Rattle.std.proofs.Common.{◌≡◌, ℕ, zero, suc, ◌+◌, ◌≤◌, ◌==◌, inl, inr, Bool, true, false, List, [], ◌∷◌, length, cond, map, refl, sym, ap, ◌∙◌, arith}
use Rattle.std.specs.Prelude.{◌&&◌, nat_lt}
use Rattle.std.specs.List.{filter, sum_by}
use Rattle.std.proofs.lemmas.Bool.{cases_order, eq-eqb, le-ltb, lt-ltb, ne_eqb}
use Rattle.std.proofs.lemmas.List.Sums.{count_by-le-length, length-filter, sum_by_push}
use Rattle.mpx_birth.specs.Orders.{upto}

abbrev pub count : {A : Type 0} → (A → Bool) → List A → ℕ
count test xs = length (filter test xs)

length-cond : {A : Type 0} (b : Bool) (x : A) (xs : List A) → length (cond b (x ∷ xs) xs) ≡ cond b 1 0 + length xs
length-cond true x xs = omega arith
length-cond false x xs = omega arith

-- a number below the next one
one_further : (a n : ℕ) → cond (nat_lt a (suc n)) 1 0 ≡ cond (nat_lt a n) 1 0 + cond (a == n) 1 0
one_further a n = elim (cases_order a n) [
  | inl same ↦ rw (lt-ltb a (suc n) (omega (arith, same)), le-ltb a n (omega (arith, same)), eq-eqb a n same) refl
  | inr other ↦ elim other [
    | inl below ↦ rw (lt-ltb a (suc n) (omega (arith, below)), lt-ltb a n below, ne_eqb a n (λ e. omega (arith, e, below))) refl
    | inr above ↦ rw (le-ltb a (suc n) (omega (arith, above)), le-ltb a n (omega (arith, above)), ne_eqb a n (λ e. omega (arith, e, above))) refl
  ]
]

module _ {A : Type 0} where
  count-cons : (p : A → Bool) (x : A) (xs : List A) → count p (x ∷ xs) ≡ cond (p x) 1 0 + count p xs
  count-cons p x xs = length-cond (p x) x (filter p xs)

  -- tests that answer alike
  pub count-same : (p q : A → Bool) → ((x : A) → p x ≡ q x) → (xs : List A) → count p xs ≡ count q xs
  count-same p q same [] = refl
  count-same p q same (x ∷ xs) =
      count-cons p x xs ∙ ap (λ (b : Bool). cond b 1 0 + count p xs) (same x) ∙ ap (λ (n : ℕ). cond (q x) 1 0 + n) (count-same p q same xs) ∙ sym (count-cons q x xs)

  -- no more than there are
  pub count-length : (p : A → Bool) (xs : List A) → count p xs ≤ length xs
  count-length p xs = omega (arith, length-filter p xs, count_by-le-length p xs)

  -- those with a number below the next one
  count-further : (key : A → ℕ) (n : ℕ) (xs : List A) → count (λ x. nat_lt (key x) (suc n)) xs ≡ count (λ x. nat_lt (key x) n) xs + count (λ x. key x == n) xs
  count-further key n [] = refl
  count-further key n (x ∷ xs) = omega (
    arith,
    count-cons (λ y. nat_lt (key y) (suc n)) x xs,
    count-cons (λ y. nat_lt (key y) n) x xs,
    count-cons (λ y. key y == n) x xs,
    one_further (key x) n,
    count-further key n xs,
  )

  -- each has one number at most
  pub counts-below : (key : A → ℕ) (xs : List A) (f : ℕ → ℕ) → ((k : ℕ) → f k ≡ count (λ x. key x == k) xs) → (n : ℕ) → sum_by f (upto n) ≤ count (λ x. nat_lt (key x) n) xs
  counts-below key xs f is zero = omega arith
  counts-below key xs f is (suc n) =
      omega (arith, sum_by_push f (upto n) n, is n, counts-below key xs f is n, count-further key n xs)

length-same : {A B : Type 0} (b : Bool) (x : A) (xs : List A) (y : B) (ys : List B) → length xs ≡ length ys → length (cond b (x ∷ xs) xs) ≡ length (cond b (y ∷ ys) ys)
length-same true x xs y ys e = ap suc e
length-same false x xs y ys e = e

-- of what passes one test, how many pass another once it is changed
pub count-map-filter : {A B : Type 0} (q : B → Bool) (f : A → B) (p : A → Bool) (xs : List A) → count q (map f (filter p xs)) ≡ count (λ x. p x && q (f x)) xs
count-map-filter q f p [] = refl
count-map-filter {A} q f p (x ∷ xs) =
    let both : A → Bool = λ y. p y && q (f y) in
    let more : count q (map f (filter p xs)) ≡ count both xs = count-map-filter q f p xs in
    elim (p x) as (λ b. count q (map f (cond b (x ∷ filter p xs) (filter p xs))) ≡ length (cond (b && q (f x)) (x ∷ filter both xs) (filter both xs))) [
      | true ↦ length-same (q (f x)) (f x) (filter q (map f (filter p xs))) x (filter both xs) more
      | false ↦ more
    ]
