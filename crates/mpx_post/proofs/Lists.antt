-- Lists that loops make, an element a turn; lists written at one place; and lists of what may be there.
use Rattle.std.proofs.Common.{◌≡◌, ◌∙◌, ℕ, zero, suc, ◌+◌, ◌<◌, ◌≤◌, Bool, true, false, List, [], ◌∷◌, ◌++◌, length, get_or, set, take, drop, map, take_all, Option, Some, None, refl, sym, ap, subst, arith}
use Rattle.std.specs.Prelude.{◌&&◌, IsSome, is_some, option_and_then, slice_get}
use Rattle.std.specs.List.{list_all}
use Rattle.std.specs.Option.{option_map}
use Rattle.std.proofs.lemmas.Bool.{and_parts}
use Rattle.std.proofs.lemmas.List.{map-append, map-set, take_more}
use Rattle.std.proofs.lemmas.Option.{slice_get-get_or, slice_get-map}
use Rattle.mpx_post.specs.Rows.{all_of}

-- after a push of what is made of the next element
pub map_pushed : {A B : Type 0} (f : A → B) (xs : List A) (i : ℕ) (d : A) → i < length xs → (before after : List B) (x : B) → before ≡ map f (take i xs) → after ≡ before ++ x ∷ [] → x ≡ f (get_or xs i d) → after ≡ map f (take (i + 1) xs)
map_pushed f xs i d l before after x was push made =
    let more : map f (take (i + 1) xs) ≡ map f (take i xs) ++ f (get_or xs i d) ∷ [] = ap (map f) (take_more xs i d l) ∙ map-append f (take i xs) (get_or xs i d ∷ []) in
    rw (push, was, made, more)

-- after all of them
pub map_all : {A B : Type 0} (f : A → B) (xs : List A) (i : ℕ) → length xs ≤ i → map f (take i xs) ≡ map f xs
map_all f xs i l = ap (map f) (take_all i xs l)

-- what passes at all elements passes at one
pub all_at : {A : Type 0} (p : A → Bool) (xs : List A) (i : ℕ) (d : A) → i < length xs → list_all p xs ≡ true → p (get_or xs i d) ≡ true
all_at p [] i d l h = absurd (omega arith)
all_at p (x ∷ xs) zero d l h = (and_parts (p x) (list_all p xs) h).0
all_at p (x ∷ xs) (suc i) d l h = all_at p xs i d (omega arith) (and_parts (p x) (list_all p xs) h).1

-- what comes next of what is left
pub next_left : {A : Type 0} (xs : List A) (i : ℕ) (x : A) → i < length xs → x ≡ get_or xs i x → drop i xs ≡ x ∷ drop (i + 1) xs
next_left [] i x l e = absurd (omega (arith, l))
next_left (y ∷ xs) zero x l e = ap (λ z. z ∷ xs) (sym e)
next_left (y ∷ xs) (suc i) x l e =
    let more : suc (i + 1) ≡ suc i + 1 = omega arith in
    next_left xs i x (omega (arith, l)) e ∙ ap (λ n. x ∷ drop n (y ∷ xs)) more

-- WRITTEN AT ONE PLACE

-- where a list was written, it has the new value; elsewhere what it had
pub set_cases : {A : Type 0} (xs : List A) (i p : ℕ) (y x : A) (P : A → Type 0) → slice_get (set xs i y) p ≡ Some x → (p ≡ i → P y) → (slice_get xs p ≡ Some x → (p ≡ i → ⊥) → P x) → P x
set_cases [] i p y x P e f g = cc e
set_cases (z ∷ xs) zero zero y x P e f g = subst P (let q : y ≡ x = cc e in q) (f refl)
set_cases (z ∷ xs) zero (suc p) y x P e f g = g e (λ q. omega (arith, q))
set_cases (z ∷ xs) (suc i) zero y x P e f g = g e (λ q. omega (arith, q))
set_cases (z ∷ xs) (suc i) (suc p) y x P e f g = set_cases xs i p y x P e (λ q. f (ap suc q)) (λ s q. g s (λ r. q (omega (arith, r))))

pub set_twice : {A : Type 0} (xs : List A) (i : ℕ) (x y : A) → set (set xs i x) i y ≡ set xs i y
set_twice [] i x y = refl
set_twice (z ∷ xs) zero x y = refl
set_twice (z ∷ xs) (suc i) x y = ap (λ ys. z ∷ ys) (set_twice xs i x y)

pub set_has : {A : Type 0} (xs : List A) (i : ℕ) (x y : A) → slice_get xs i ≡ Some x → slice_get (set xs i y) i ≡ Some y
set_has [] i x y e = cc e
set_has (z ∷ xs) zero x y e = refl
set_has (z ∷ xs) (suc i) x y e = set_has xs i x y e

pub set_same : {A : Type 0} (xs : List A) (i : ℕ) (x : A) → slice_get xs i ≡ Some x → set xs i x ≡ xs
set_same [] i x e = cc e
set_same (z ∷ xs) zero x e = ap (λ y. y ∷ xs) (let q : x ≡ z = cc e in q)
set_same (z ∷ xs) (suc i) x e = ap (λ ys. z ∷ ys) (set_same xs i x e)

-- what is made of each element, where one is written
pub written : {A B : Type 0} (f : A → B) (xs : List A) (p : ℕ) (x : A) → set (map f xs) p (f x) ≡ map f (set xs p x)
written f xs p x = sym (map-set f xs p x)

pub element : {A B : Type 0} (f : A → B) (xs : List A) (p : ℕ) (d : A) → p < length xs → slice_get (map f xs) p ≡ Some (f (get_or xs p d))
element f xs p d l = slice_get-map f xs p ∙ ap (option_map f) (slice_get-get_or xs p d l)

-- what stands in a list stays where more comes behind
pub slice_get-append : {A : Type 0} (xs ys : List A) (k : ℕ) (x : A) → slice_get xs k ≡ Some x → slice_get (xs ++ ys) k ≡ Some x
slice_get-append [] ys k x e = cc e
slice_get-append (y ∷ xs) ys zero x e = e
slice_get-append (y ∷ xs) ys (suc k) x e = slice_get-append xs ys k x e

-- WHAT MAY BE THERE

pub is_some-and_then : {A B : Type 0} (f : A → Option B) (o : Option A) (b : Bool) → ((x : A) → is_some (f x) ≡ b) → is_some (option_and_then f o) ≡ (is_some o && b)
is_some-and_then f None b h = refl
is_some-and_then f (Some x) b h = h x

-- all are there where each is
pub is_some-all_of : {A B : Type 0} (f : B → Option A) (ps : List B) → is_some (all_of f ps) ≡ list_all (λ p. is_some (f p)) ps
is_some-all_of f [] = refl
is_some-all_of f (p ∷ ps) =
    is_some-and_then (λ x. option_and_then (λ xs. Some (x ∷ xs)) (all_of f ps)) (f p) (list_all (λ q. is_some (f q)) ps) (λ x.
    is_some-and_then (λ xs. Some (x ∷ xs)) (all_of f ps) true (λ xs. refl) ∙ and_true (is_some (all_of f ps)) ∙ is_some-all_of f ps) where
      and_true : (b : Bool) → (b && true) ≡ b
      and_true true = refl
      and_true false = refl

-- what is there, by a test or by an equation
pub is_there : {A : Type 0} (o : Option A) (x : A) → Some x ≡ o → IsSome o
is_there o x e = subst IsSome e refl

pub none_of : {A : Type 0} (o : Option A) → is_some o ≡ false → o ≡ None
none_of None e = refl
none_of (Some x) e = cc e
