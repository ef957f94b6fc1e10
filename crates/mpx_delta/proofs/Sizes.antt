-- How long spellings are.
use Rattle.std.proofs.Common.{◌≡◌, ◌≤◌, ◌+◌, ◌*◌, ℕ, Bool, List, [], ◌∷◌, ◌++◌, length, None, sym, subst, length-append, arith}
use Rattle.std.specs.Prelude.{All}
use Rattle.std.specs.Int.{w16, w32}
use Rattle.std.proofs.Math.Nat.{suc-mul}
use Rattle.std.proofs.lemmas.List.Elements.{All-head, All-tail}
use Rattle.std.specs.declared.cmp.Ordering.{Ordering}
use Rattle.std.specs.FinMap.{FinMap, entries}
use Rattle.mpx_format.specs.Format.{Format, byte, number, many_spelled, counted}
use Rattle.mpx_format.specs.Rising.{keyed, entry}

-- no spelling has more than n bytes
abbrev pub Short : {V : Type 0} → Format V → ℕ → Type 0
Short {V = V} f n = (v : V) → length (f.spelling v) ≤ n

-- both parts together
pub joined_len : {A : Type 0} (xs ys : List A) (m n : ℕ) → length xs ≤ m → length ys ≤ n → length (xs ++ ys) ≤ m + n
joined_len xs ys m n s t = omega (arith, length-append xs ys, s, t)

pub byte_short : Short byte 1
byte_short n = omega arith

pub short16 : Short (number w16) 2
short16 n = omega arith

pub short32 : Short (number w32) 4
short32 n = omega arith

-- so many values, each of which is short
pub each_len : {V : Type 0} (f : Format V) (n : ℕ) (before vs : List V) → All (λ v. length (f.spelling v) ≤ n) vs → length (many_spelled (λ b. f) before vs) ≤ length vs * n
each_len f n before [] all = omega arith
each_len f n before (v ∷ vs) all =
    omega (arith, suc-mul (length vs) n, joined_len (f.spelling v) (many_spelled (λ b. f) (before ++ v ∷ []) vs) n (length vs * n) (All-head (λ v. length (f.spelling v) ≤ n) v vs all) (each_len f n (before ++ v ∷ []) vs (All-tail (λ v. length (f.spelling v) ≤ n) v vs all)))

pub many_len : {V : Type 0} (f : List V → Format V) (n : ℕ) → ((b : List V) → Short (f b) n) → (before vs : List V) → length (many_spelled f before vs) ≤ length vs * n
many_len f n s before [] = omega arith
many_len f n s before (v ∷ vs) =
    omega (arith, suc-mul (length vs) n, joined_len ((f before).spelling v) (many_spelled f (before ++ v ∷ []) vs) n (length vs * n) (s before v) (many_len f n s (before ++ v ∷ []) vs))

pub counted_len : {V : Type 0} (count : Format ℕ) (f : List V → Format V) (m n : ℕ) → Short count m → ((b : List V) → Short (f b) n) → (vs : List V) → length ((counted count f).spelling vs) ≤ m + length vs * n
counted_len count f m n s t vs = joined_len (count.spelling (length vs)) (many_spelled f [] vs) m (length vs * n) (s (length vs)) (many_len f n t [] vs)

-- MAPS

module _ {K V : Type 0} (R : K → K → Ordering) (count : Format ℕ) (key : Format K) (value : Format V) (says : V → Bool) where
  pub keyed_one : (c a b : ℕ) → Short count c → (m : FinMap R V) (k : K) (v : V) → entries m ≡ (k, v) ∷ [] → length (key.spelling k) ≤ a → length (value.spelling v) ≤ b → length ((keyed R count key value says).spelling m) ≤ c + (a + b)
  keyed_one c a b s m k v is short_key short_value =
      subst (λ es. length ((counted count (entry R None key value says)).spelling es) ≤ c + (a + b)) (sym is)
      (joined_len (count.spelling 1) ((key.spelling k ++ value.spelling v) ++ []) c (a + b) (s 1)
      (omega (arith, length-append (key.spelling k ++ value.spelling v) [], joined_len (key.spelling k) (value.spelling v) a b short_key short_value)))

  pub keyed_none : (c : ℕ) → Short count c → (m : FinMap R V) → entries m ≡ [] → length ((keyed R count key value says).spelling m) ≤ c
  keyed_none c s m is =
      subst (λ es. length ((counted count (entry R None key value says)).spelling es) ≤ c) (sym is)
      (omega (arith, length-append (count.spelling 0) [], s 0))

  pub keyed_len : (c a b : ℕ) → Short count c → Short key a → Short value b → (m : FinMap R V) → length ((keyed R count key value says).spelling m) ≤ c + length (entries m) * (a + b)
  keyed_len c a b s short_key short_value m = counted_len count (entry R None key value says) c (a + b) s (λ before e. joined_len (key.spelling e.0) (value.spelling e.1) a b (short_key e.0) (short_value e.1)) (entries m)
