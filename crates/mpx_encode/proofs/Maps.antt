-- Maps by their entries: how they are spelled, and when they fit.
use Rattle.std.proofs.Common.{◌≡◌, ℕ, zero, suc, ◌+◌, ◌*◌, ◌^◌, ◌≤◌, ◌<◌, Bool, true, not, ◌&&◌, eqb, List, [], ◌∷◌, ◌++◌, length, Option, Some, None, Result, Ok, Err, refl, sym, ap, ◌∙◌, arith, length-append, append_assoc}
use Rattle.std.specs.Prelude.{nat_lt, IfSome, OnOk}
use Rattle.std.specs.Ordering.{nat_cmp}
use Rattle.std.proofs.lemmas.Bool.{lt-ltb, ltb-true}
use Rattle.std.specs.declared.cmp.Ordering.{Ordering}
use Rattle.std.specs.FinMap.{FinMap, is_sorted, entries, len, len-entries}
use Rattle.std.specs.List.{list_all}
use Rattle.join_core.specs.laws.Cases.{both_true, first_true, second_true}
use Rattle.mpx_format.specs.Format.{Format, byte, many_fit}
use Rattle.mpx_format.specs.Rising.{entry, keyed}
use Rattle.mpx_format.specs.Fields.{process, some_byte, some_calls}
use Rattle.mpx_board.specs.Tidy.{is_bare}
use Rattle.mpx_encode.specs.Entries.{entries_spelled, entry_spelled, both_pass}
use Rattle.mpx_encode.proofs.Rising.{entries_alike, entries_pass, entries_fit, sorted_rising, sorted_few}

-- behind so many bytes the others
pub written_behind : (old out new xs ys : List ℕ) → out ≡ old ++ xs → new ≡ out ++ ys → new ≡ old ++ (xs ++ ys)
written_behind old out new xs ys first then = then ∙ ap (λ l. l ++ ys) first ∙ append_assoc old xs ys

-- the same where writing the others may fail, for what is spelled by both
pub told_behind : {E : Type 0} (answer : Result (Unit {0}) E) (old out new xs ys all : List ℕ) → all ≡ xs ++ ys → out ≡ old ++ xs → OnOk answer (new ≡ out ++ ys) → OnOk answer (new ≡ old ++ all)
told_behind (Ok u) old out new xs ys all is first then = written_behind old out new xs ys first then ∙ ap (λ l. old ++ l) (sym is)
told_behind (Err e) old out new xs ys all is first then = then

pub told_as : {E : Type 0} (answer : Result (Unit {0}) E) (old new xs ys : List ℕ) → xs ≡ ys → OnOk answer (new ≡ old ++ xs) → OnOk answer (new ≡ old ++ ys)
told_as (Ok u) old new xs ys is h = h ∙ ap (λ l. old ++ l) is
told_as (Err e) old new xs ys is h = h

-- and these behind what is spelled
pub told_before : {E : Type 0} (answer : Result (Unit {0}) E) (old new xs ys more : List ℕ) → xs ≡ ys → OnOk answer (new ≡ old ++ (xs ++ more)) → OnOk answer (new ≡ (old ++ ys) ++ more)
told_before (Ok u) old new xs ys more is h = h ∙ sym (append_assoc old xs more) ∙ ap (λ l. (old ++ l) ++ more) is
told_before (Err e) old new xs ys more is h = h

module _ {K V : Type 0} (R : K → K → Ordering) (count : Format ℕ) (key : Format K) (value : Format V) (says : V → Bool) (m : FinMap R V) (es : List (K × V)) where
  pub keyed_spelling : es ≡ entries m → (keyed R count key value says).spelling m ≡ count.spelling (length es) ++ entries_spelled key value es
  keyed_spelling is =
      ap (λ l. count.spelling (length (entries m)) ++ l) (entries_alike R None key value says (entries m))
      ∙ ap (λ (l : List (K × V)). count.spelling (length l) ++ entries_spelled key value l) (sym is)

  pub keyed_length : (n : ℕ) → es ≡ entries m → length (count.spelling (length es)) ≡ n → length ((keyed R count key value says).spelling m) ≡ n + length (entries_spelled key value es)
  keyed_length n is e = ap length (keyed_spelling is) ∙ length-append (count.spelling (length es)) (entries_spelled key value es) ∙ ap (λ k. k + length (entries_spelled key value es)) e

  pub keyed_count : es ≡ entries m → (keyed R count key value says).fits m ≡ true → count.fits (length es) ≡ true
  keyed_count is h = ap (λ (l : List (K × V)). count.fits (length l)) is ∙ first_true (count.fits (length (entries m))) (many_fit (entry R None key value says) (length (entries m)) [] (entries m)) h

  pub keyed_pass : es ≡ entries m → (keyed R count key value says).fits m ≡ true → both_pass key.fits value.fits es ≡ true
  keyed_pass is h =
      ap (both_pass key.fits value.fits) is ∙ entries_pass R None key value says (length (entries m)) (entries m) (second_true (count.fits (length (entries m))) (many_fit (entry R None key value says) (length (entries m)) [] (entries m)) h)

  pub keyed_fits : es ≡ entries m → is_sorted R es ≡ true → count.fits (length es) ≡ true → both_pass key.fits value.fits es ≡ true → list_all (λ e. says e.1) es ≡ true → (keyed R count key value says).fits m ≡ true
  keyed_fits is s c f t =
      ap (λ (l : List (K × V)). count.fits (length l) && many_fit (entry R None key value says) (length l) [] l) (sym is)
      ∙ both_true _ _ c (entries_fit R None key value says [] es (sorted_rising R es s) f t)

-- HOW MANY ENTRIES THERE ARE

below_64 : (p : ℕ) → process.fits p ≡ true → nat_lt p 64 ≡ true
unfolding process
below_64 p h = second_true (nat_lt p 256) (nat_lt p 64) h

pub keys_below : {K V : Type 0} (p q : K → Bool) (v : V → Bool) → ((k : K) → p k ≡ true → q k ≡ true) → (es : List (K × V)) → both_pass p v es ≡ true → list_all (λ e. q e.0) es ≡ true
keys_below p q v so [] h = refl
keys_below p q v so (e ∷ es) h =
    both_true _ _ (so e.0 (first_true (p e.0) (v e.1) (first_true (p e.0 && v e.1) (both_pass p v es) h))) (keys_below p q v so es (second_true (p e.0 && v e.1) (both_pass p v es) h))

-- of processes there are at most 64
pub few_processes : {V : Type 0} (v : V → Bool) (es : List (ℕ × V)) → is_sorted nat_cmp es ≡ true → both_pass process.fits v es ≡ true → length es ≤ 64
few_processes v es s h = sorted_few 64 es s (keys_below process.fits (λ p. nat_lt p 64) v below_64 es h)

-- as many as a byte can tell
pub byte_count : (n : ℕ) → n ≤ 64 → byte.fits n ≡ true
byte_count n few = lt-ltb n 256 (omega (arith, few))

pub some_byte_count : (n : ℕ) → 0 < n → n ≤ 64 → some_byte.fits n ≡ true
unfolding some_byte
some_byte_count n some few = both_true _ _ (lt-ltb n 256 (omega (arith, few))) (lt-ltb 0 n some)

pub some_byte_below : (n : ℕ) → some_byte.fits n ≡ true → n < 256
unfolding some_byte
some_byte_below n h = ltb-true n 256 (first_true (nat_lt n 256) (nat_lt 0 n) h)

pub byte_below : (n : ℕ) → byte.fits n ≡ true → n < 256
byte_below n h = ltb-true n 256 h

not_zero : (n : ℕ) → not (eqb n 0) ≡ true → 0 < n
not_zero zero h = absurd cc
not_zero (suc n) h = omega arith

-- some entries there are in a map that isn't bare
pub some_entries : {K V : Type 0} {R : K → K → Ordering} (m : FinMap R V) → not (is_bare m) ≡ true → 0 < length (entries m)
some_entries m h = let is = len-entries m in let some = not_zero (len m) h in omega (arith, is, some)

-- what follows where something is left
pub where_left : {P Q : Type 0} (left : Option ℕ) → (P → Q) → IfSome left (λ n. P) → IfSome left (λ n. Q)
where_left None so h = h
where_left (Some n) so h = so h

-- the same of what holds anyway
pub if_left : {P : Type 0} (left : Option ℕ) → P → IfSome left (λ n. P)
if_left None h = tt
if_left (Some n) h = h

-- ROWS

-- a process and a number that isn't 0
pub row_fits : (p n : ℕ) → p < 64 → n < 2 ^ 32 → nat_lt 0 n ≡ true → (process.fits p && some_calls.fits n) ≡ true
unfolding process some_calls
row_fits p n small word some = both_true _ _ (both_true _ _ (lt-ltb p 256 (omega (arith, small))) (lt-ltb p 64 small)) (both_true _ _ (lt-ltb n (2 ^ 32) word) some)

row_length : (e : ℕ × ℕ) → length (entry_spelled process some_calls e) ≡ 5
unfolding process some_calls
row_length e = refl

-- each row has five bytes
pub length_rows : (es : List (ℕ × ℕ)) → length (entries_spelled process some_calls es) ≡ 5 * length es
length_rows [] = refl
length_rows (e ∷ es) = length-append (entry_spelled process some_calls e) (entries_spelled process some_calls es) ∙ omega (arith, row_length e, length_rows es)
