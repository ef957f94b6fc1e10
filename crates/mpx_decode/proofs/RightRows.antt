-- Rows whose bytes are all right, one after the other.
use Rattle.std.proofs.Common.{◌≡◌, ℕ, ◌<◌, true, List, [], ◌∷◌, ◌++◌, Some, None, Ok, refl, ap, ◌∙◌, arith}
use Rattle.std.specs.Prelude.{nat_lt}
use Rattle.std.specs.Int.{w32}
use Rattle.std.specs.Ordering.{nat_cmp}
use Rattle.std.proofs.lemmas.Bool.{lt-ltb}
use Rattle.mpx_format.specs.Fields.{process, some_calls}
use Rattle.mpx_format.specs.Format.{◌>>=◌, both, byte, number}
use Rattle.mpx_format.specs.Rising.{always, entry, last_of, may_come}
use Rattle.mpx_format.proofs.FormatLaws.{bind_ok, ok_is}
use Rattle.mpx_format.proofs.Rows.{is_below, last_more}

-- a process below 64 that may come next, with a number that isn't 0
pub row_is_entry : (before : List (ℕ × ℕ)) (bytes after : List ℕ) (p n : ℕ) → (both byte (λ q. number w32)).read bytes ≡ Ok ((p, n), after) → p < 64 → 0 < n → may_come nat_cmp None (last_of before) p ≡ true
    → (entry nat_cmp None process some_calls always before).read bytes ≡ Ok ((p, n), after)
unfolding process some_calls
row_is_entry before bytes after p n e small some may =
    let one = bind_ok (byte.read bytes) (λ (a : ℕ × List ℕ). (number w32).read a.1 >>= λ b. Ok ((a.0, b.0), b.1)) ((p, n), after) e in
    let two = bind_ok ((number w32).read one.0.1) (λ (b : ℕ × List ℕ). Ok ((one.0.0, b.0), b.1)) ((p, n), after) one.2 in
    let is : ((one.0.0, two.0.0), two.0.1) ≡ ((p, n), after) = ok_is ((one.0.0, two.0.0), two.0.1) ((p, n), after) two.2 in
    let of_process : one.0.0 ≡ p = ap (λ (x : (ℕ × ℕ) × List ℕ). x.0.0) is in
    let of_number : two.0.0 ≡ n = ap (λ (x : (ℕ × ℕ) × List ℕ). x.0.1) is in
    let below : nat_lt one.0.0 64 ≡ true = lt-ltb one.0.0 64 (omega arith) in
    let comes : may_come nat_cmp None (last_of before) one.0.0 ≡ true = ap (may_come nat_cmp None (last_of before)) of_process ∙ may in
    let told : nat_lt 0 two.0.0 ≡ true = lt-ltb 0 two.0.0 (omega arith) in
    rw (one.1, below, comes, two.1, told) two.2

last_push : {A : Type 0} (xs : List A) (x : A) → last_of (xs ++ x ∷ []) ≡ Some x
last_push [] x = refl
last_push (y ∷ []) x = refl
last_push (y ∷ z ∷ xs) x = last_more y z (xs ++ x ∷ []) ∙ last_push (z ∷ xs) x

-- a greater process may come after the last one
pub comes_after : {V : Type 0} (es : List (ℕ × V)) (e : ℕ × V) (q : ℕ) → e.0 < q → may_come nat_cmp None (last_of (es ++ e ∷ [])) q ≡ true
comes_after es e q lt = ap (λ last. may_come nat_cmp None last q) (last_push es e) ∙ is_below e.0 q ∙ lt-ltb e.0 q lt
