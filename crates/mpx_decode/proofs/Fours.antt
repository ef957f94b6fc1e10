-- Numbers joined in four at once.
use Rattle.std.proofs.Common.{◌≡◌, ℕ, zero, suc, ◌+◌, ◌≤◌, ◌<◌, true, List, [], Ok, length, get_or, set, max, refl, sym, ap, ◌∙◌, subst, arith}
use Rattle.std.proofs.lemmas.List.{get_or_default, get_or-set_other, length-set}
use Rattle.std.specs.Int.{w32}
use Rattle.std.specs.declared.cmp.Ordering.{Ordering}
use Rattle.std.specs.Ordering.{nat_cmp}
use Rattle.std.specs.Cmp.{IsTotalOrder, nat_cmp_total}
use Rattle.std.specs.FinMap.{is_sorted, IsAntisymmetric, nat_cmp-IsAntisymmetric}
use Rattle.join_core.specs.Joins.{Joining}
use Rattle.join_core.specs.Max.{max_joining}
use Rattle.join_core.specs.declared.max.Max.{Max}
use Rattle.mpx_format.specs.Fields.{process, some_calls}
use Rattle.mpx_format.specs.Format.{Format, both, byte, number}
use Rattle.mpx_decode.specs.Raising.{RaisesRow, RaisesRows, StandsInFront, row, rows}
use Rattle.mpx_decode.proofs.OneRow.{joined_at, sorted_at}
use Rattle.mpx_decode.proofs.RaisedRows.{SoFar, entry_row, one_more}
use Rattle.mpx_decode.proofs.RightRows.{row_is_entry}

-- ROWS ONE AFTER THE OTHER

module _ {K J V : Type 0} (R : K → K → Ordering) (view : J → V) (f : Format (K × V)) (j : Joining V) where
  pub rows_append : (n k : ℕ) (a b c : List ℕ) (es fs gs : List (K × J)) → RaisesRows R view f j n a b es fs → RaisesRows R view f j k b c fs gs → RaisesRows R view f j (n + k) a c es gs
  rows_append zero k a b c es fs gs first more =
      let e : k ≡ zero + k = omega arith in
      subst (λ (m : ℕ). RaisesRows R view f j m a c es gs) e (subst (λ (t : List ℕ × List (K × J)). RaisesRows R view f j k t.0 c t.1 gs) (λ i. (first.0 i, first.1 i)) more)
  rows_append (suc n) k a b c es fs gs first more =
      let e : suc (n + k) ≡ suc n + k = omega arith in
      subst (λ (m : ℕ). RaisesRows R view f j m a c es gs) e (first.0, first.1, first.2, rows_append n k first.0 b c first.1 fs gs first.3 more)

module _ {K J V : Type 0} {R : K → K → Ordering} (o : IsTotalOrder R) (exact : IsAntisymmetric R) (key : Format K) (value : Format V) (view : J → V) {j : Joining V} (count : ℕ) (bytes : List ℕ) (old : List (K × J)) where
  -- so many more rows are read, and joined into the entries
  pub rows_so_far : (n i : ℕ) (left after : List ℕ) (now next : List (K × J)) → i + n ≤ count → SoFar R key value view j count i left bytes old now → StandsInFront (rows R key value count) bytes
      → RaisesRows R view (row key value) j n left after now next → SoFar R key value view j count (i + n) after bytes old next
  rows_so_far zero i left after now next le so_far s r =
      let e : i ≡ i + zero = omega arith in
      subst (λ (m : ℕ). SoFar R key value view j count m after bytes old next) e (subst (λ (t : List ℕ × List (K × J)). SoFar R key value view j count i t.0 bytes old t.1) (λ k. (sym r.0 k, sym r.1 k)) so_far)
  rows_so_far (suc n) i left after now next le so_far s r =
      let e : (i + 1) + n ≡ i + suc n = omega arith in
      let one = one_more o exact key value view count bytes old i left r.0 now r.1 (omega (arith, le)) so_far s r.2 in
      subst (λ (m : ℕ). SoFar R key value view j count m after bytes old next) e (rows_so_far n (i + 1) r.0 after r.1 next (omega (arith, le)) one s r.3)

-- ONE NUMBER

abbrev pub number_of : Max → ℕ
number_of m = m.0

abbrev max_with : Max → ℕ → Max
max_with m n = record { 0 = max m.0 n }

-- a process and a number stand at the front
abbrev pub ReadsRow : (bytes after : List ℕ) → (p n : ℕ) → Type 0
ReadsRow bytes after p n = (both byte (λ q. number w32)).read bytes ≡ Ok ((p, n), after)

-- the number at the place is raised to this one
abbrev Sets : (es fs : List (ℕ × Max)) → (at n : ℕ) → Type 0
Sets es fs at n = (e : ℕ × Max) → e ≡ get_or es at e → fs ≡ set es at (e.0, max_with e.1 n)

-- this process stands at the place
abbrev IsOf : List (ℕ × Max) → (at p : ℕ) → Type 0
IsOf es at p = (d : ℕ × Max) → (get_or es at d).0 ≡ p

-- the number was joined in, and all places behind it are as before
record Step (es fs : List (ℕ × Max)) (at : ℕ) (bytes after : List ℕ) : Type 0 where
  pub row : RaisesRow nat_cmp number_of (row process some_calls) max_joining bytes after es fs
  pub rise : is_sorted nat_cmp fs ≡ true
  pub len : length fs ≡ length es
  pub behind : (k : ℕ) (d : ℕ × Max) → at < k → get_or fs k d ≡ get_or es k d

module _ (es : List (ℕ × Max)) (h : is_sorted nat_cmp es ≡ true) (at : ℕ) (lt : at < length es) (p n : ℕ) (small : p < 64) (some : 0 < n) (bytes after : List ℕ) (reads : ReadsRow bytes after p n) where
  set_step : (e : ℕ × Max) → e ≡ get_or es at e → e.0 ≡ p → Step es (set es at (e.0, max_with e.1 n)) at bytes after
  set_step e is key = record {
    row = record {
      key = e.0;
      value = n;
      read = (entry_row nat_cmp process some_calls [] bytes ((p, n), after) (row_is_entry [] bytes after p n reads small some refl)).0 ∙ ap (λ (k : ℕ). Ok ((k, n), after)) (sym key);
      joined = joined_at nat_cmp_total nat_cmp-IsAntisymmetric number_of es h at e (max_with e.1 n) lt is max_joining n refl;
    };
    rise = sorted_at nat_cmp_total nat_cmp-IsAntisymmetric number_of es h at e (max_with e.1 n) lt is;
    len = length-set es at (e.0, max_with e.1 n);
    behind = λ k d later. get_or-set_other es at k (e.0, max_with e.1 n) d (λ (same : k ≡ at). omega (arith, same, later));
  }

  step : (fs : List (ℕ × Max)) → Sets es fs at n → IsOf es at p → Step es fs at bytes after
  step fs sets of =
      let d : ℕ × Max = (0, record { 0 = 0 }) in
      let e : ℕ × Max = get_or es at d in
      let is : e ≡ get_or es at e = get_or_default es at d e lt in
      subst (λ (gs : List (ℕ × Max)). Step es gs at bytes after) (sym (sets e is)) (set_step e is (of d))

-- the process of the entry at the place
pub is_of : (es : List (ℕ × Max)) (at : ℕ) (e : ℕ × Max) (p : ℕ) → at < length es → e ≡ get_or es at e → p ≡ e.0 → IsOf es at p
is_of es at e p lt is key d = ap (λ (x : ℕ × Max). x.0) (get_or_default es at d e lt ∙ sym is) ∙ sym key

-- FOUR

module _ (es a b c fs : List (ℕ × Max)) (at : ℕ) (b0 b1 b2 b3 b4 : List ℕ) (p0 p1 p2 p3 n0 n1 n2 n3 : ℕ) where
  pub four_raised : is_sorted nat_cmp es ≡ true → at + 4 ≤ length es
      → Sets es a at n0 → Sets a b (at + 1) n1 → Sets b c (at + 2) n2 → Sets c fs (at + 3) n3
      → IsOf es at p0 → IsOf es (at + 1) p1 → IsOf es (at + 2) p2 → IsOf es (at + 3) p3
      → (p0 < 64) × (p1 < 64) × (p2 < 64) × (p3 < 64) → (0 < n0) × (0 < n1) × (0 < n2) × (0 < n3)
      → ReadsRow b0 b1 p0 n0 → ReadsRow b1 b2 p1 n1 → ReadsRow b2 b3 p2 n2 → ReadsRow b3 b4 p3 n3
      → RaisesRows nat_cmp number_of (row process some_calls) max_joining 4 b0 b4 es fs × (is_sorted nat_cmp fs ≡ true) × (length fs ≡ length es)
  four_raised h within set0 set1 set2 set3 of0 of1 of2 of3 small some r0 r1 r2 r3 =
      let s0 = step es h at (omega (arith, within)) p0 n0 small.0 some.0 b0 b1 r0 a set0 of0 in
      let s1 = step a s0.rise (at + 1) (omega (arith, within, s0.len)) p1 n1 small.1 some.1 b1 b2 r1 b set1 (λ d. ap (λ (x : ℕ × Max). x.0) (s0.behind (at + 1) d (omega arith)) ∙ of1 d) in
      let s2 = step b s1.rise (at + 2) (omega (arith, within, s0.len, s1.len)) p2 n2 small.2 some.2 b2 b3 r2 c set2
      (λ d. ap (λ (x : ℕ × Max). x.0) (s1.behind (at + 2) d (omega arith) ∙ s0.behind (at + 2) d (omega arith)) ∙ of2 d) in
      let s3 = step c s2.rise (at + 3) (omega (arith, within, s0.len, s1.len, s2.len)) p3 n3 small.3 some.3 b3 b4 r3 fs set3
      (λ d. ap (λ (x : ℕ × Max). x.0) (s2.behind (at + 3) d (omega arith) ∙ s1.behind (at + 3) d (omega arith) ∙ s0.behind (at + 3) d (omega arith)) ∙ of3 d) in
      ((b1, a, s0.row, (b2, b, s1.row, (b3, c, s2.row, (b4, fs, s3.row, (refl, refl))))), s3.rise, s3.len ∙ s2.len ∙ s1.len ∙ s0.len)
