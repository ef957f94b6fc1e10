-- Refused lines that are told, one behind the other, and what is left of a text without them.
use Rattle.std.proofs.Common.{◌≡◌, ◌≤◌, ◌<◌, ℕ, zero, suc, ◌+◌, ◌==◌, nat_lt, ◌⊎◌, Bool, true, false, cond, List, [], ◌∷◌, ◌++◌, length, take, append-nil, append_assoc, Option, Some, None, Result, Ok, Err, inl, inr, arith, ap, subst, sym, ◌∙◌, refl}
use Rattle.std.specs.Prelude.{OnErr, OnOk, codes, slice_index_or, slice_set}
use Rattle.std.specs.List.{enumerate_from, join_with_byte}
use Rattle.std.proofs.lemmas.Bool.{eqb-false, eqb-true}
use Rattle.std.proofs.lemmas.List.{get_or-set_other, get_or-set_same, length-set, take_all, take_more}
use Rattle.join_core.specs.laws.Cases.{answer, no, yes}
use Rattle.mpx_num.specs.declared.own.Operation.{Operation}
use Rattle.mpx_script.specs.Reading.{reading}
use Rattle.mpx_script.specs.ScriptView.{ScriptView}
use Rattle.mpx_script.specs.declared.faults.ScriptError.{ScriptError}
use Rattle.mpx_script.specs.declared.faults.ScriptFault.TheVariants.{NameUnknown}
use Rattle.mpx_explain.specs.RefusedLines.{AreLinesTold, AreRefusalsTold, IsEndTold, IsLastTold, IsLineTold, IsMoreTold, IsRefusalTold, IsToldOrPassed, Keeps, beside_text, ends_all, feed_before, left_after, left_of, refusal_in, refusal_text, with_line, with_line_told, without_refused}

-- TEXTS THAT GROW

pub keeps_same : (old new : List ℕ) → new ≡ old → Keeps old new
keeps_same old new is = record { more = []; is = is ∙ sym (append-nil old) }

pub keeps_then : (old mid new : List ℕ) → Keeps old mid → Keeps mid new → Keeps old new
keeps_then old mid new first second = record {
  more = first.more ++ second.more;
  is = second.is ∙ ap (λ (xs : List ℕ). xs ++ second.more) first.is ∙ append_assoc old first.more second.more;
}

pub told_keeps : (is_told : Bool) (refusal : ScriptError) (old new : List ℕ) → IsRefusalTold is_told refusal old new → Keeps old new
told_keeps is_told refusal old new one = record {
  more = refusal_text is_told refusal ++ beside_text one.beside;
  is = one.is ∙ append_assoc old (refusal_text is_told refusal) (beside_text one.beside);
}

pub passed_keeps : (is_passed is_told : Bool) (refusal : ScriptError) (old new : List ℕ) → IsToldOrPassed is_passed is_told refusal old new → Keeps old new
passed_keeps false is_told refusal old new one = told_keeps is_told refusal old new one
passed_keeps true is_told refusal old new one = keeps_same old new one.1

pub line_keeps : (is_passed is_told : Bool) (read : Result ScriptView ScriptError) (old new : List ℕ) → IsLineTold is_passed is_told read old new → Keeps old new
line_keeps is_passed is_told (Ok script) old new line = absurd line
line_keeps is_passed is_told (Err refusal) old new one = passed_keeps is_passed is_told refusal old new one

pub lines_keep : (ops : List Operation) (text : List ℕ) (count many : ℕ) (old new : List ℕ) → AreLinesTold ops text count many old new → Keeps old new
lines_keep ops text zero many old new none = keeps_same old new none.1
lines_keep ops text (suc n) many old new lines =
    keeps_then old lines.0 new (lines_keep ops text n lines.1 old lines.0 lines.3) (line_keeps lines.2 (nat_lt 0 n) (reading ops (left_after ops text n)) lines.0 new lines.5)

pub more_keeps : (read : Result ScriptView ScriptError) (old new : List ℕ) → IsMoreTold read old new → Keeps old new
more_keeps (Ok script) old new same = keeps_same old new same
more_keeps (Err refusal) old new told = record { more = codes "further lines aren't looked at\n"; is = told }

pub last_keeps : (read : Result ScriptView ScriptError) (old new : List ℕ) → IsLastTold read old new → Keeps old new
last_keeps (Ok script) old new same = keeps_same old new same
last_keeps (Err refusal) old new last = told_keeps false refusal old new last.1

-- ONE REFUSAL

-- a text that is refused
pub refuses : (read : Result ScriptView ScriptError) (refusal : ScriptError) → Some refusal ≡ refusal_in read → read ≡ Err refusal
refuses (Ok script) refusal is = cc
refuses (Err other) refusal is = cc

none_some : {A : Type 0} (a : A) → None ≡ Some a → ⊥
none_some a is = cc

-- a text that isn't
pub more_unrefused : (read : Result ScriptView ScriptError) (old new : List ℕ) → None ≡ refusal_in read → new ≡ old → IsMoreTold read old new
more_unrefused (Ok script) old new is same = same
more_unrefused (Err refusal) old new is same = let none : None ≡ Some refusal = is in absurd (none_some refusal none)

pub last_unrefused : (read : Result ScriptView ScriptError) (old new : List ℕ) → None ≡ refusal_in read → new ≡ old → IsLastTold read old new
last_unrefused (Ok script) old new is same = same
last_unrefused (Err refusal) old new is same = let none : None ≡ Some refusal = is in absurd (none_some refusal none)

-- a refusal that nothing is told behind
pub last_with : (read : Result ScriptView ScriptError) (refusal : ScriptError) (ends : Bool) (old new : List ℕ) → Some refusal ≡ refusal_in read → ends ≡ ends_all refusal.what → ends ≡ true → IsRefusalTold false refusal old new → IsLastTold read old new
last_with read refusal ends old new is ends_it so one =
    subst (λ (r : Result ScriptView ScriptError). IsLastTold r old new) (sym (refuses read refusal is)) (sym ends_it ∙ so, one)

-- there are further ones
pub more_refused : (read : Result ScriptView ScriptError) (refusal : ScriptError) (old new : List ℕ) → Some refusal ≡ refusal_in read → new ≡ old ++ codes "further lines aren't looked at\n" → IsMoreTold read old new
more_refused read refusal old new is told = subst (λ (r : Result ScriptView ScriptError). IsMoreTold r old new) (sym (refuses read refusal is)) told

-- nothing is told of it
pub nothing_told : (refusal : ScriptError) (old : List ℕ) → IsRefusalTold false refusal old old
nothing_told refusal old = record { beside = None; is = sym (append-nil (old ++ []) ∙ append-nil old) }

-- its line, with what is beside it
pub refusal_told : (is_told : Bool) (refusal : ScriptError) (beside : Option (List ℕ)) (old line new : List ℕ) → new ≡ old ++ line → line ≡ refusal_text is_told refusal ++ beside_text beside → IsRefusalTold is_told refusal old new
refusal_told is_told refusal beside old line new told is = record {
  beside = beside;
  is = told ∙ ap (λ (xs : List ℕ). old ++ xs) is ∙ sym (append_assoc old (refusal_text is_told refusal) (beside_text beside));
}

pub told_unless : {E : Type 0} (is_passed is_told : Bool) (refusal : ScriptError) (old new : List ℕ) (pushed : Result (Unit {0}) E) → is_passed ≡ false → OnOk pushed (IsRefusalTold is_told refusal old new) → OnOk pushed (IsToldOrPassed is_passed is_told refusal old new)
told_unless is_passed is_told refusal old new pushed stays one = subst (λ (b : Bool). OnOk pushed (IsToldOrPassed b is_told refusal old new)) (sym stays) one

-- of one that is passed over nothing is
pub passed_over : (is_passed is_told : Bool) (refusal : ScriptError) (old : List ℕ) → is_passed ≡ true → refusal.what ≡ NameUnknown → IsToldOrPassed is_passed is_told refusal old old
passed_over is_passed is_told refusal old so unknown = subst (λ (b : Bool). IsToldOrPassed b is_told refusal old old) (sym so) (unknown, refl)

-- the line of a text that is refused for it
pub line_told : (read : Result ScriptView ScriptError) (refusal : ScriptError) (is_passed is_told : Bool) (old new : List ℕ) → Some refusal ≡ refusal_in read → IsToldOrPassed is_passed is_told refusal old new → IsLineTold is_passed is_told read old new
line_told read refusal is_passed is_told old new is one = subst (λ (r : Result ScriptView ScriptError). IsLineTold is_passed is_told r old new) (sym (refuses read refusal is)) one

-- and the text without it
pub line_left : (read : Result ScriptView ScriptError) (refusal : ScriptError) (text nothing behind : List ℕ) → Some refusal ≡ refusal_in read → nothing ≡ [] → behind ≡ with_line text refusal.line nothing → behind ≡ without_refused read text
line_left read refusal text nothing behind is none left =
    left ∙ ap (with_line text refusal.line) none ∙ ap (λ (r : Result ScriptView ScriptError). without_refused r text) (sym (refuses read refusal is))

-- ONE BEHIND THE OTHER

-- at most ten are told
pub most_more : (is_passed : Bool) (before many : ℕ) → before < 10 → many ≡ with_line_told is_passed before → many ≤ 10
most_more true before many few counts = let same : many ≡ before = counts in omega (arith, few, same)
most_more false before many few counts = let one : many ≡ before + 1 = counts in omega (arith, few, one)

module _ (ops : List Operation) (text : List ℕ) where
  pub no_lines : (old : List ℕ) → AreLinesTold ops text 0 0 old old
  no_lines old = (refl, refl)

  -- with one line more
  pub lines_more : (n before many : ℕ) (is_passed : Bool) (rest old had new : List ℕ) → rest ≡ left_after ops text n → AreLinesTold ops text n before old had → many ≡ with_line_told is_passed before → IsLineTold is_passed (nat_lt 0 n) (reading ops rest) had new
      → AreLinesTold ops text (n + 1) many old new
  lines_more n before many is_passed rest old had new left lines counts line =
      let k : suc n ≡ n + 1 = omega arith in
      subst (λ (m : ℕ). AreLinesTold ops text m many old new) k (had, before, is_passed, lines, counts, subst (λ (r : List ℕ). IsLineTold is_passed (nat_lt 0 n) (reading ops r) had new) left line)

  pub left_more : (n : ℕ) (rest behind : List ℕ) → rest ≡ left_after ops text n → behind ≡ without_refused (reading ops rest) rest → behind ≡ left_after ops text (n + 1)
  left_more n rest behind left is =
      let k : suc n ≡ n + 1 = omega arith in
      is ∙ ap (left_of ops) left ∙ ap (left_after ops text) k

  -- and with what ends them
  pub refusals_told : (n many : ℕ) (rest old had new : List ℕ) → rest ≡ left_after ops text n → n ≤ 100 → many ≤ 10 → AreLinesTold ops text n many old had → IsEndTold n many (reading ops rest) had new → AreRefusalsTold ops text old new
  refusals_told n many rest old had new left few most lines end = record {
    count = n;
    few = few;
    many = many;
    most = most;
    lines = had;
    each = lines;
    end = subst (λ (r : List ℕ). IsEndTold n many (reading ops r) had new) left end;
  }

  pub further_told : {E : Type 0} (n many : ℕ) (rest old had new : List ℕ) (pushed : Result (Unit {0}) E) → rest ≡ left_after ops text n → n ≤ 100 → many ≤ 10 → (many ≡ 10) ⊎ (n ≡ 100) → AreLinesTold ops text n many old had → OnOk pushed (IsMoreTold (reading ops rest) had new)
      → OnOk pushed (AreRefusalsTold ops text old new)
  further_told n many rest old had new (Ok done) left few most all lines more =
      refusals_told n many rest old had new left few most lines (inr (all, more))
  further_told n many rest old had new (Err e) left few most all lines more = tt

  pub further_keep : {E : Type 0} (n many : ℕ) (rest old had new : List ℕ) (pushed : Result (Unit {0}) E) → AreLinesTold ops text n many old had → OnOk pushed (IsMoreTold (reading ops rest) had new) → OnErr pushed (new ≡ had) → Keeps old new
  further_keep n many rest old had new (Ok done) lines more same = keeps_then old had new (lines_keep ops text n many old had lines) (more_keeps (reading ops rest) had new more)
  further_keep n many rest old had new (Err e) lines more same = keeps_then old had new (lines_keep ops text n many old had lines) (keeps_same had new same)

-- A TEXT WITH ANOTHER LINE

joined_more : (x : List ℕ) (xs : List (List ℕ)) (y : List ℕ) → join_with_byte 10 ((x ∷ xs) ++ y ∷ []) ≡ (join_with_byte 10 (x ∷ xs) ++ 10 ∷ []) ++ y
joined_more x [] y = sym (append_assoc x (10 ∷ []) y)
joined_more x (z ∷ zs) y =
    let whole : List ℕ = join_with_byte 10 (z ∷ zs) in
    ap (λ (r : List ℕ). x ++ 10 ∷ r) (joined_more z zs y ∙ append_assoc whole (10 ∷ []) y) ∙ sym (append_assoc (x ++ 10 ∷ whole) (10 ∷ []) y ∙ append_assoc x (10 ∷ whole) ((10 ∷ []) ++ y))

pub feed_some : (n : ℕ) → 0 < n → feed_before n ≡ 10 ∷ []
feed_some zero some = absurd (omega (arith, some))
feed_some (suc n) some = refl

-- one line more behind the first so many
pub with_more : (lines : List (List ℕ)) (n : ℕ) (line had fed new : List ℕ) → n < length lines → line ≡ slice_index_or lines n line → had ≡ join_with_byte 10 (take n lines) → fed ≡ had ++ feed_before n → new ≡ fed ++ line → new ≡ join_with_byte 10 (take (n + 1) lines)
with_more [] n line had fed new within is so feeds told = absurd (omega (arith, within))
with_more (x ∷ xs) zero line had fed new within is so feeds told =
    told ∙ ap (λ (h : List ℕ). h ++ line) (feeds ∙ append-nil had ∙ so) ∙ is ∙ sym (ap (join_with_byte 10) (take_more (x ∷ xs) 0 line within))
with_more (x ∷ xs) (suc m) line had fed new within is so feeds told =
    told
    ∙ ap (λ (h : List ℕ). h ++ line) (feeds ∙ ap (λ (h : List ℕ). h ++ 10 ∷ []) so)
    ∙ sym (joined_more x (take m xs) line)
    ∙ ap (λ (l : List ℕ). join_with_byte 10 ((x ∷ take m xs) ++ l ∷ [])) is
    ∙ sym (ap (join_with_byte 10) (take_more (x ∷ xs) (suc m) line within))

enumerated : (pieces : List (List ℕ)) (a n : ℕ) (d : ℕ × List ℕ) → n < length pieces → slice_index_or (enumerate_from a pieces) n d ≡ (a + n, slice_index_or pieces n d.1)
enumerated [] a n d within = absurd (omega (arith, within))
enumerated (x ∷ xs) a zero d within = let at : a ≡ a + 0 = omega arith in λ j. (at j, x)
enumerated (x ∷ xs) a (suc n) d within =
    let at : a + 1 + n ≡ a + suc n = omega arith in
    enumerated xs (a + 1) n d (omega (arith, within)) ∙ (λ j. (at j, slice_index_or xs n d.1))

pub length_enumerated : (pieces : List (List ℕ)) (a : ℕ) → length (enumerate_from a pieces) ≡ length pieces
length_enumerated [] a = refl
length_enumerated (x ∷ xs) a = ap suc (length_enumerated xs (a + 1))

chosen_is : (pieces : List (List ℕ)) (k n : ℕ) (other piece line : List ℕ) → n < length pieces → piece ≡ slice_index_or pieces n piece → line ≡ cond (n == k) other piece → line ≡ slice_index_or (slice_set pieces k other) n line
chosen_is pieces k n other piece line within is chose = elim (answer (n == k)) [
  | yes t ↦
      let same : n ≡ k = eqb-true n k t in
      chose ∙ ap (λ (b : Bool). cond b other piece) t ∙ sym (get_or-set_same pieces n other line within) ∙ ap (λ (m : ℕ). slice_index_or (slice_set pieces m other) n line) same
  | no f ↦
      let here : line ≡ piece = chose ∙ ap (λ (b : Bool). cond b other piece) f in
      here ∙ is ∙ ap (λ (d : List ℕ). slice_index_or pieces n d) (sym here) ∙ sym (get_or-set_other pieces k n other line (eqb-false n k f))
]

-- one turn of the lines of a text, of which the one with the place k is another
pub turn_more : (pieces : List (List ℕ)) (k n place : ℕ) (other piece line had fed new : List ℕ) → n < length (enumerate_from 0 pieces) → ◌≡◌ {A = ℕ × List ℕ} (place, piece) (slice_index_or (enumerate_from 0 pieces) n (place, piece))
    → had ≡ join_with_byte 10 (take n (slice_set pieces k other)) → fed ≡ had ++ feed_before place → line ≡ cond (place == k) other piece → new ≡ fed ++ line
    → new ≡ join_with_byte 10 (take (n + 1) (slice_set pieces k other))
turn_more pieces k n place other piece line had fed new within turn so feeds chose told =
    let inside : n < length pieces = omega (arith, within, length_enumerated pieces 0) in
    let at = turn ∙ enumerated pieces 0 n (place, piece) inside in
    let here : place ≡ n = omega (arith, ap (λ (p : ℕ × List ℕ). p.0) at) in
    let is : piece ≡ slice_index_or pieces n piece = ap (λ (p : ℕ × List ℕ). p.1) at in
    with_more (slice_set pieces k other) n line had fed new (omega (arith, inside, length-set pieces k other))
    (chosen_is pieces k n other piece line inside is (chose ∙ ap (λ (m : ℕ). cond (m == k) other piece) here)) so (feeds ∙ ap (λ (m : ℕ). had ++ feed_before m) here) told

-- all of them
pub turns_end : (pieces : List (List ℕ)) (k n : ℕ) (other had : List ℕ) → n ≡ length (enumerate_from 0 pieces) → had ≡ join_with_byte 10 (take n (slice_set pieces k other)) → had ≡ join_with_byte 10 (slice_set pieces k other)
turns_end pieces k n other had all so =
    so ∙ ap (join_with_byte 10) (take_all n (slice_set pieces k other) (omega (arith, all, length_enumerated pieces 0, length-set pieces k other)))
