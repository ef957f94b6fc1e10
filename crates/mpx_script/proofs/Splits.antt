-- The parts of a text between newlines, and of a line between blanks.
use Rattle.std.proofs.Common.{◌≡◌, ℕ, zero, suc, ◌+◌, ◌-◌, ◌<◌, ◌≤◌, ◌==◌, nat_lt, Bool, true, false, not, ◌&&◌, ◌||◌, ◌⊎◌, cond, List, [], ◌∷◌, ◌++◌, length, take, drop, get_or, slice_get, slice_index, Some, refl, sym, ap, ◌∙◌, subst, arith, inl, inr}
use Rattle.std.specs.List.{prefix_len, position_or_len, slice_split, onto_first, filter, list_any}
use Rattle.std.specs.Option.{option_map_or}
use Rattle.std.specs.Str.Lines.{lines, lines_of_parts, strip_carriage_return}
use Rattle.std.proofs.lemmas.Bool.{cases_lt, lt-ltb}
use Rattle.std.proofs.lemmas.List.{append-nil, drop_more, get_or_push, get_or-take, length_push, length-take-le, drop_all, take_all, take_more, nil_from_length, take-append-drop, length-append, length-drop}
use Rattle.std.proofs.lemmas.List.Elements.{filter-append}
use Rattle.std.proofs.lemmas.Option.{slice_get-get_or}
use Rattle.std.proofs.Math.Seq.{take-append_seam}
use Rattle.std.proofs.lemmas.List.Sums.{fails_before_first, passes_at_first}
use Rattle.std.proofs.lemmas.List.Splits.{slice_split_first, slice_split_none}
use Rattle.std.proofs.lemmas.Bool.Decides.{nat_tests}
use Rattle.mpx_script.specs.Words.{words, counts, is_blank, has_bytes}

-- the first word decides
pub counts_by_first : (ws : List (List ℕ)) → counts ws ≡ option_map_or (λ w. not (slice_index w 0 == 35)) (slice_get ws 0) false
unfolding counts
counts_by_first [] = refl
counts_by_first (w ∷ ws) = refl

-- the first part ends at the first element that passes, or is the whole
data FirstPart (p : ℕ → Bool) (xs : List ℕ) : Type 0 where
  whole : drop (position_or_len p xs) xs ≡ [] → slice_split p xs ≡ take (position_or_len p xs) xs ∷ [] → FirstPart p xs
  ended : (y : ℕ) (more : List ℕ) → p y ≡ true → drop (position_or_len p xs) xs ≡ y ∷ more → slice_split p xs ≡ take (position_or_len p xs) xs ∷ slice_split p more → FirstPart p xs

first_part : (p : ℕ → Bool) (xs : List ℕ) → FirstPart p xs
first_part p xs = elim (cases_lt (position_or_len p xs) (length xs)) [
  | inl h ↦ ended (get_or xs (position_or_len p xs) 0) (drop (position_or_len p xs + 1) xs) (passes_at_first p xs 0 h) (drop_more xs (position_or_len p xs) 0 h) (slice_split_first p xs 0 h)
  | inr h ↦ whole (drop_all (position_or_len p xs) xs h) (slice_split_none p xs (λ k d l. fails_before_first p xs k d (omega arith)) ∙ ap (λ part. part ∷ []) (sym (take_all (position_or_len p xs) xs h)))
]

one_more : (n : ℕ) → 1 + n ≡ suc n
one_more n = omega arith

-- blanks before the first word are passed over
blank_first : (b : ℕ) (xs : List ℕ) → is_blank b ≡ true → words (b ∷ xs) ≡ words xs
unfolding words
blank_first b xs h = rw h

words_behind_blanks : (xs : List ℕ) → words (drop (prefix_len is_blank xs) xs) ≡ words xs
words_behind_blanks [] = refl
words_behind_blanks (b ∷ xs) = elim (is_blank b) as (λ v. is_blank b ≡ v → words (drop (cond v (1 + prefix_len is_blank xs) 0) (b ∷ xs)) ≡ words (b ∷ xs))
    [ true ↦ λ h. rw (one_more (prefix_len is_blank xs)) (words_behind_blanks xs ∙ sym (blank_first b xs h)) | false ↦ λ h. refl ] refl

-- a text begins with a word, or is empty
data Begins (xs : List ℕ) : Type 0 where
  empty : xs ≡ [] → Begins xs
  filled : 0 < length (take (position_or_len is_blank xs) xs) → Begins xs

begins_with : (b : ℕ) (xs : List ℕ) → is_blank b ≡ false → 0 < length (take (position_or_len is_blank (b ∷ xs)) (b ∷ xs))
begins_with b xs h = rw h (rw (one_more (position_or_len is_blank xs)) (omega arith))

begins_behind_blanks : (xs : List ℕ) → Begins (drop (prefix_len is_blank xs) xs)
begins_behind_blanks [] = empty refl
begins_behind_blanks (b ∷ xs) = elim (is_blank b) as (λ v. is_blank b ≡ v → Begins (drop (cond v (1 + prefix_len is_blank xs) 0) (b ∷ xs)))
    [ true ↦ λ h. rw (one_more (prefix_len is_blank xs)) (begins_behind_blanks xs) | false ↦ λ h. filled (begins_with b xs h) ] refl

with_word_first : (w : List ℕ) (more : List (List ℕ)) → 0 < length w → filter has_bytes (w ∷ more) ≡ w ∷ filter has_bytes more
with_word_first w more h = let filled : has_bytes w ≡ true = grind (arith, nat_tests) in rw filled

-- the bytes up to a blank are the first word
words_from_part : (xs : List ℕ) → FirstPart is_blank xs → 0 < length (take (position_or_len is_blank xs) xs) → words xs ≡ take (position_or_len is_blank xs) xs ∷ words (drop (position_or_len is_blank xs) xs)
unfolding words
words_from_part xs (whole rest parts) h =
    let w : List ℕ = take (position_or_len is_blank xs) xs in
    ap (filter has_bytes) parts ∙ with_word_first w [] h ∙ ap (λ r. w ∷ words r) (sym rest)
words_from_part xs (ended y more passes rest parts) h =
    let w : List ℕ = take (position_or_len is_blank xs) xs in
    ap (filter has_bytes) parts ∙ with_word_first w (slice_split is_blank more) h ∙ ap (λ ws. w ∷ ws) (sym (blank_first y more passes)) ∙ ap (λ r. w ∷ words r) (sym rest)

-- ys is xs behind its blanks, w its bytes up to the next blank, and rest what follows
pub word_found : (xs ys w rest : List ℕ) → ys ≡ drop (prefix_len is_blank xs) xs → w ≡ take (position_or_len is_blank ys) ys → rest ≡ drop (position_or_len is_blank ys) ys → 0 < length w → words xs ≡ w ∷ words rest
word_found xs ys w rest behind word after h =
    sym (words_behind_blanks xs) ∙ ap words (sym behind) ∙ words_from_part ys (first_part is_blank ys) (subst (λ part. 0 < length part) word h) ∙ cc

none_from : (ys : List ℕ) → Begins ys → length (take (position_or_len is_blank ys) ys) ≡ 0 → ys ≡ []
none_from ys (empty e) h = e
none_from ys (filled l) h = absurd (omega arith)

-- with no word there, nothing is left
pub no_word_found : (xs ys w rest : List ℕ) → ys ≡ drop (prefix_len is_blank xs) xs → w ≡ take (position_or_len is_blank ys) ys → rest ≡ drop (position_or_len is_blank ys) ys → length w ≡ 0 → (words xs ≡ []) × (words rest ≡ [])
unfolding words
no_word_found xs ys w rest behind word after h =
    let nothing : ys ≡ [] = none_from ys (subst Begins (sym behind) (begins_behind_blanks xs)) (ap length (sym word) ∙ h) in
    let gone : rest ≡ [] = after ∙ ap (λ zs. drop (position_or_len is_blank zs) zs) nothing in
    (sym (words_behind_blanks xs) ∙ ap words (sym behind ∙ nothing), ap words gone)

-- a text has a part
pub split_has_part : (p : ℕ → Bool) (xs : List ℕ) → (first : List ℕ) × (more : List (List ℕ)) × (slice_split p xs ≡ first ∷ more)
split_has_part p [] = ([], [], refl)
split_has_part p (b ∷ xs) =
    let later : (first : List ℕ) × (more : List (List ℕ)) × (slice_split p xs ≡ first ∷ more) = split_has_part p xs in
    elim (p b) as (λ v. (first : List ℕ) × (more : List (List ℕ)) × (cond v ([] ∷ slice_split p xs) (onto_first b (slice_split p xs)) ≡ first ∷ more))
    [ true ↦ ([], slice_split p xs, refl) | false ↦ (b ∷ later.0, later.1, ap (onto_first b) later.2) ]

onto_line : (line more : List ℕ) → lines_of_parts (line ∷ slice_split (λ b. b == 10) more) ≡ strip_carriage_return line ∷ lines more
onto_line line more =
    let parts : (first : List ℕ) × (others : List (List ℕ)) × (slice_split (λ b. b == 10) more ≡ first ∷ others) = split_has_part (λ b. b == 10) more in
    ap (λ ps. lines_of_parts (line ∷ ps)) parts.2 ∙ ap (λ ps. strip_carriage_return line ∷ lines_of_parts ps) (sym parts.2)

ended_from_part : (xs line after : List ℕ) (y : ℕ) → FirstPart (λ b. b == 10) xs → line ≡ take (position_or_len (λ b. b == 10) xs) xs → y ∷ after ≡ drop (position_or_len (λ b. b == 10) xs) xs → lines xs ≡ strip_carriage_return line ∷ lines after
ended_from_part xs line after y (whole rest parts) front back = cc
ended_from_part xs line after y (ended z more passes rest parts) front back =
    let same : more ≡ after = cc in
    ap lines_of_parts parts ∙ onto_line (take (position_or_len (λ b. b == 10) xs) xs) more ∙ cc

-- a line that a newline ends
pub line_ended : (xs line after : List ℕ) (y : ℕ) → line ≡ take (position_or_len (λ b. b == 10) xs) xs → y ∷ after ≡ drop (position_or_len (λ b. b == 10) xs) xs → lines xs ≡ strip_carriage_return line ∷ lines after
line_ended xs line after y front back = ended_from_part xs line after y (first_part (λ b. b == 10) xs) front back

last_from_part : (xs line rest : List ℕ) → FirstPart (λ b. b == 10) xs → line ≡ take (position_or_len (λ b. b == 10) xs) xs → rest ≡ drop (position_or_len (λ b. b == 10) xs) xs → length rest ≡ 0 → 0 < length xs → lines xs ≡ line ∷ lines rest
last_from_part xs line rest (whole nothing parts) front back done h =
    let long : length line ≡ length xs = omega (arith, ap length (take-append-drop (position_or_len (λ b. b == 10) xs) xs), length-append (take (position_or_len (λ b. b == 10) xs) xs) (drop (position_or_len (λ b. b == 10) xs) xs), ap length front, ap length nothing) in
    let filled : (length line == 0) ≡ false = grind (arith, nat_tests) in
    ap lines_of_parts (parts ∙ ap (λ part. part ∷ []) (sym front)) ∙ rw filled (ap (λ r. line ∷ lines r) (sym (nil_from_length rest done)))
last_from_part xs line rest (ended z more passes tail parts) front back done h = absurd (omega (arith, ap length tail, ap length back))

-- the last line, which none ends
pub line_last : (xs line rest : List ℕ) → line ≡ take (position_or_len (λ b. b == 10) xs) xs → rest ≡ drop (position_or_len (λ b. b == 10) xs) xs → length rest ≡ 0 → 0 < length xs → lines xs ≡ line ∷ lines rest
line_last xs line rest front back done h = last_from_part xs line rest (first_part (λ b. b == 10) xs) front back done h

-- Blanks within a line

split_append : (p : ℕ → Bool) (xs : List ℕ) (b : ℕ) (ys : List ℕ) → p b ≡ true → slice_split p (xs ++ b ∷ ys) ≡ slice_split p xs ++ slice_split p ys
split_append p [] b ys h = rw h
split_append p (x ∷ xs) b ys h =
    let parts : (first : List ℕ) × (more : List (List ℕ)) × (slice_split p xs ≡ first ∷ more) = split_has_part p xs in
    let later : slice_split p (xs ++ b ∷ ys) ≡ (parts.0 ∷ parts.1) ++ slice_split p ys = split_append p xs b ys h ∙ ap (λ ps. ps ++ slice_split p ys) parts.2 in
    elim (p x) as (λ v. cond v ([] ∷ slice_split p (xs ++ b ∷ ys)) (onto_first x (slice_split p (xs ++ b ∷ ys))) ≡ cond v ([] ∷ slice_split p xs) (onto_first x (slice_split p xs)) ++ slice_split p ys)
    [ true ↦ ap (λ ps. [] ∷ ps) (split_append p xs b ys h) | false ↦ rw (later, parts.2) refl ]

words_at_blank : (xs : List ℕ) (b : ℕ) (ys : List ℕ) → is_blank b ≡ true → words (xs ++ b ∷ ys) ≡ words xs ++ words ys
unfolding words
words_at_blank xs b ys h = ap (filter has_bytes) (split_append is_blank xs b ys h) ∙ filter-append has_bytes (slice_split is_blank xs) (slice_split is_blank ys)

-- a line up to and with a blank has the words of the line up to that
pub words_up_to_blank : (xs : List ℕ) (n : ℕ) → n < length xs → is_blank (get_or xs n 0) ≡ true → words (take (n + 1) xs) ≡ words (take n xs)
unfolding words
words_up_to_blank xs n h blank = ap words (take_more xs n 0 h) ∙ words_at_blank (take n xs) (get_or xs n 0) [] blank ∙ append-nil (words (take n xs))

-- and the rest has the others
words_parted : (xs : List ℕ) (n : ℕ) → n < length xs → is_blank (get_or xs n 0) ≡ true → words xs ≡ words (take (n + 1) xs) ++ words (drop (n + 1) xs)
words_parted xs n h blank =
    ap words (sym (take-append-drop n xs)) ∙ ap (λ rest. words (take n xs ++ rest)) (drop_more xs n 0 h)
    ∙ words_at_blank (take n xs) (get_or xs n 0) (drop (n + 1) xs) blank
    ∙ ap (λ ws. ws ++ words (drop (n + 1) xs)) (sym (words_up_to_blank xs n h blank))

unsplit : (p : ℕ → Bool) (xs : List ℕ) → list_any p xs ≡ false → slice_split p xs ≡ xs ∷ []
unsplit p [] h = refl
unsplit p (x ∷ xs) h = elim (p x) as (λ v. (v || list_any p xs) ≡ false → cond v ([] ∷ slice_split p xs) (onto_first x (slice_split p xs)) ≡ (x ∷ xs) ∷ [])
    [ true ↦ λ e. cc e | false ↦ λ e. ap (onto_first x) (unsplit p xs e) ] h

one_word : (w : List ℕ) → list_any is_blank w ≡ false → 0 < length w → words w ≡ w ∷ []
unfolding words
one_word w clean h = ap (filter has_bytes) (unsplit is_blank w clean) ∙ with_word_first w [] h

then_blank : (some blank : Bool) → some ≡ true → (some && not blank) ≡ false → blank ≡ true
then_blank true true e h = refl
then_blank true false e h = cc
then_blank false blank e h = cc

blank_before : (xs : List ℕ) (n : ℕ) → (nat_lt 0 n && not (is_blank (get_or xs (n - 1) 0))) ≡ false → (n ≡ 0) ⊎ ((0 < n) × (is_blank (get_or xs (n - 1) 0) ≡ true))
blank_before xs zero h = inl refl
blank_before xs (suc n) h = inr (omega arith, then_blank (nat_lt 0 (suc n)) (is_blank (get_or xs (suc n - 1) 0)) (lt-ltb 0 (suc n) (omega arith)) h)

parted_before : (xs : List ℕ) (n : ℕ) → n ≤ length xs → (nat_lt 0 n && not (is_blank (get_or xs (n - 1) 0))) ≡ false → words xs ≡ words (take n xs) ++ words (drop n xs)
unfolding words
parted_before xs n within end = elim (blank_before xs n end) [
  | inl none ↦ rw none refl
  | inr some ↦
      let last : n - 1 + 1 ≡ n = omega arith in
      words_parted xs (n - 1) (omega arith) some.1 ∙ ap (λ k. words (take k xs) ++ words (drop k xs)) last
]

none_left : (xs : List ℕ) (n : ℕ) → length xs ≤ n → n ≤ length xs → (nat_lt 0 n && not (is_blank (get_or xs (n - 1) 0))) ≡ false → (nat_lt 0 (length xs) && is_blank (get_or xs (length xs - 1) 0)) ≡ false → length xs ≡ 0
none_left xs n high low up_to_blank bare =
    let same : n ≡ length xs = omega arith in
    elim (blank_before xs n up_to_blank) [
      | inl none ↦ sym same ∙ none
      | inr some ↦
          let here : is_blank (get_or xs (length xs - 1) 0) ≡ true = ap (λ k. is_blank (get_or xs (k - 1) 0)) (sym same) ∙ some.1 in
          let there : nat_lt 0 (length xs) ≡ true = lt-ltb 0 (length xs) (omega arith) in
          let both : (nat_lt 0 (length xs) && is_blank (get_or xs (length xs - 1) 0)) ≡ true = rw (there, here) refl in
          cc (both, bare)
    ]

pub last_of_pushed : (ws : List (List ℕ)) (w : List ℕ) → slice_get (ws ++ w ∷ []) (length (ws ++ w ∷ []) - 1) ≡ Some w
last_of_pushed ws w =
    slice_get-get_or (ws ++ w ∷ []) (length (ws ++ w ∷ []) - 1) [] (omega (arith, length_push ws w))
    ∙ ap Some (get_or_push ws w [] (length (ws ++ w ∷ []) - 1) (omega (arith, length_push ws w)))

pub before_pushed : (ws : List (List ℕ)) (w : List ℕ) → take (length (ws ++ w ∷ []) - 1) (ws ++ w ∷ []) ≡ ws
before_pushed ws w =
    let len : length (ws ++ w ∷ []) - 1 ≡ length ws = omega (arith, length_push ws w) in
    ap (λ n. take n (ws ++ w ∷ [])) len ∙ take-append_seam ws (w ∷ [])

take_nothing : (n : ℕ) → words (take n []) ≡ []
unfolding words
take_nothing zero = refl
take_nothing (suc n) = refl

-- what stands before the blanks at the end of a line ends with none
pub bare_taken : (line : List ℕ) (n : ℕ) → n ≤ length line → (nat_lt 0 n && is_blank (get_or line (n - 1) 0)) ≡ false → (nat_lt 0 (length (take n line)) && is_blank (get_or (take n line) (length (take n line) - 1) 0)) ≡ false
bare_taken line zero within bare = refl
bare_taken line (suc n) within bare =
    rw (length-take-le (suc n) line within) (ap (λ b. nat_lt 0 (suc n) && is_blank b) (get_or-take (suc n) line (suc n - 1) 0 (omega arith)) ∙ bare)

-- line is a line without the blanks at its end, and n bytes of it come up to its last blank
module _ (line : List ℕ) (n : ℕ) (bare : (nat_lt 0 (length line) && is_blank (get_or line (length line - 1) 0)) ≡ false) (within : n ≤ length line) (up_to_blank : (nat_lt 0 n && not (is_blank (get_or line (n - 1) 0))) ≡ false) where
  -- with no word there, nothing is left
  pub no_word_at_end : length (drop n line) ≡ 0 → (words line ≡ []) × (words (take n line) ≡ [])
  unfolding words
  no_word_at_end none =
      let nothing : line ≡ [] = nil_from_length line (none_left line n (omega (arith, length-drop n line)) within up_to_blank bare) in
      (ap words nothing, ap (λ xs. words (take n xs)) nothing ∙ take_nothing n)

  -- else the bytes behind are the last word
  pub word_at_end : list_any is_blank (drop n line) ≡ false → 0 < length (drop n line) → words line ≡ words (take n line) ++ drop n line ∷ []
  word_at_end clean some = parted_before line n within up_to_blank ∙ ap (λ ws. words (take n line) ++ ws) (one_word (drop n line) clean some)
