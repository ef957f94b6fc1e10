-- How the reading of a script follows from its lines.
use Rattle.std.proofs.Common.{◌≡◌, ℕ, zero, suc, ◌+◌, ◌-◌, ◌<◌, ◌≤◌, ◌==◌, Bool, true, false, not, ◌&&◌, ◌⊎◌, inl, inr, cond, List, [], ◌∷◌, ◌++◌, length, get_or, take, drop, map, Option, Some, None, Ok, Err, refl, sym, ap, subst, ◌∙◌, arith, below_more}
use Rattle.std.specs.List.{filter, filter_map, range_with_len, slice_split, onto_first}
use Rattle.std.specs.Option.{option_map}
use Rattle.std.specs.Str.Lines.{lines, lines_of_parts}
use Rattle.std.proofs.lemmas.Bool.{ltb-true, ltb-false, lt-ltb, le-ltb, and_right, and_parts, not-true}
use Rattle.std.proofs.lemmas.Bool.Decides.{nat_tests}
use Rattle.std.proofs.lemmas.List.{take_all, take_more, drop-drop, get_or-drop, length-drop, length-take, map_push}
use Rattle.std.proofs.lemmas.List.Elements.{filter-append}
use Rattle.mpx_num.specs.declared.own.Operation.{Operation}
use Rattle.mpx_script.specs.Words.{words, counts, counting, is_ascii, is_over_limit, script_lines, with_first_line, bytes_limit}
use Rattle.mpx_script.specs.ScriptView.{ScriptView}
use Rattle.mpx_script.specs.Reading.{LineContext, refusal, bounded_context, context_at, error_at, errors, read_as, reading, script_of, ranks_settled, statements_settled, bound_settled, is_bare_script}
use Rattle.mpx_script.specs.PartialScripts.{IsSettled, script_settled, ranks_of_script, bound_of_script}
use Rattle.mpx_script.specs.Sentences.{IsLineRefusal}
use Rattle.mpx_script.specs.Answer.{AnswersReading, at_line}
use Rattle.mpx_script.specs.declared.faults.LineError.{LineError}
use Rattle.mpx_script.specs.declared.faults.LineError.TheVariants.{Fault, OutOfMemory}
use Rattle.mpx_script.specs.declared.reader.PartialScript.{PartialScript}
use Rattle.mpx_script.specs.declared.faults.ScriptFault.{ScriptFault}
use Rattle.mpx_script.specs.declared.faults.ScriptFault.TheVariants.{NotAscii, TooLarge, NoRanksLine}
use Rattle.mpx_script.specs.declared.faults.ScriptError.{ScriptError}
use Rattle.mpx_script.proofs.Splits.{split_has_part}

-- no place has an error
no_errors : (error : ℕ → Option ScriptError) (from n : ℕ) → ((i : ℕ) → from ≤ i → i < from + n → error i ≡ None) → filter_map error (range_with_len from n) ≡ []
no_errors error from zero none = refl
no_errors error from (suc n) none = rw (none from (omega arith) (omega arith)) (no_errors error (from + 1) n (λ i low high. none i (omega arith) (omega arith)))

-- the first place that has one decides
first_error : (error : ℕ → Option ScriptError) (from n i : ℕ) (e : ScriptError) (script : ScriptView) → ((j : ℕ) → from ≤ j → j < from + i → error j ≡ None) → error (from + i) ≡ Some e → i < n → read_as (filter_map error (range_with_len from n)) script ≡ Err e
first_error error from zero i e script none here h = absurd (omega arith)
first_error error from (suc n) zero e script none here h =
    let at : error from ≡ Some e = ap error (omega arith) ∙ here in
    rw at
first_error error from (suc n) (suc i) e script none here h =
    let at : error (from + 1 + i) ≡ Some e = ap error (omega arith) ∙ here in
    rw (none from (omega arith) (omega arith)) (first_error error (from + 1) n i e script (λ j low high. none j (omega arith) (omega arith)) at (omega arith))

-- a text that isn't empty has a line
some_line_of : (first : List ℕ) (more : List (List ℕ)) → 0 < length first ⊎ 0 < length more → 0 < length (lines_of_parts (first ∷ more))
some_line_of [] [] (inl h) = absurd (omega arith)
some_line_of [] [] (inr h) = absurd (omega arith)
some_line_of (c ∷ first) [] h = let filled : (length (c ∷ first) == 0) ≡ false = grind (arith, nat_tests) in rw filled (omega arith)
some_line_of first (second ∷ more) h = omega arith

some_line : (b : ℕ) (bs : List ℕ) → 0 < length (lines (b ∷ bs))
some_line b bs =
    let parts : (first : List ℕ) × (more : List (List ℕ)) × (slice_split (λ c. c == 10) bs ≡ first ∷ more) = split_has_part (λ c. c == 10) bs in
    elim (b == 10) as (λ v. 0 < length (lines_of_parts (cond v ([] ∷ slice_split (λ c. c == 10) bs) (onto_first b (slice_split (λ c. c == 10) bs)))))
    [ true ↦ rw parts.2 (some_line_of [] (parts.0 ∷ parts.1) (inr (omega arith))) | false ↦ rw parts.2 (some_line_of (b ∷ parts.0) parts.1 (inl (omega arith))) ]

-- Bare scripts

bare_refusal : (ops : List Operation) (line : List ℕ) (a c : Bool) → is_ascii line ≡ a → counts (words line) ≡ c → refusal ops (record { line = line; is_cut = false; is_bare = true; ranks = None; statements = 0; bound = [] }) ≡ Some (cond (is_ascii line) NoRanksLine NotAscii)
bare_refusal ops line true true e f = rw (e, f)
bare_refusal ops line true false e f = rw (e, f)
bare_refusal ops line false c e f = rw e

counting_first : (ls : List (List ℕ)) → counting (with_first_line ls) ≡ counting ls
unfolding words counts
counting_first [] = refl
counting_first (l ∷ ls) = refl

has_first : (ls : List (List ℕ)) → (first : List ℕ) × (more : List (List ℕ)) × (with_first_line ls ≡ first ∷ more)
has_first [] = ([], [], refl)
has_first (l ∷ ls) = (l, ls, refl)

bare_context : (ops : List Operation) (text : List ℕ) → is_bare_script text ≡ true → context_at ops text 0 ≡ record { line = get_or (script_lines text) 0 []; is_cut = false; is_bare = true; ranks = None; statements = 0; bound = [] }
bare_context ops text bare =
    let within : is_over_limit text ≡ false = not-true (is_over_limit text) (and_parts (not (is_over_limit text)) (length (counting (script_lines text)) == 0) bare).0 in
    let cut : (is_over_limit text && (1 == length (script_lines text))) ≡ false = rw within refl in
    λ i. record { line = get_or (script_lines text) 0 []; is_cut = cut i; is_bare = bare i; ranks = None; statements = 0; bound = [] }

-- a bare script is refused at its first line
pub bare_reading : (ops : List Operation) (text : List ℕ) → is_bare_script text ≡ true → reading ops text ≡ Err (record { line = 1; what = cond (is_ascii (get_or (script_lines text) 0 [])) NoRanksLine NotAscii })
unfolding reading
bare_reading ops text bare =
    let first : (line : List ℕ) × (more : List (List ℕ)) × (script_lines text ≡ line ∷ more) = has_first (lines (take (bytes_limit + 1) text)) in
    let line : List ℕ = get_or (script_lines text) 0 [] in
    let refused : refusal ops (context_at ops text 0) ≡ Some (cond (is_ascii line) NoRanksLine NotAscii) = ap (refusal ops) (bare_context ops text bare) ∙ bare_refusal ops line (is_ascii line) (counts (words line)) refl refl in
    first_error (error_at ops text) 0 (length (script_lines text)) 0 (record { line = 1; what = cond (is_ascii line) NoRanksLine NotAscii }) (script_of ops (counting (script_lines text))) (λ j low high. absurd (omega arith)) (ap (option_map (λ what. record { line = 1; what = what })) refused) (omega (arith, ap length first.2))

-- Line by line

-- a script of which this rest is left after so many lines, none of which is refused
pub record Progress (ops : List Operation) (text rest : List ℕ) (number : ℕ) (partial : PartialScript) : Type 0 where
  pub left : lines rest ≡ drop number (script_lines text)
  pub clean : (i : ℕ) → i < number → refusal ops (context_at ops text i) ≡ None
  pub settled : IsSettled ops (counting (take number (script_lines text))) partial

lines_are : (ls : List (List ℕ)) → (length (counting ls) == 0) ≡ false → with_first_line ls ≡ ls
lines_are [] h = cc
lines_are (l ∷ ls) h = refl

-- a script that isn't bare and not too long has a line that counts
counts_some : (over : Bool) (n : ℕ) → (not over && (n == 0)) ≡ false → (over ≡ true) ⊎ ((n == 0) ≡ false)
counts_some true n h = inl refl
counts_some false n h = inr h

nonempty_from_length : (xs : List ℕ) → 0 < length xs → 0 < length (lines xs)
nonempty_from_length [] h = absurd (omega arith)
nonempty_from_length (x ∷ xs) h = some_line x xs

same_first : (ls : List (List ℕ)) → 0 < length ls → with_first_line ls ≡ ls
same_first [] h = absurd (omega arith)
same_first (l ∷ ls) h = refl

-- the first line of a script that isn't bare is one of the text
script_lines_are : (text : List ℕ) → is_bare_script text ≡ false → script_lines text ≡ lines (take (bytes_limit + 1) text)
script_lines_are text h = elim (counts_some (is_over_limit text) (length (counting (script_lines text))) h) [
  | inl over ↦
      let long : bytes_limit < length text = ltb-true bytes_limit (length text) over in
      let filled : 0 < length (take (bytes_limit + 1) text) = rw length-take (omega arith) in
      same_first (lines (take (bytes_limit + 1) text)) (nonempty_from_length (take (bytes_limit + 1) text) filled)
  | inr some ↦ lines_are (lines (take (bytes_limit + 1) text)) (rw (← counting_first (lines (take (bytes_limit + 1) text))) some)
]

pub progress_none : (ops : List Operation) (text : List ℕ) (partial : PartialScript) → is_bare_script text ≡ false → partial.script ≡ None → partial.statements ≡ 0 → Progress ops text (take (bytes_limit + 1) text) 0 partial
progress_none ops text partial bare script statements = record {
  left = sym (script_lines_are text bare);
  clean = λ i h. absurd (omega arith);
  settled = record { script = script; statements = statements };
}

ranks_same : (ops : List Operation) (before : List (List (List ℕ))) → option_map (λ s. s.ranks) (script_settled ops before) ≡ ranks_settled before
ranks_same ops [] = refl
ranks_same ops (opening ∷ further) = refl

bound_same : (ops : List Operation) (before : List (List (List ℕ))) → bound_of_script (script_settled ops before) ≡ bound_settled ops before
bound_same ops [] = refl
bound_same ops (opening ∷ further) = refl

is_last : (after : List ℕ) (n number : ℕ) (more : List (List ℕ)) → lines after ≡ more → length more + number + 1 ≡ n → (length after == 0) ≡ (number + 1 == n)
is_last [] n number more e f = let none : 0 ≡ length more = ap length e in grind (arith, nat_tests)
is_last (b ∷ bs) n number more e f = let some : length (lines (b ∷ bs)) ≡ length more = ap length e in let filled : 0 < length (lines (b ∷ bs)) = some_line b bs in grind (arith, nat_tests)

-- the next line, and what follows
record NextLine (text line after : List ℕ) (number : ℕ) : Type 0 where
  within : number < length (script_lines text)
  line_is : get_or (script_lines text) number [] ≡ line
  rest : lines after ≡ drop (number + 1) (script_lines text)
  last : (length after == 0) ≡ (number + 1 == length (script_lines text))

next_line_of : (text rest line after : List ℕ) (number : ℕ) → lines rest ≡ drop number (script_lines text) → lines rest ≡ line ∷ lines after → NextLine text line after number
next_line_of text rest line after number left split =
    let all : List (List ℕ) = script_lines text in
    let cut : drop number all ≡ line ∷ lines after = sym left ∙ split in
    let long : length all - number ≡ length (lines after) + 1 = sym (length-drop number all) ∙ ap length cut ∙ omega arith in
    let tail : drop (number + 1) all ≡ lines after = sym (drop-drop 1 number all) ∙ ap (drop 1) cut in
    record {
      within = omega arith;
      line_is = ap (λ k. get_or all k []) (omega arith) ∙ sym (get_or-drop number all 0 []) ∙ ap (λ xs. get_or xs 0 []) cut;
      rest = sym tail;
      last = is_last after (length all) number (lines after) refl (omega arith);
    }

-- that line, as the reader asks it
context_is : (ops : List Operation) (text line after : List ℕ) (number : ℕ) (partial : PartialScript) (cut : Bool) → is_bare_script text ≡ false → IsSettled ops (counting (take number (script_lines text))) partial → NextLine text line after number → cut ≡ (is_over_limit text && (length after == 0)) → context_at ops text number ≡ bounded_context line cut (ranks_of_script partial.script) partial.statements (bound_of_script partial.script)
context_is ops text line after number partial cut bare settled next cut_is =
    let before : List (List (List ℕ)) = counting (take number (script_lines text)) in
    let is_cut : (is_over_limit text && (number + 1 == length (script_lines text))) ≡ cut = ap (λ b. is_over_limit text && b) (sym next.last) ∙ sym cut_is in
    let is_bare : ((number == 0) && is_bare_script text) ≡ false = and_right (number == 0) (is_bare_script text) bare in
    let ranks : ranks_settled before ≡ ranks_of_script partial.script = sym (ranks_same ops before) ∙ ap (option_map (λ s. s.ranks)) (sym settled.script) in
    let statements : statements_settled before ≡ partial.statements = sym settled.statements in
    let bound : bound_settled ops before ≡ bound_of_script partial.script = sym (bound_same ops before) ∙ ap bound_of_script (sym settled.script) in
    let line_is : get_or (script_lines text) number [] ≡ line = next.line_is in
    λ i. record { line = line_is i; is_cut = is_cut i; is_bare = is_bare i; ranks = ranks i; statements = statements i; bound = bound i }

-- the next line isn't refused
pub progress_more : (ops : List Operation) (text rest line after : List ℕ) (number : ℕ) (partial then : PartialScript) (cut : Bool) → is_bare_script text ≡ false → Progress ops text rest number partial → lines rest ≡ line ∷ lines after → cut ≡ (is_over_limit text && (length after == 0)) → refusal ops (bounded_context line cut (ranks_of_script partial.script) partial.statements (bound_of_script partial.script)) ≡ None → ((before : List (List (List ℕ))) → IsSettled ops before partial → IsSettled ops (before ++ filter counts (words line ∷ [])) then) → Progress ops text after (number + 1) then
progress_more ops text rest line after number partial then cut bare p split cut_is accepted settles =
    let next : NextLine text line after number = next_line_of text rest line after number p.left split in
    let all : List (List ℕ) = script_lines text in
    let here : refusal ops (context_at ops text number) ≡ None = ap (refusal ops) (context_is ops text line after number partial cut bare p.settled next cut_is) ∙ accepted in
    let lines_more : take (number + 1) all ≡ take number all ++ line ∷ [] = take_more all number [] next.within ∙ ap (λ l. take number all ++ l ∷ []) next.line_is in
    let counting_more : counting (take number all) ++ filter counts (words line ∷ []) ≡ counting (take (number + 1) all) =
    sym (filter-append counts (map words (take number all)) (words line ∷ [])) ∙ ap (filter counts) (sym (map_push words (take number all) line)) ∙ ap counting (sym lines_more) in
    record {
      left = next.rest;
      clean = below_more (λ i. refusal ops (context_at ops text i) ≡ None) number p.clean here;
      settled = subst (λ ls. IsSettled ops ls then) counting_more (settles (counting (take number all)) p.settled);
    }

-- the next line is refused
progress_refused : (ops : List Operation) (text rest line after : List ℕ) (number : ℕ) (partial : PartialScript) (cut : Bool) (what : ScriptFault) → is_bare_script text ≡ false → Progress ops text rest number partial → lines rest ≡ line ∷ lines after → cut ≡ (is_over_limit text && (length after == 0)) → refusal ops (bounded_context line cut (ranks_of_script partial.script) partial.statements (bound_of_script partial.script)) ≡ Some what → reading ops text ≡ Err (record { line = number + 1; what = what })
unfolding reading
progress_refused ops text rest line after number partial cut what bare p split cut_is refused =
    let next : NextLine text line after number = next_line_of text rest line after number p.left split in
    let here : refusal ops (context_at ops text number) ≡ Some what = ap (refusal ops) (context_is ops text line after number partial cut bare p.settled next cut_is) ∙ refused in
    let shift : 0 + number ≡ number = omega arith in
    first_error (error_at ops text) 0 (length (script_lines text)) number (record { line = number + 1; what = what }) (script_of ops (counting (script_lines text)))
    (λ j low high. ap (option_map (λ w. record { line = j + 1; what = w })) (p.clean j (omega arith)))
    (ap (error_at ops text) shift ∙ ap (option_map (λ w. record { line = number + 1; what = w })) here)
    next.within

pub progress_fault : (ops : List Operation) (text rest line after : List ℕ) (number : ℕ) (partial : PartialScript) (cut : Bool) (e : LineError) → is_bare_script text ≡ false → Progress ops text rest number partial → lines rest ≡ line ∷ lines after → cut ≡ (is_over_limit text && (length after == 0)) → IsLineRefusal (refusal ops (bounded_context line cut (ranks_of_script partial.script) partial.statements (bound_of_script partial.script))) e → AnswersReading (Err (at_line (number + 1) e)) (reading ops text)
progress_fault ops text rest line after number partial cut OutOfMemory bare p split cut_is refused = tt
progress_fault ops text rest line after number partial cut (Fault what) bare p split cut_is refused = progress_refused ops text rest line after number partial cut what bare p split cut_is refused

all_done : (ops : List Operation) (text : List ℕ) (number : ℕ) (partial : PartialScript) → Progress ops text [] number partial → length (script_lines text) ≤ number
all_done ops text number partial p = omega (arith, length-drop number (script_lines text), ap length p.left)

script_is : (ops : List Operation) (ls : List (List (List ℕ))) (script : ScriptView) → Some script ≡ script_settled ops ls → script ≡ script_of ops ls
script_is ops [] script h = cc
script_is ops (opening ∷ further) script h = cc

-- no line is left
pub progress_done : (ops : List Operation) (text : List ℕ) (number : ℕ) (partial : PartialScript) (script : ScriptView) → Progress ops text [] number partial → partial.script ≡ Some script → reading ops text ≡ Ok script
unfolding reading
progress_done ops text number partial script p there =
    let all : List (List ℕ) = script_lines text in
    let end : length all ≤ number = all_done ops text number partial p in
    let none : errors ops text ≡ [] = no_errors (error_at ops text) 0 (length all) (λ i low high. ap (option_map (λ w. record { line = i + 1; what = w })) (p.clean i (omega arith))) in
    let whole : counting (take number all) ≡ counting all = ap counting (take_all number all end) in
    let is : script ≡ script_of ops (counting all) = script_is ops (counting all) script (sym there ∙ p.settled.script ∙ ap (script_settled ops) whole) in
    rw none (ap Ok (sym is))

none_settled : (ops : List Operation) (ls : List (List (List ℕ))) → None ≡ script_settled ops ls → length ls ≡ 0
none_settled ops [] h = refl
none_settled ops (opening ∷ further) h = cc

cut_is_refused : (ops : List Operation) (p : LineContext) (a : Bool) → is_ascii p.line ≡ a → p.is_cut ≡ true → refusal ops p ≡ None → ⊥
cut_is_refused ops p true e cut h = let refused : refusal ops p ≡ Some TooLarge = rw (e, cut) in cc
cut_is_refused ops p false e cut h = let refused : refusal ops p ≡ Some NotAscii = rw e in cc

zero_tested : (n : ℕ) → n ≡ 0 → (n == 0) ≡ false → ⊥
zero_tested n e h = grind (arith, nat_tests)

last_place : (n : ℕ) → 0 < n → (n - 1 + 1 == n) ≡ true
last_place n h = grind (arith, nat_tests)

-- then there is a script
pub progress_some : (ops : List Operation) (text : List ℕ) (number : ℕ) (partial : PartialScript) → is_bare_script text ≡ false → Progress ops text [] number partial → partial.script ≡ None → ⊥
progress_some ops text number partial bare p none =
    let all : List (List ℕ) = script_lines text in
    let end : length all ≤ number = all_done ops text number partial p in
    let whole : counting (take number all) ≡ counting all = ap counting (take_all number all end) in
    let empty : length (counting all) ≡ 0 = none_settled ops (counting all) (sym none ∙ p.settled.script ∙ ap (script_settled ops) whole) in
    let first : (line : List ℕ) × (more : List (List ℕ)) × (all ≡ line ∷ more) = has_first (lines (take (bytes_limit + 1) text)) in
    let some : 0 < length all = omega (arith, ap length first.2) in
    elim (counts_some (is_over_limit text) (length (counting all)) bare) [
      | inl over ↦
          let last : (length all - 1 + 1 == length all) ≡ true = last_place (length all) some in
          cut_is_refused ops (context_at ops text (length all - 1)) (is_ascii (context_at ops text (length all - 1)).line) refl (rw (over, last)) (p.clean (length all - 1) (omega arith))
      | inr filled ↦ zero_tested (length (counting all)) empty filled
    ]

-- a text within the limit is seen whole
pub short_lines : (text : List ℕ) → length text ≤ bytes_limit → script_lines text ≡ with_first_line (lines text)
short_lines text short = ap (λ t. with_first_line (lines t)) (take_all (bytes_limit + 1) text (omega arith))

pub bare_short : (text : List ℕ) → length text ≤ bytes_limit → is_bare_script text ≡ (length (counting (lines text)) == 0)
bare_short text short =
    let within : is_over_limit text ≡ false = le-ltb bytes_limit (length text) short in
    let same : counting (script_lines text) ≡ counting (lines text) = ap counting (short_lines text short) ∙ counting_first (lines text) in
    ap (λ over. not over && (length (counting (script_lines text)) == 0)) within ∙ ap (λ ls. length ls == 0) same

pub bare_long : (text : List ℕ) → bytes_limit < length text → is_bare_script text ≡ false
bare_long text long = ap (λ over. not over && (length (counting (script_lines text)) == 0)) (lt-ltb bytes_limit (length text) long)

bare_is_short : (text : List ℕ) → is_bare_script text ≡ true → length text ≤ bytes_limit
bare_is_short text bare = ltb-false bytes_limit (length text) (not-true (is_over_limit text) (and_parts (not (is_over_limit text)) (length (counting (script_lines text)) == 0) bare).0)

-- a bare script's refusal, by the lines of its text
pub bare_answer : (ops : List Operation) (text : List ℕ) (what : ScriptFault) → is_bare_script text ≡ true → what ≡ cond (is_ascii (get_or (with_first_line (lines text)) 0 [])) NoRanksLine NotAscii → reading ops text ≡ Err (record { line = 1; what = what })
bare_answer ops text what bare is =
    let same : what ≡ cond (is_ascii (get_or (script_lines text) 0 [])) NoRanksLine NotAscii = is ∙ ap (λ ls. cond (is_ascii (get_or ls 0 [])) NoRanksLine NotAscii) (sym (short_lines text (bare_is_short text bare))) in
    bare_reading ops text bare ∙ ap (λ w. Err (record { line = 1; what = w })) (sym same)

pub not_not : (b : Bool) → not (not b) ≡ b
not_not true = refl
not_not false = refl
