-- The lines that give a rank its statements, line by line.
use Rattle.std.proofs.Common.{◌≡◌, ℕ, zero, suc, ◌+◌, ◌-◌, ◌<◌, ◌≤◌, Bool, true, false, ◌&&◌, cond, List, [], ◌∷◌, ◌++◌, length, get_or, take, drop, map, Option, Some, None, Ok, refl, sym, ap, subst, ◌∙◌, arith, append_assoc}
use Rattle.std.specs.Prelude.{◌||◌, is_none, slice_get, slice_index_or}
use Rattle.std.specs.List.{cons_option, filter, filter_map, range_with_len}
use Rattle.std.specs.Option.{option_map, option_map_or}
use Rattle.std.specs.Str.Lines.{lines}
use Rattle.std.proofs.lemmas.Bool.{or_parts}
use Rattle.std.proofs.lemmas.List.{append-nil, take_more, drop-drop, get_or-drop, length-drop, map_push}
use Rattle.std.proofs.lemmas.List.Elements.{filter-append}
use Rattle.std.proofs.lemmas.List.FromFn.{get_or-map-range_with_len}
use Rattle.mpx_num.specs.declared.own.Operation.{Operation}
use Rattle.mpx_script.specs.Words.{words, counts, counting, script_lines, with_first_line, bytes_limit}
use Rattle.mpx_script.specs.Syntax.{DirectiveSyntax, directive_in, form_in, label_in}
use Rattle.mpx_script.specs.Refusals.{is_unknown_line, is_unknown_as}
use Rattle.mpx_script.specs.Meanings.{line_gives, names_rank, statement_in}
use Rattle.mpx_script.specs.LinesGiven.{Give, NumberedLine, lines_given, naming, numbered_counting, words_at}
use Rattle.mpx_script.specs.Reading.{LineContext, context_at, error_at, errors, first_holding, on_further, ranks_settled, ranks_told, read_as, reading, refusal, reading_refusals, script_of}
use Rattle.mpx_script.specs.ScriptView.{ScriptView}
use Rattle.mpx_script.specs.declared.faults.ScriptFault.{ScriptFault}
use Rattle.mpx_script.specs.declared.faults.ScriptFault.TheVariants.{UnknownStatement}
use Rattle.mpx_script.specs.declared.faults.ScriptError.{ScriptError}
use Rattle.mpx_script.specs.declared.grammar.Form.{Form}
use Rattle.mpx_statement.specs.declared.statement.Statement.{Statement}

-- LINE BY LINE

-- the further ones among these, once a line that counts has come, or before
abbrev pub further : (is_opened : Bool) → List NumberedLine → List NumberedLine
further true xs = xs
further false xs = drop 1 xs

-- a script without lines is read as one with a line that says nothing
pub first_same : (n : ℕ) (ls : List (List ℕ)) → numbered_counting n (with_first_line ls) ≡ numbered_counting n ls
unfolding words counts
first_same n [] = refl
first_same n (l ∷ ls) = refl

-- a line more
pub one_more : (rank n : ℕ) (is_opened : Bool) (had : List ℕ) (line : List ℕ) (ls : List (List ℕ))
    → (had ++ cond (is_opened && (counts (words line) && names_rank rank (directive_in (words line)))) (n ∷ []) []) ++ naming rank (further (is_opened || counts (words line)) (numbered_counting (n + 1) ls))
    ≡ had ++ naming rank (further is_opened (numbered_counting n (line ∷ ls)))
one_more rank n is_opened had line ls = by_tests is_opened (counts (words line)) (names_rank rank (directive_in (words line))) refl refl where
  nothing : (xs : List ℕ) → (had ++ []) ++ xs ≡ had ++ xs
  nothing xs = append_assoc had [] xs

  by_tests : (o c m : Bool) → counts (words line) ≡ c → names_rank rank (directive_in (words line)) ≡ m
      → (had ++ cond (o && (counts (words line) && names_rank rank (directive_in (words line)))) (n ∷ []) []) ++ naming rank (further (o || counts (words line)) (numbered_counting (n + 1) ls))
      ≡ had ++ naming rank (further o (numbered_counting n (line ∷ ls)))
  by_tests true true true e f = rw (e, f) (append_assoc had (n ∷ []) (naming rank (numbered_counting (n + 1) ls)))
  by_tests true true false e f = rw (e, f) (nothing (naming rank (numbered_counting (n + 1) ls)))
  by_tests true false m e f = rw e (nothing (naming rank (numbered_counting (n + 1) ls)))
  by_tests false true m e f = rw e (nothing (naming rank (numbered_counting (n + 1) ls)))
  by_tests false false m e f = rw e (nothing (naming rank (drop 1 (numbered_counting (n + 1) ls))))

-- no line is left
pub all_seen : (rank n : ℕ) (is_opened : Bool) (had whole rest : List ℕ) → length rest ≡ 0 → had ++ naming rank (further is_opened (numbered_counting n (lines rest))) ≡ whole → had ≡ whole
all_seen rank n true had whole [] e f = sym (append-nil had) ∙ f
all_seen rank n false had whole [] e f = sym (append-nil had) ∙ f
all_seen rank n is_opened had whole (b ∷ rest) e f = absurd (omega (arith, e))

-- REFUSALS

-- no place has an error
none_there : (error : ℕ → Option ScriptError) (from n : ℕ) → filter_map error (range_with_len from n) ≡ [] → (i : ℕ) → from ≤ i → i < from + n → error i ≡ None
none_there error from zero e i low high = absurd (omega (arith, low, high))
none_there error from (suc n) e i low high = by_error (λ f l h. none_there error (from + 1) n f i l h) (error from) refl where
  by_place : (again : from + 1 ≤ i → i < from + 1 + n → error i ≡ None) → error from ≡ None → (k : ℕ) → i - from ≡ k → error i ≡ None
  by_place again f zero g = ap error (let same : i ≡ from = omega (arith, g, low) in same) ∙ f
  by_place again f (suc k) g = again (omega (arith, g)) (omega (arith, high))

  by_error : (again : filter_map error (range_with_len (from + 1) n) ≡ [] → from + 1 ≤ i → i < from + 1 + n → error i ≡ None) → (o : Option ScriptError) → error from ≡ o → error i ≡ None
  by_error again (Some x) f = let some : x ∷ filter_map error (range_with_len (from + 1) n) ≡ [] = sym (ap (λ o. cons_option o (filter_map error (range_with_len (from + 1) n))) f) ∙ e in cc some
  by_error again None f = by_place (again (sym (ap (λ o. cons_option o (filter_map error (range_with_len (from + 1) n))) f) ∙ e)) f (i - from) refl

mapped_none : {A B : Type 0} (f : A → B) (o : Option A) → option_map f o ≡ None → o ≡ None
mapped_none f None e = refl
mapped_none f (Some x) e = cc e

-- a text that is read as a script has no error
reads : (es : List ScriptError) (read script : ScriptView) → read_as es read ≡ Ok script → (es ≡ []) × (read ≡ script)
reads [] read script e = (refl, let same : read ≡ script = cc e in same)
reads (x ∷ es) read script e = cc e

-- of refusals none holds
none_holds : (asked : List (ScriptFault × Bool)) → first_holding asked ≡ None → (i : ℕ) (one : ScriptFault × Bool) → slice_get asked i ≡ Some one → one.1 ≡ false
none_holds [] e i one f = cc f
none_holds (x ∷ asked) e i one f = by_test (none_holds asked) x.1 refl where
  by_place : (again : (k : ℕ) → slice_get asked k ≡ Some one → one.1 ≡ false) → x.1 ≡ false → (k : ℕ) → slice_get (x ∷ asked) k ≡ Some one → one.1 ≡ false
  by_place again g zero h = ap (λ (y : ScriptFault × Bool). y.1) (let same : one ≡ x = cc h in same) ∙ g
  by_place again g (suc k) h = again k h

  by_test : (again : first_holding asked ≡ None → (k : ℕ) (one : ScriptFault × Bool) → slice_get asked k ≡ Some one → one.1 ≡ false) → (b : Bool) → x.1 ≡ b → one.1 ≡ false
  by_test again true g = let some : Some x.0 ≡ None = sym (ap (λ b. cond b (Some x.0) (first_holding asked)) g) ∙ e in cc some
  by_test again false g = by_place (λ k h. again (sym (ap (λ b. cond b (Some x.0) (first_holding asked)) g) ∙ e) k one h) g i f

-- a further line that counts and isn't refused has a statement
known_line : (ops : List Operation) (p : LineContext) (n : ℕ) → refusal ops p ≡ None → counts (words p.line) ≡ true → p.ranks ≡ Some n → is_unknown_line ops (directive_in (words p.line)) ≡ false
known_line ops p n e c r =
    let held : on_further p (λ ranks directive. is_unknown_line ops directive) ≡ false = none_holds (reading_refusals ops p) e 5 (UnknownStatement, on_further p (λ ranks directive. is_unknown_line ops directive)) refl in
    sym (ap (λ (o : Option ℕ). option_map_or (λ ranks. is_unknown_line ops (directive_in (words p.line))) o false) r)
    ∙ sym (ap (λ b. b && option_map_or (λ ranks. is_unknown_line ops (directive_in (words p.line))) p.ranks false) c) ∙ held

has_statement : (ops : List Operation) (d : DirectiveSyntax) → is_unknown_line ops d ≡ false → (x : Statement) × (statement_in ops d ≡ Some x)
unfolding is_unknown_line statement_in
has_statement ops d e = by_form (form_in d) refl (or_parts (is_none (label_in d)) (option_map_or (λ form. is_unknown_as ops form d.behind) (form_in d) true) e).1 where
  by_form : (o : Option Form) → form_in d ≡ o → option_map_or (λ form. is_unknown_as ops form d.behind) (form_in d) true ≡ false → (x : Statement) × (statement_in ops d ≡ Some x)
  by_form None f g = let yes : true ≡ false = sym (ap (λ (o : Option Form). option_map_or (λ form. is_unknown_as ops form d.behind) o true) f) ∙ g in cc yes
  by_form (Some form) f g = elim (statement_in ops d) as (λ o. statement_in ops d ≡ o → (x : Statement) × (statement_in ops d ≡ Some x)) [
    | None ↦ λ h. let none : form_in d ≡ None = mapped_none _ (form_in d) h in let no : Some form ≡ None = sym f ∙ none in cc no
    | Some x ↦ λ h. (x, h)
  ] refl

-- THE STATEMENTS

settled_some : (before : List (List (List ℕ))) → 0 < length before → (n : ℕ) × (ranks_settled before ≡ Some n)
settled_some [] l = absurd (omega (arith, l))
settled_some (opening ∷ more) l = (ranks_told opening, refl)

module _ (ops : List Operation) (text : List ℕ) (rank : ℕ) (clean : (i : ℕ) → i < length (script_lines text) → refusal ops (context_at ops text i) ≡ None) where
  abbrev all : List (List ℕ)
  all = script_lines text

  abbrev given : List (List ℕ) → Option Statement
  given ws = line_gives ops rank (directive_in ws)

  abbrev by_numbers : List ℕ → List (Option Statement)
  by_numbers numbers = map (λ number. given (words_at text number)) numbers

  -- the line at a place
  record Here (i : ℕ) (line : List ℕ) (more : List (List ℕ)) : Type 0 where
    within : i < length all
    is : get_or all i [] ≡ line
    rest : drop (i + 1) all ≡ more
    counted : counting (take (i + 1) all) ≡ counting (take i all) ++ filter counts (words line ∷ [])
    numbered : words_at text (i + 1) ≡ words line

  here : (i : ℕ) (line : List ℕ) (more : List (List ℕ)) → drop i all ≡ line ∷ more → Here i line more
  here i line more cut =
      let long : length all - i ≡ length more + 1 = sym (length-drop i all) ∙ ap length cut ∙ omega arith in
      let within : i < length all = omega (arith, long) in
      let is : get_or all i [] ≡ line = ap (λ k. get_or all k []) (let e : i ≡ i + 0 = omega arith in e) ∙ sym (get_or-drop i all 0 []) ∙ ap (λ xs. get_or xs 0 []) cut in
      let lines_more : take (i + 1) all ≡ take i all ++ line ∷ [] = take_more all i [] within ∙ ap (λ l. take i all ++ l ∷ []) is in
      record {
        within = within;
        is = is;
        rest = sym (drop-drop 1 i all) ∙ ap (drop 1) cut;
        counted = ap counting lines_more ∙ ap (filter counts) (map_push words (take i all) line) ∙ filter-append counts (map words (take i all)) (words line ∷ []);
        numbered = ap words (ap (λ k. get_or all k []) (let e : i + 1 - 1 ≡ i = omega arith in e) ∙ is);
      }

  -- a further line that counts has a statement
  stated : (i : ℕ) (line : List ℕ) (more : List (List ℕ)) → Here i line more → 0 < length (counting (take i all)) → counts (words line) ≡ true → (x : Statement) × (statement_in ops (directive_in (words line)) ≡ Some x)
  stated i line more h some c =
      let settled = settled_some (counting (take i all)) some in
      let known : is_unknown_line ops (directive_in (words (get_or all i []))) ≡ false = known_line ops (context_at ops text i) settled.0 (clean i h.within) (ap (λ l. counts (words l)) h.is ∙ c) settled.1 in
      has_statement ops (directive_in (words line)) (sym (ap (λ l. is_unknown_line ops (directive_in (words l))) h.is) ∙ known)

  more_counted : (i : ℕ) (line : List ℕ) (more : List (List ℕ)) → Here i line more → 0 < length (counting (take i all)) → 0 < length (counting (take (i + 1) all))
  more_counted i line more h some = subst (λ xs. 0 < length xs) (sym h.counted) (longer (counting (take i all)) (filter counts (words line ∷ [])) some) where
    longer : (xs ys : List (List (List ℕ))) → 0 < length xs → 0 < length (xs ++ ys)
    longer [] ys l = absurd (omega (arith, l))
    longer (x ∷ xs) ys l = omega arith

  first_counted : (i : ℕ) (line : List ℕ) (more : List (List ℕ)) → Here i line more → counts (words line) ≡ true → 0 < length (counting (take (i + 1) all))
  first_counted i line more h c = subst (λ xs. 0 < length xs) (sym (h.counted ∙ ap (λ b. counting (take i all) ++ cond b (words line ∷ []) []) c)) (filled (counting (take i all)) (words line)) where
    filled : (xs : List (List (List ℕ))) (x : List (List ℕ)) → 0 < length (xs ++ x ∷ [])
    filled [] x = omega arith
    filled (y ∷ xs) x = omega arith

  -- once a line has counted
  further_given : (i : ℕ) (ls : List (List ℕ)) → drop i all ≡ ls → 0 < length (counting (take i all)) → by_numbers (naming rank (numbered_counting (i + 1) ls)) ≡ map Some (filter_map given (counting ls))
  further_given i [] cut some = refl
  further_given i (line ∷ more) cut some = by_tests (further_given (i + 1) more h.rest (more_counted i line more h some)) (counts (words line)) (names_rank rank (directive_in (words line))) refl refl where
    h : Here i line more
    h = here i line more cut

    by_tests : (rest : by_numbers (naming rank (numbered_counting (i + 1 + 1) more)) ≡ map Some (filter_map given (counting more))) → (c m : Bool) → counts (words line) ≡ c → names_rank rank (directive_in (words line)) ≡ m → by_numbers (naming rank (numbered_counting (i + 1) (line ∷ more))) ≡ map Some (filter_map given (counting (line ∷ more)))
    by_tests rest false m e f = rw e rest
    by_tests rest true false e f = rw (e, f) rest
    by_tests rest true true e f =
        let x = stated i line more h some e in
        let gives : given (words line) ≡ Some x.0 = ap (λ b. cond b (statement_in ops (directive_in (words line))) None) f ∙ x.1 in
        let told : given (words_at text (i + 1)) ≡ Some x.0 = ap given h.numbered ∙ gives in
        rw (e, f, x.1) (λ j. told j ∷ rest j)

  -- before
  opening_given : (i : ℕ) (ls : List (List ℕ)) → drop i all ≡ ls → by_numbers (naming rank (drop 1 (numbered_counting (i + 1) ls))) ≡ map Some (filter_map given (drop 1 (counting ls)))
  opening_given i [] cut = refl
  opening_given i (line ∷ more) cut = by_test (opening_given (i + 1) more h.rest) (counts (words line)) refl where
    h : Here i line more
    h = here i line more cut

    by_test : by_numbers (naming rank (drop 1 (numbered_counting (i + 1 + 1) more))) ≡ map Some (filter_map given (drop 1 (counting more))) → (c : Bool) → counts (words line) ≡ c → by_numbers (naming rank (drop 1 (numbered_counting (i + 1) (line ∷ more)))) ≡ map Some (filter_map given (drop 1 (counting (line ∷ more))))
    by_test rest false e = rw e rest
    by_test rest true e = rw e (further_given (i + 1) more h.rest (first_counted i line more h e))

statements_are : (ops : List Operation) (lines : List (List (List ℕ))) (rank : ℕ) → rank < (script_of ops lines).ranks → get_or (script_of ops lines).statements rank [] ≡ filter_map (λ ws. line_gives ops rank (directive_in ws)) (drop 1 lines)
statements_are ops [] rank l = absurd (omega (arith, l))
statements_are ops (opening ∷ more) rank l = get_or-map-range_with_len (λ k. filter_map (λ ws. line_gives ops k (directive_in ws)) more) 0 (ranks_told opening) rank rank [] l (omega arith)

-- the numbers are those of the lines that give the statements
pub give : (ops : List Operation) (text : List ℕ) (rank : ℕ) (script : ScriptView) → reading ops text ≡ Ok script → rank < script.ranks → Give ops text rank (lines_given rank text) (slice_index_or script.statements rank [])
unfolding reading
give ops text rank script read within =
    let counted = counting (script_lines text) in
    let parts = reads (errors ops text) (script_of ops counted) script read in
    let clean : (i : ℕ) → i < length (script_lines text) → refusal ops (context_at ops text i) ≡ None =
    λ i l. mapped_none _ (refusal ops (context_at ops text i)) (none_there (error_at ops text) 0 (length (script_lines text)) parts.0 i (omega arith) (omega (arith, l))) in
    let told = opening_given ops text rank clean 0 (script_lines text) refl in
    let within_there : rank < (script_of ops counted).ranks = subst (λ (s : ScriptView). rank < s.ranks) (sym parts.1) within in
    told ∙ ap (map Some) (sym (statements_are ops counted rank within_there) ∙ ap (λ (s : ScriptView). get_or s.statements rank []) parts.1)

-- A LINE BY ITS NUMBER

in_first : (ls : List (List ℕ)) (k : ℕ) → get_or (with_first_line ls) k [] ≡ get_or ls k []
in_first [] zero = refl
in_first [] (suc k) = refl
in_first (l ∷ ls) k = refl

pub at_start : (text : List ℕ) (number : ℕ) → words_at text number ≡ words (get_or (lines (take (bytes_limit + 1) text)) (number - 1) [])
at_start text number = ap words (in_first (lines (take (bytes_limit + 1) text)) (number - 1))
