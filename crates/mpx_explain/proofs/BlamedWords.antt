-- The words of a line, as the script's reader has them.
use Rattle.std.proofs.Common.{◌≡◌, ℕ, zero, suc, ◌+◌, ◌-◌, ◌<◌, ◌≤◌, List, [], ◌∷◌, ◌++◌, cond, length, map, slice_get, Option, Some, None, Result, Ok, Err, IfOk, arith, ap, subst, sym, ◌∙◌, refl}
use Rattle.std.specs.Borrow.{Bor}
use Rattle.std.specs.List.{filter, slice_split}
use Rattle.std.specs.Prelude.{IfSome, slice_index_or, string_bytes, ◌==◌, ◌||◌, take}
use Rattle.std.specs.Str.Lines.{lines}
use Rattle.std.proofs.lemmas.List.Elements.{filter-append}
use Rattle.mpx_script.specs.LinesGiven.{words_at}
use Rattle.mpx_script.specs.Words.{bytes_limit, has_bytes, with_first_line, words}
use Rattle.mpx_explain.specs.Blame.{IsBlamed, IsLineOf, words_told}
use Rattle.mpx_explain.specs.declared.blame.Blamed.{Blamed}
use Rattle.mpx_explain.specs.declared.blame.Line.{Line}

there : (xs : List (List ℕ)) (n : ℕ) (d x : List ℕ) → slice_get xs n ≡ Some x → slice_index_or xs n d ≡ x
there [] n d x is = absurd (cc is)
there (y ∷ ys) zero d x is = cc is
there (y ∷ ys) (suc n) d x is = there ys n d x is

first_there : (xs : List (List ℕ)) (n : ℕ) (x : List ℕ) → slice_get xs n ≡ Some x → slice_index_or (with_first_line xs) n [] ≡ x
first_there [] n x is = absurd (cc is)
first_there (y ∷ ys) n x is = there (y ∷ ys) n [] x is

-- the parts between blanks in which something stands are its words
pub words_are : (line : List ℕ) → filter has_bytes (slice_split (λ byte. byte == 32 || byte == 9) line) ≡ words line
unfolding words
words_are line = refl

-- those of the line with this number
pub words_there : (text seen line : List ℕ) (number : ℕ) → seen ≡ take (bytes_limit + 1) text → slice_get (lines seen) (number - 1) ≡ Some line → words line ≡ words_at text number
words_there text seen line number same is = ap words (sym (first_there (lines (take (bytes_limit + 1) text)) (number - 1) line (subst (λ t. slice_get (lines t) (number - 1) ≡ Some line) same is)))

-- one part more
pub words_more : (parts : List (List ℕ)) (part : List ℕ) (had new : List (List ℕ)) → had ≡ filter has_bytes parts → new ≡ had ++ cond (has_bytes part) (part ∷ []) [] → new ≡ filter has_bytes (parts ++ part ∷ [])
words_more parts part had new is more = more ∙ ap (λ (ws : List (List ℕ)). ws ++ cond (has_bytes part) (part ∷ []) []) is ∙ sym (filter-append has_bytes parts (part ∷ []))

told_there : (ws : List (Bor (List ℕ))) (i : ℕ) (at : Bor (List ℕ)) → i < length ws → at ≡ slice_index_or ws i at → slice_get (words_told ws) i ≡ Some at.now
told_there [] i at within is = absurd (omega (arith, within))
told_there (w ∷ ws) zero at within is = ap (λ (x : Bor (List ℕ)). Some x.now) (sym is)
told_there (w ∷ ws) (suc i) at within is = told_there ws i at (omega (arith, within)) is

-- the word with a place in a line
pub blamed : (text : List ℕ) (number : ℕ) (line : Line) (ws : List (Bor (List ℕ))) (place : ℕ) (at : Bor (List ℕ)) (b : Blamed) → IsLineOf text number line → ws ≡ line.words.items → place < length ws → at ≡ slice_index_or ws place at → b.place ≡ place + 1
    → string_bytes b.word ≡ at.now → IsBlamed text number b
blamed text number line ws place at b is same within here placed word =
    let few : length ws ≤ 64 = subst (λ (xs : List (Bor (List ℕ))). length xs ≤ 64) (sym same) is.few in
    let before : b.place - 1 ≡ place = omega (arith, placed) in
    record {
      first = omega (arith, placed);
      few = omega (arith, placed, within, few);
      word = ap (slice_get (words_at text number)) before ∙ sym (ap (λ (xs : List (List ℕ)). slice_get xs place) (ap words_told same ∙ is.words)) ∙ told_there ws place at within here ∙ ap Some (sym word);
    }

-- where the line is that of a refusal
pub blamed_in : {E : Type 0} (told : Result (Option Blamed) E) (text : List ℕ) (number : ℕ) (line : Line) → IsLineOf text number line → IfOk told (λ found. IfSome found (λ b. (text : List ℕ) (number : ℕ) → IsLineOf text number line → IsBlamed text number b))
    → IfOk told (λ found. IfSome found (λ b. IsBlamed text number b))
blamed_in (Ok (Some b)) text number line is tells = tells text number is
blamed_in (Ok None) text number line is tells = tt
blamed_in (Err e) text number line is tells = tt
