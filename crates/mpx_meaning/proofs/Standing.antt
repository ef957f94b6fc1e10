-- Words that a map binds or no longer binds, and a list of words that grows or shrinks with it.
use Rattle.std.proofs.Common.{◌≡◌, ℕ, Bool, true, false, cond, List, [], ◌∷◌, ◌++◌, Option, Some, None, refl, sym, ap, ◌∙◌}
use Rattle.std.specs.Prelude.{is_some, not, bytes_eq, if◌then◌else◌}
use Rattle.std.specs.Cmp.Lexicographic.{slice_cmp}
use Rattle.std.specs.Option.{option_map}
use Rattle.std.specs.Ordering.{is_eq, nat_cmp}
use Rattle.std.proofs.lemmas.Map.Text.{is_eq-slice_cmp}
use Rattle.std.proofs.lemmas.Slice.Eq.{bytes_eq-Decides}
use Rattle.mpx_name.specs.Name.{Name}
use Rattle.mpx_statement.specs.Lookups.{named}
use Rattle.mpx_meaning.specs.Ranks.{Requests, without, without_all}
use Rattle.mpx_meaning.specs.Standing.{or_new, binds, closed, closed_all}

pub none_there : {A : Type 0} (o : Option A) → is_some o ≡ false → o ≡ None
none_there None e = refl
none_there (Some x) e = cc e

pub same_word : (a b : List ℕ) → bytes_eq a b ≡ true → a ≡ b
same_word a b e = (bytes_eq-Decides a b).0 e

turned : (a b : List ℕ) → bytes_eq a b ≡ true → bytes_eq b a ≡ true
turned a b e = (bytes_eq-Decides b a).1 (sym (same_word a b e))

either_way : (a b : List ℕ) → bytes_eq a b ≡ bytes_eq b a
either_way a b = by_tests (bytes_eq a b) (bytes_eq b a) refl refl where
  by_tests : (t u : Bool) → bytes_eq a b ≡ t → bytes_eq b a ≡ u → bytes_eq a b ≡ bytes_eq b a
  by_tests true true e f = e ∙ sym f
  by_tests false false e f = e ∙ sym f
  by_tests true false e f = cc (turned a b e, f)
  by_tests false true e f = cc (turned b a f, e)

-- A MAP

-- a new word, inserted
pub binds_new : {A : Type 0} (words : List ℕ → Option A) (key new word : List ℕ) (to : A) → key ≡ new → words new ≡ None → cond (is_eq (slice_cmp nat_cmp key word)) (Some to) (words word) ≡ binds (Some new) to words word
binds_new words key new word to k none =
    ap (λ b. cond b (Some to) (words word)) (is_eq-slice_cmp key word ∙ ap (λ x. bytes_eq x word) k ∙ either_way new word)
    ∙ by_test (bytes_eq word new) refl where
      by_test : (b : Bool) → bytes_eq word new ≡ b → cond b (Some to) (words word) ≡ cond b (Some (or_new (words word) to)) (words word)
      by_test true e = ap (λ o. Some (or_new o to)) (sym (ap words (same_word word new e) ∙ none))
      by_test false e = refl

-- what it is bound to, seen by f
pub binds_seen : {A B : Type 0} (f : A → B) (target : Option (List ℕ)) (to : A) (words : List ℕ → Option A) (word : List ℕ) → option_map f (binds target to words word) ≡ binds target (f to) (λ w. option_map f (words w)) word
binds_seen f None to words word = refl
binds_seen {A = A} f (Some new) to words word = by_test (bytes_eq word new) (words word) where
  by_test : (b : Bool) (o : Option A) → option_map f (cond b (Some (or_new o to)) o) ≡ cond b (Some (or_new (option_map f o) (f to))) (option_map f o)
  by_test true None = refl
  by_test true (Some x) = refl
  by_test false o = refl

-- a word, taken out
pub closed_word : {A : Type 0} (words : List ℕ → Option A) (old word : List ℕ) → cond (is_eq (slice_cmp nat_cmp old word)) None (words word) ≡ closed old words word
closed_word words old word = ap (λ b. cond b None (words word)) (is_eq-slice_cmp old word)

-- the same, seen by f
pub closed_seen : {A B : Type 0} (f : A → B) (words : List ℕ → Option A) (old word : List ℕ) → option_map f (cond (is_eq (slice_cmp nat_cmp old word)) None (words word)) ≡ closed old (λ w. option_map f (words w)) word
closed_seen {A = A} f words old word = by_test (is_eq (slice_cmp nat_cmp old word)) (words word) ∙ closed_word (λ w. option_map f (words w)) old word where
  by_test : (b : Bool) (o : Option A) → option_map f (cond b None o) ≡ cond b None (option_map f o)
  by_test true o = refl
  by_test false o = refl

-- A LIST

if_cond : {A : Type 0} (t u : Bool) (to : A) (x : A) (before after : Option A) → after ≡ cond u (Some (or_new before to)) before → (if t then Some x else after) ≡ cond u (Some (or_new (if t then Some x else before) to)) (if t then Some x else before)
if_cond true true to x before after e = refl
if_cond true false to x before after e = refl
if_cond false u to x before after e = e

if_first : {A : Type 0} (t : Bool) (to : A) → (if t then Some to else None) ≡ cond t (Some to) None
if_first true to = refl
if_first false to = refl

-- a word more behind the others
pub named_behind : {A : Type 0} (xs : List (List ℕ × A)) (new : List ℕ) (to : A) (word : List ℕ) → named (xs ++ (new, to) ∷ []) word ≡ binds (Some new) to (named xs) word
named_behind [] new to word = if_first (bytes_eq word new) to
named_behind (x ∷ xs) new to word = if_cond (bytes_eq word x.0) (bytes_eq word new) to x.1 (named xs word) (named (xs ++ (new, to) ∷ []) word) (named_behind xs new to word)

none_either : (b : Bool) → let none : Option (Name × ℕ) = None in none ≡ cond b none none
none_either true = refl
none_either false = refl

-- a request fewer
pub named_without : (old : List ℕ) (xs : Requests) (word : List ℕ) → named (without old xs) word ≡ closed old (named xs) word
named_without old [] word = none_either (bytes_eq old word)
named_without old (x ∷ xs) word = by_first (bytes_eq old x.0) (bytes_eq old word) refl refl (named_without old xs word) where
  by_first : (t u : Bool) → bytes_eq old x.0 ≡ t → bytes_eq old word ≡ u → named (without old xs) word ≡ cond u None (named xs word) → named (cond (not t) (x ∷ without old xs) (without old xs)) word ≡ cond u None (if bytes_eq word x.0 then Some x.1 else named xs word)
  by_first true true e f g = g
  by_first true false e f g = g ∙ ap (λ b. if b then Some x.1 else named xs word) (sym (either_way word x.0 ∙ ap (λ w. bytes_eq w word) (sym (same_word old x.0 e)) ∙ f))
  by_first false true e f g = ap (λ b. if b then Some x.1 else named (without old xs) word) (ap (λ w. bytes_eq w x.0) (sym (same_word old word f)) ∙ e) ∙ g
  by_first false false e f g = ap (λ o. if bytes_eq word x.0 then Some x.1 else o) g

pub named_without_all : (olds : List (List ℕ)) (xs : Requests) (requests : List ℕ → Option (Name × ℕ)) → ((word : List ℕ) → requests word ≡ named xs word) → (word : List ℕ) → closed_all olds requests word ≡ named (without_all olds xs) word
named_without_all [] xs requests e word = e word
named_without_all (old ∷ olds) xs requests e word = named_without_all olds (without old xs) (closed old requests) (λ w. ap (cond (bytes_eq old w) None) (e w) ∙ sym (named_without old xs w)) word
