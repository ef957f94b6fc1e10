-- Options that words give.
use Rattle.std.proofs.Common.{◌≡◌, Bool, true, false, true≢false, codes, ◌<◌, ℕ, ◌≤◌, ◌-◌, ◌||◌, List, [], ◌∷◌, length, map, drop, take, get_or, Some, None, refl, sym, ap, ◌∙◌, arith}
use Rattle.std.specs.Prelude.{option_and_then, if◌then◌else◌}
use Rattle.mpx_statement.specs.declared.job.Options.{Options}
use Rattle.mpx_words.specs.Words.{complaint, is_in_one_word, job_in, limits_of, no_pair, options_in, or_more, usual, with_option, with_whole}

pub take_whole : {A : Type 0} (xs : List A) → take (length xs) xs ≡ xs
take_whole [] = refl
take_whole (x ∷ xs) = ap (λ ys. x ∷ ys) (take_whole xs)

-- a word that is the first one
told_of_first : {A B : Type 0} (f : A → B) (u x : A) (b : B) → x ≡ u → f x ≡ b → f u ≡ b
told_of_first f u x b e h = sym (ap f e) ∙ h

-- the first word is whole
pub one_whole : {A : Type 0} (f : A → List ℕ) (o more : Options) (words : List A) (x : A) → 1 ≤ length words → x ≡ get_or words 0 x → is_in_one_word (f x) ≡ true → with_whole o (f x) ≡ Some more
    → options_in more (map f (take (length words - 1) (drop 1 words))) ≡ options_in o (map f words)
one_whole f o more [] x l e h m = absurd (omega (arith, l))
one_whole f o more (u ∷ []) x l e h m =
    sym (ap (λ (b : Bool). if b then with_whole o (f u) else None) (told_of_first (λ w. is_in_one_word (f w)) u x true e h) ∙ told_of_first (λ w. with_whole o (f w)) u x (Some more) e m)
one_whole f o more (u ∷ v ∷ rest) x l e h m =
    let count : length (u ∷ v ∷ rest) - 1 ≡ length (v ∷ rest) = omega arith in
    ap (λ n. options_in more (map f (take n (v ∷ rest)))) count ∙ ap (λ ws. options_in more (map f ws)) (take_whole (v ∷ rest))
    ∙ sym (ap (option_and_then (λ p. options_in p (map f (v ∷ rest)))) (told_of_first (λ w. with_whole o (f w)) u x (Some more) e m))
    ∙ sym (ap (λ (b : Bool). if b then option_and_then (λ p. options_in p (map f (v ∷ rest))) (with_whole o (f u)) else option_and_then (λ p. options_in p (map f rest)) (with_option o (f u) (f v))) (told_of_first (λ w. is_in_one_word (f w)) u x true e h))

-- the first word is whole, and gives none
pub none_whole : {A : Type 0} (f : A → List ℕ) (o : Options) (words : List A) (x : A) → 1 ≤ length words → x ≡ get_or words 0 x → is_in_one_word (f x) ≡ true → with_whole o (f x) ≡ None
    → options_in o (map f words) ≡ None
none_whole f o [] x l e h m = absurd (omega (arith, l))
none_whole f o (u ∷ []) x l e h m =
    ap (λ (b : Bool). if b then with_whole o (f u) else None) (told_of_first (λ w. is_in_one_word (f w)) u x true e h) ∙ told_of_first (λ w. with_whole o (f w)) u x None e m
none_whole f o (u ∷ v ∷ rest) x l e h m =
    ap (λ (b : Bool). if b then option_and_then (λ p. options_in p (map f (v ∷ rest))) (with_whole o (f u)) else option_and_then (λ p. options_in p (map f rest)) (with_option o (f u) (f v))) (told_of_first (λ w. is_in_one_word (f w)) u x true e h)
    ∙ ap (option_and_then (λ p. options_in p (map f (v ∷ rest)))) (told_of_first (λ w. with_whole o (f w)) u x None e m)

-- the only word is not whole
pub one_word : {A : Type 0} (f : A → List ℕ) (o : Options) (words : List A) (x : A) → length words ≡ 1 → x ≡ get_or words 0 x → is_in_one_word (f x) ≡ false
    → options_in o (map f words) ≡ None
one_word f o [] x l e h = absurd (omega (arith, l))
one_word f o (u ∷ []) x l e h = ap (λ (b : Bool). if b then with_whole o (f u) else None) (told_of_first (λ w. is_in_one_word (f w)) u x false e h)
one_word f o (u ∷ v ∷ rest) x l e h = absurd (omega (arith, l))

-- the first two words are an option
pub one_option : {A : Type 0} (f : A → List ℕ) (o more : Options) (words : List A) (x y : A) → 2 ≤ length words → x ≡ get_or words 0 x → y ≡ get_or words 1 y → is_in_one_word (f x) ≡ false → with_option o (f x) (f y) ≡ Some more
    → options_in more (map f (take (length words - 2) (drop 2 words))) ≡ options_in o (map f words)
one_option f o more [] x y l e g differs h = absurd (omega (arith, l))
one_option f o more (u ∷ []) x y l e g differs h = absurd (omega (arith, l))
one_option f o more (u ∷ v ∷ rest) x y l e g differs h =
    let count : length (u ∷ v ∷ rest) - 2 ≡ length rest = omega arith in
    ap (λ n. options_in more (map f (take n rest))) count ∙ ap (λ ws. options_in more (map f ws)) (take_whole rest)
    ∙ ap (option_and_then (λ p. options_in p (map f rest))) (sym h ∙ λ i. with_option o (f (e i)) (f (g i)))
    ∙ sym (ap (λ (b : Bool). if b then option_and_then (λ p. options_in p (map f (v ∷ rest))) (with_whole o (f u)) else option_and_then (λ p. options_in p (map f rest)) (with_option o (f u) (f v))) (told_of_first (λ w. is_in_one_word (f w)) u x false e differs))

-- WHAT IS SAID

-- the first word is whole, and gives none
pub complains_of_whole : {A : Type 0} (f : A → List ℕ) (words : List A) (x : A) → 1 ≤ length words → x ≡ get_or words 0 x → is_in_one_word (f x) ≡ true → with_whole usual (f x) ≡ None
    → complaint (map f words) ≡ limits_of (f x)
complains_of_whole f [] x l e h m = absurd (omega (arith, l))
complains_of_whole f (u ∷ []) x l e h m =
    ap (λ (b : Bool). if b then or_more (with_whole usual (f u)) (f u) no_pair else no_pair) (told_of_first (λ w. is_in_one_word (f w)) u x true e h)
    ∙ ap (λ r. or_more r (f u) no_pair) (told_of_first (λ w. with_whole usual (f w)) u x None e m) ∙ sym (ap (λ w. limits_of (f w)) e)
complains_of_whole f (u ∷ v ∷ rest) x l e h m =
    ap (λ (b : Bool). if b then or_more (with_whole usual (f u)) (f u) (complaint (map f (v ∷ rest))) else or_more (with_option usual (f u) (f v)) (f u) (complaint (map f rest))) (told_of_first (λ w. is_in_one_word (f w)) u x true e h)
    ∙ ap (λ r. or_more r (f u) (complaint (map f (v ∷ rest)))) (told_of_first (λ w. with_whole usual (f w)) u x None e m) ∙ sym (ap (λ w. limits_of (f w)) e)

-- the first word is whole, and gives some
pub passes_whole : {A : Type 0} (f : A → List ℕ) (more : Options) (words : List A) (x : A) → 1 ≤ length words → x ≡ get_or words 0 x → is_in_one_word (f x) ≡ true → with_whole usual (f x) ≡ Some more
    → complaint (map f (take (length words - 1) (drop 1 words))) ≡ complaint (map f words)
passes_whole f more [] x l e h m = absurd (omega (arith, l))
passes_whole f more (u ∷ []) x l e h m =
    sym (ap (λ (b : Bool). if b then or_more (with_whole usual (f u)) (f u) no_pair else no_pair) (told_of_first (λ w. is_in_one_word (f w)) u x true e h)
    ∙ ap (λ r. or_more r (f u) no_pair) (told_of_first (λ w. with_whole usual (f w)) u x (Some more) e m))
passes_whole f more (u ∷ v ∷ rest) x l e h m =
    let count : length (u ∷ v ∷ rest) - 1 ≡ length (v ∷ rest) = omega arith in
    ap (λ n. complaint (map f (take n (v ∷ rest)))) count ∙ ap (λ ws. complaint (map f ws)) (take_whole (v ∷ rest))
    ∙ sym (ap (λ (b : Bool). if b then or_more (with_whole usual (f u)) (f u) (complaint (map f (v ∷ rest))) else or_more (with_option usual (f u) (f v)) (f u) (complaint (map f rest))) (told_of_first (λ w. is_in_one_word (f w)) u x true e h)
    ∙ ap (λ r. or_more r (f u) (complaint (map f (v ∷ rest)))) (told_of_first (λ w. with_whole usual (f w)) u x (Some more) e m))

-- the program's name alone
pub name_alone : {A : Type 0} (f : A → List ℕ) (words : List A) → length words < 2 → job_in (map f words) ≡ None
name_alone f [] l = refl
name_alone f (u ∷ []) l = refl
name_alone f (u ∷ v ∷ rest) l = absurd (omega (arith, l))
