-- Lists of equal blocks that are put together of parts.
use Rattle.std.proofs.Common.{◌≡◌, ℕ, zero, suc, ◌+◌, ◌*◌, ◌/◌, ◌%◌, ◌<◌, ◌≤◌, ◌++◌, ◌∷◌, [], inl, inr, List, length, map, take, drop, refl, ap, ap₂, sym, ◌∙◌, add-one, append-nil, arith}
use Rattle.std.specs.List.{All, flat_map, sum_by}
use Rattle.std.specs.Prelude.{slice_index_or}
use Rattle.std.proofs.Math.Nat.{mul-le-mul_right, mul_comm, suc-mul}
use Rattle.std.proofs.lemmas.Bool.{cases_lt}
use Rattle.std.proofs.lemmas.Nat.{div-add-mod', div-mul-add}
use Rattle.std.proofs.lemmas.List.{drop-append-le, drop_all, drop_at, length-append, length-drop, length-take-le, take-append-le, take_all, take_more}
use Rattle.std.proofs.lemmas.List.Concat.{flat_map-append}
use Rattle.std.proofs.lemmas.List.Elements.{All-head, All-tail}
use Rattle.std.proofs.lemmas.List.Folds.{flat_map-map}
use Rattle.std.proofs.lemmas.List.Sums.{sum_by-cons}
use Rattle.mpx_birth.specs.Births.{upto}
use Rattle.mpx_call.specs.Parts.{block_in, put_together}

-- lists of so many numbers, one after the other

pub upto_suc : {T : Type 0} (f : ℕ → List T) (n : ℕ) → flat_map f (upto (suc n)) ≡ flat_map f (upto n) ++ f n
upto_suc f n = flat_map-append f (upto n) (n ∷ []) ∙ ap (λ l. flat_map f (upto n) ++ l) (append-nil (f n))

pub same_upto : {T : Type 0} (f g : ℕ → List T) (n : ℕ) → ((i : ℕ) → i < n → f i ≡ g i) → flat_map f (upto n) ≡ flat_map g (upto n)
same_upto f g zero are = refl
same_upto f g (suc n) are = upto_suc f n ∙ ap₂ (λ a b. a ++ b) (same_upto f g n (λ i below. are i (omega (arith, below)))) (are n (omega arith)) ∙ sym (upto_suc g n)

-- a row's lists by the places
upto_take : {A T : Type 0} (g : A → List T) (none : A) (xs : List A) (n : ℕ) → n ≤ length xs → flat_map g (take n xs) ≡ flat_map (λ i. g (slice_index_or xs i none)) (upto n)
upto_take g none xs zero within = refl
upto_take g none xs (suc n) within =
    ap (λ m. flat_map g (take m xs)) (sym (add-one n)) ∙ ap (flat_map g) (take_more xs n none (omega (arith, within)))
    ∙ flat_map-append g (take n xs) (slice_index_or xs n none ∷ []) ∙ ap (λ l. flat_map g (take n xs) ++ l) (append-nil (g (slice_index_or xs n none)))
    ∙ ap (λ l. l ++ g (slice_index_or xs n none)) (upto_take g none xs n (omega (arith, within)))
    ∙ sym (upto_suc (λ i. g (slice_index_or xs i none)) n)

pub by_places : {A T : Type 0} (g : A → List T) (none : A) (xs : List A) → flat_map g xs ≡ flat_map (λ i. g (slice_index_or xs i none)) (upto (length xs))
by_places g none xs = ap (flat_map g) (sym (take_all (length xs) xs (omega arith))) ∙ upto_take g none xs (length xs) (omega arith)

-- one of so many equal blocks

pub length_upto : {T : Type 0} (f : ℕ → List T) (each n : ℕ) → ((i : ℕ) → i < n → length (f i) ≡ each) → length (flat_map f (upto n)) ≡ n * each
length_upto f each zero are = omega arith
length_upto f each (suc n) are =
    ap length (upto_suc f n) ∙ length-append (flat_map f (upto n)) (f n)
    ∙ ap₂ (λ a b. a + b) (length_upto f each n (λ i below. are i (omega (arith, below)))) (are n (omega arith)) ∙ sym (suc-mul n each)

block_upto : {T : Type 0} (f : ℕ → List T) (each n number : ℕ) → ((i : ℕ) → i < n → length (f i) ≡ each) → number < n → take each (drop (number * each) (flat_map f (upto n))) ≡ f number
block_upto f each zero number are below = absurd (omega (arith, below))
block_upto f each (suc n) number are below =
    let before = flat_map f (upto n) in
    let long : length before ≡ n * each = length_upto f each n (λ i l. are i (omega (arith, l))) in
    ap (λ l. take each (drop (number * each) l)) (upto_suc f n) ∙ elim (cases_lt number n) as (λ _. take each (drop (number * each) (before ++ f n)) ≡ f number) [
      | inl less ↦
          let fits : suc number * each ≤ n * each = mul-le-mul_right each (omega (arith, less)) in
          let next : suc number * each ≡ number * each + each = suc-mul number each in
          ap (take each) (drop-append-le (number * each) before (f n) (omega (arith, fits, next, long)))
          ∙ take-append-le each (drop (number * each) before) (f n) (omega (arith, fits, next, long, length-drop (number * each) before))
          ∙ block_upto f each n number (λ i l. are i (omega (arith, l))) less
      | inr more ↦
          let same : n ≡ number = omega (arith, below, more) in
          let here : length before ≡ number * each = long ∙ ap (λ m. m * each) same in
          ap (take each) (drop_at before (f n) (number * each) here) ∙ take_all each (f n) (omega (arith, are n (omega arith))) ∙ ap f same
    ]

-- so many times a number, by how many
times_by : (each n number : ℕ) → number < n → (n * each) / n ≡ each
times_by each n number below =
    let turned : n * each ≡ each * n + 0 = mul_comm n each ∙ omega arith in
    ap (λ m. m / n) turned ∙ div-mul-add each n 0 (omega (arith, below))

pub block_in_upto : {T : Type 0} (f : ℕ → List T) (each n number : ℕ) → ((i : ℕ) → i < n → length (f i) ≡ each) → number < n → block_in n number (flat_map f (upto n)) ≡ f number
block_in_upto f each n number are below =
    ap (λ e. take e (drop (number * e) (flat_map f (upto n)))) (ap (λ l. l / n) (length_upto f each n are) ∙ times_by each n number below) ∙ block_upto f each n number are below

pub length-block_in : {T : Type 0} (n number : ℕ) (list : List T) → number < n → length (block_in n number list) ≡ length list / n
length-block_in n number list below =
    let each = length list / n in
    let whole : each * n + length list % n ≡ length list = div-add-mod' (length list) n in
    let fits : suc number * each ≤ n * each = mul-le-mul_right each (omega (arith, below)) in
    let next : suc number * each ≡ number * each + each = suc-mul number each in
    let turned : n * each ≡ each * n = mul_comm n each in
    length-take-le each (drop (number * each) list) (omega (arith, whole, fits, next, turned, length-drop (number * each) list))

-- PARTS PUT TOGETHER

-- equal lists of each part, one after the other
pub same_of_each : {P T : Type 0} (f g : P → List T) (Is : P → Type 0) → ((part : P) → Is part → f part ≡ g part) → (parts : List P) → All Is parts → flat_map f parts ≡ flat_map g parts
same_of_each f g Is same [] all = refl
same_of_each f g Is same (part ∷ parts) all = ap₂ (λ a b. a ++ b) (same part (All-head Is part parts all)) (same_of_each f g Is same parts (All-tail Is part parts all))

same_map : {P T : Type 0} (f g : P → List T) (Is : P → Type 0) → ((part : P) → Is part → f part ≡ g part) → (parts : List P) → All Is parts → map f parts ≡ map g parts
same_map f g Is same [] all = refl
same_map f g Is same (part ∷ parts) all = ap₂ (λ a b. a ∷ b) (same part (All-head Is part parts all)) (same_map f g Is same parts (All-tail Is part parts all))

pub put_same : {P T : Type 0} (n : ℕ) (f g : P → List T) (Is : P → Type 0) → ((part : P) → Is part → f part ≡ g part) → (parts : List P) → All Is parts → put_together n (map f parts) ≡ put_together n (map g parts)
put_same n f g Is same parts all = ap (put_together n) (same_map f g Is same parts all)

length_blocks : {T : Type 0} (n number : ℕ) (lists : List (List T)) → number < n → length (flat_map (block_in n number) lists) ≡ sum_by (λ (list : List T). length list / n) lists
length_blocks n number [] below = refl
length_blocks {T} n number (list ∷ lists) below =
    length-append (block_in n number list) (flat_map (block_in n number) lists)
    ∙ ap₂ (λ a b. a + b) (length-block_in n number list below) (length_blocks n number lists below)
    ∙ sym (sum_by-cons (λ (list : List T). length list / n) list lists)

-- of lists that are put together, one block
pub block_in_put : {T : Type 0} (n number : ℕ) (lists : List (List T)) → number < n → block_in n number (put_together n lists) ≡ flat_map (block_in n number) lists
block_in_put {T} n number lists below =
    block_in_upto (λ i. flat_map (block_in n i) lists) (sum_by (λ (list : List T). length list / n) lists) n number (λ i l. length_blocks n i lists l) below

-- one block of each list: the lists one after the other
block_alone : {T : Type 0} (list : List T) → block_in 1 0 list ≡ list
block_alone list =
    let once : length list ≡ length list * 1 + 0 = omega arith in
    let each : length list / 1 ≡ length list = ap (λ m. m / 1) once ∙ div-mul-add (length list) 1 0 (omega arith) in
    let none : 0 * length list ≡ 0 = omega arith in
    ap (λ e. take e (drop (0 * e) list)) each ∙ ap (λ m. take (length list) (drop m list)) none ∙ take_all (length list) list (omega arith)

alone_of_each : {P T : Type 0} (f : P → List T) (parts : List P) → flat_map (λ part. block_in 1 0 (f part)) parts ≡ flat_map f parts
alone_of_each f [] = refl
alone_of_each f (part ∷ parts) = ap₂ (λ a b. a ++ b) (block_alone (f part)) (alone_of_each f parts)

pub put_one : {P T : Type 0} (f : P → List T) (parts : List P) → put_together 1 (map f parts) ≡ flat_map f parts
put_one f parts = append-nil (flat_map (block_in 1 0) (map f parts)) ∙ flat_map-map (block_in 1 0) f parts ∙ alone_of_each f parts

-- as many blocks as there are ranks, of each part all as long
pub put_ranks : {P T : Type 0} (whole : ℕ → List T) (blocks : P → ℕ → List T) (each : P → ℕ) (n : ℕ) (Is : P → Type 0) (parts : List P)
    → ((part : P) → Is part → (i : ℕ) → i < n → length (blocks part i) ≡ each part) → All Is parts → ((i : ℕ) → i < n → whole i ≡ flat_map (λ part. blocks part i) parts)
    → flat_map whole (upto n) ≡ put_together n (map (λ part. flat_map (blocks part) (upto n)) parts)
put_ranks whole blocks each n Is parts even all are =
    same_upto whole (λ i. flat_map (block_in n i) (map (λ part. flat_map (blocks part) (upto n)) parts)) n (λ i below.
    are i below
    ∙ same_of_each (λ part. blocks part i) (λ part. block_in n i (flat_map (blocks part) (upto n))) Is (λ part is. sym (block_in_upto (blocks part) (each part) n i (even part is) below)) parts all
    ∙ sym (flat_map-map (block_in n i) (λ part. flat_map (blocks part) (upto n)) parts))

-- no part gives anything
nothing_upto : {T : Type 0} (n : ℕ) (f : ℕ → List T) → ((i : ℕ) → f i ≡ []) → flat_map f (upto n) ≡ []
nothing_upto zero f none = refl
nothing_upto (suc n) f none = upto_suc f n ∙ ap₂ (λ a b. a ++ b) (nothing_upto n f none) (none n)

pub block_in_none : {T : Type 0} (n i : ℕ) → block_in {T = T} n i [] ≡ []
block_in_none n i = ap (take (0 / n)) (drop_all (i * (0 / n)) [] (omega arith)) ∙ take_all (0 / n) [] (omega arith)

nothing_of_each : {P T : Type 0} (n i : ℕ) (parts : List P) → flat_map (block_in {T = T} n i) (map (λ (part : P). []) parts) ≡ []
nothing_of_each n i [] = refl
nothing_of_each n i (part ∷ parts) = ap₂ (λ a b. a ++ b) (block_in_none n i) (nothing_of_each n i parts)

pub put_none : {P T : Type 0} (n : ℕ) (parts : List P) → put_together {T = T} n (map (λ (part : P). []) parts) ≡ []
put_none n parts = nothing_upto n (λ i. flat_map (block_in n i) (map (λ part. []) parts)) (λ i. nothing_of_each n i parts)
