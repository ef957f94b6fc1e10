-- What is cut of a list of equal blocks, put together, is the list.
use Rattle.std.proofs.Common.{◌≡◌, ℕ, zero, suc, ◌+◌, ◌*◌, ◌/◌, ◌-◌, ◌<◌, ◌≤◌, ◌++◌, ◌∷◌, [], List, length, map, min, take, drop, refl, ap, ap₂, sym, subst, ◌∙◌, add-one, append_assoc, append-nil, arith}
use Rattle.std.specs.List.{All, flat_map, sum_by}
use Rattle.std.proofs.Math.Nat.{mul_comm, suc-mul}
use Rattle.std.proofs.lemmas.Nat.{div-mul-add, mul-le}
use Rattle.std.proofs.lemmas.List.{drop-drop, drop-take, drop_at, length-append, length-drop, length-take-le, map-append, take-append-drop, take-take, take_all, take_at}
use Rattle.std.proofs.lemmas.List.Concat.{flat_map-append}
use Rattle.std.proofs.lemmas.List.Elements.{All-append, All-from_recursion, All-head, All-nil, All-tail}
use Rattle.std.proofs.lemmas.List.Sums.{sum_by_push}
use Rattle.mpx_birth.specs.Births.{upto}
use Rattle.mpx_call.specs.Parts.{AreFull, AreParts, Follow, Part, block_in, cut, put_together}
use Rattle.mpx_call.proofs.Parts.{upto_more}

-- the first of a list, and then the next ones
pub take_then : {T : Type 0} (n m : ℕ) (list : List T) → take n list ++ take m (drop n list) ≡ take (n + m) list
take_then zero m list =
    let same : m ≡ zero + m = omega arith in
    ap (λ k. take k list) same
take_then (suc n) m [] = take_all m [] (omega arith) ∙ sym (take_all (suc n + m) [] (omega arith))
take_then (suc n) m (x ∷ list) =
    let same : suc (n + m) ≡ suc n + m = omega arith in
    ap (λ l. x ∷ l) (take_then n m list) ∙ ap (λ k. take k (x ∷ list)) same

-- the items of one block are those of the list
pub within : {T : Type 0} (first each count : ℕ) (list : List T) → first + each ≤ count → take each (drop first (take count list)) ≡ take each (drop first list)
within first each count list fits =
    let same : count ≡ first + (count - first) = omega arith in
    ap (λ k. take each (drop first (take k list))) same ∙ ap (take each) (drop-take first (count - first) list) ∙ take-take each (count - first) (drop first list) (omega arith)

-- the length of the first block's cut
one_cut : {T : Type 0} (first each count : ℕ) (list : List T) → first + each ≤ count → count ≤ length list → length (take each (drop first (take count list))) ≡ each
one_cut first each count list fits has =
    ap length (within first each count list fits) ∙ length-take-le each (drop first list) (simp (length-drop) (omega arith))

left : {T : Type 0} (blocks count : ℕ) (list : List T) → length list ≡ suc blocks * count → length (drop count list) ≡ blocks * count
left blocks count list l =
    let e : length list ≡ blocks * count + count = l ∙ suc-mul blocks count in
    length-drop count list ∙ omega (arith, e)

has_one : {T : Type 0} (blocks count : ℕ) (list : List T) → length list ≡ suc blocks * count → count ≤ length list
has_one blocks count list l =
    let e : length list ≡ blocks * count + count = l ∙ suc-mul blocks count in
    omega (arith, e)

pub length-cut : {T : Type 0} (blocks count first each : ℕ) (list : List T) → first + each ≤ count → length list ≡ blocks * count → length (cut blocks count first each list) ≡ blocks * each
length-cut zero count first each list fits l = omega arith
length-cut (suc blocks) count first each list fits l =
    let rest : length (cut blocks count first each (drop count list)) ≡ blocks * each = length-cut blocks count first each (drop count list) fits (left blocks count list l) in
    let here : length (take each (drop first (take count list))) ≡ each = one_cut first each count list fits (has_one blocks count list l) in
    length-append (take each (drop first (take count list))) (cut blocks count first each (drop count list)) ∙ ap₂ (λ a b. a + b) here rest ∙ omega arith ∙ sym (suc-mul blocks each)

-- of the cut the block with this number
cut_at : {T : Type 0} (blocks count first each number : ℕ) (list : List T) → first + each ≤ count → length list ≡ blocks * count → number < blocks
    → take each (drop (number * each) (cut blocks count first each list)) ≡ take each (drop first (drop (number * count) list))
cut_at zero count first each number list fits l below = absurd (omega arith)
cut_at (suc blocks) count first each zero list fits l below =
    let here : length (take each (drop first (take count list))) ≡ each = one_cut first each count list fits (has_one blocks count list l) in
    let none : zero * each ≡ zero = omega arith in
    let neither : zero ≡ zero * count = omega arith in
    ap (λ n. take each (drop n (cut (suc blocks) count first each list))) none
    ∙ take_at (take each (drop first (take count list))) (cut blocks count first each (drop count list)) each here
    ∙ within first each count list fits
    ∙ ap (λ n. take each (drop first (drop n list))) neither
cut_at (suc blocks) count first each (suc number) list fits l below =
    let head = take each (drop first (take count list)) in
    let tail = cut blocks count first each (drop count list) in
    let here : length head ≡ each = one_cut first each count list fits (has_one blocks count list l) in
    let step : suc number * each ≡ each + number * each = suc-mul number each ∙ omega arith in
    let over : count + number * count ≡ suc number * count = omega arith ∙ sym (suc-mul number count) in
    ap (λ n. take each (drop n (head ++ tail))) step
    ∙ ap (take each) (sym (drop-drop (number * each) each (head ++ tail)))
    ∙ ap (λ rest. take each (drop (number * each) rest)) (drop_at head tail each here)
    ∙ cut_at blocks count first each number (drop count list) fits (left blocks count list l) (omega arith)
    ∙ ap (λ rest. take each (drop first rest)) (drop-drop (number * count) count list ∙ ap (λ n. drop n list) over)

length_each : (blocks number each : ℕ) → number < blocks → (blocks * each) / blocks ≡ each
length_each blocks number each below = ap (λ n. n / blocks) (mul_comm blocks each ∙ omega arith) ∙ div-mul-add each blocks 0 (omega arith)

pub block_cut : {T : Type 0} (blocks count first each number : ℕ) (list : List T) → first + each ≤ count → length list ≡ blocks * count → number < blocks
    → block_in blocks number (cut blocks count first each list) ≡ take each (drop first (drop (number * count) list))
block_cut blocks count first each number list fits l below =
    ap (λ e. take e (drop (number * e) (cut blocks count first each list))) (ap (λ n. n / blocks) (length-cut blocks count first each list fits l) ∙ length_each blocks number each below)
    ∙ cut_at blocks count first each number list fits l below

-- blocks, one after the other, are the list
blocks_upto : {T : Type 0} (f : ℕ → List T) (blocks count : ℕ) (list : List T) → ((number : ℕ) → number < blocks → f number ≡ take count (drop (number * count) list)) → (upper : ℕ) → upper ≤ blocks → flat_map f (upto upper) ≡ take (upper * count) list
blocks_upto f blocks count list are zero below =
    let none : 0 ≡ zero * count = omega arith in
    ap (λ n. take n list) none
blocks_upto f blocks count list are (suc upper) below =
    let step : upper * count + count ≡ suc upper * count = sym (suc-mul upper count) in
    ap (λ n. flat_map f (upto n)) (sym (add-one upper)) ∙ sym (upto_more f upper)
    ∙ ap₂ (λ a b. a ++ b) (blocks_upto f blocks count list are upper (omega arith)) (are upper (omega arith))
    ∙ take_then (upper * count) count list ∙ ap (λ n. take n list) step

pub are_all : {T : Type 0} (f : ℕ → List T) (blocks count : ℕ) (list : List T) → length list ≡ blocks * count → ((number : ℕ) → number < blocks → f number ≡ take count (drop (number * count) list)) → flat_map f (upto blocks) ≡ list
are_all f blocks count list l are = blocks_upto f blocks count list are blocks (omega arith) ∙ take_all (blocks * count) list (omega (arith, l))

-- one part more, after parts that are full
one_full : {T : Type 0} (most : ℕ) (parts : List (Part T)) (part : Part T) → All (λ (p : Part T). p.count ≡ most) parts → 0 < part.count → part.count ≤ most → AreFull most (parts ++ part ∷ [])
one_full most [] part full some few = (some, few)
one_full {T} most (first ∷ []) part full some few = (All-head (λ (p : Part T). p.count ≡ most) first [] full, (some, few))
one_full {T} most (first ∷ next ∷ parts) part full some few =
    (All-head (λ (p : Part T). p.count ≡ most) first (next ∷ parts) full, one_full most (next ∷ parts) part (All-tail (λ (p : Part T). p.count ≡ most) first (next ∷ parts) full) some few)

-- what calls have given so far, of the first so many items of each block
pub record SoFar {T S : Type 0} (Call : Part T → S → S → Type 0) (most gives count first : ℕ) (items : List T) (lists : List (List T)) (old new : S) : Type 0 where
  pub parts : List (Part T)
  pub follow : Follow Call parts old new
  pub before : first < count → All (λ (part : Part T). part.count ≡ most) parts
  pub full : AreFull most parts
  pub each : All (λ (part : Part T). part.count ≤ most) parts
  pub lengths : All (λ (part : Part T). length part.given ≡ gives * part.count) parts
  pub all : sum_by (λ (part : Part T). part.count) parts ≡ first
  pub given : (number : ℕ) → number < gives → flat_map (block_in gives number) (map (λ (part : Part T). part.given) parts) ≡ take first (drop (number * count) items)
  pub got : map (λ (part : Part T). part.got) parts ≡ lists

pub none_yet : {T S : Type 0} (Call : Part T → S → S → Type 0) (most gives count : ℕ) (items : List T) (old : S) → SoFar Call most gives count 0 items [] old old
none_yet {T} Call most gives count items old = record {
  parts = [];
  follow = refl;
  before = λ more. All-nil (λ (p : Part T). p.count ≡ most);
  full = tt;
  each = All-nil (λ (p : Part T). p.count ≤ most);
  lengths = All-nil (λ (p : Part T). length p.given ≡ gives * p.count);
  all = refl;
  given = λ number below. refl;
  got = refl;
}

-- one call more
follow_more : {T S : Type 0} (Call : Part T → S → S → Type 0) (parts : List (Part T)) (part : Part T) (old between new : S) → Follow Call parts old between → Call part between new → Follow Call (parts ++ part ∷ []) old new
follow_more Call [] part old between new same does = (new, subst (λ s. Call part s new) same does, refl)
follow_more Call (p ∷ parts) part old between new (first, did, follow) does = (first, did, follow_more Call parts part first between new follow does)

pub one_more : {T S : Type 0} (Call : Part T → S → S → Type 0) (most gives count first each : ℕ) (items : List T) (lists : List (List T)) (given got : List T) (old between new : S)
    → SoFar Call most gives count first items lists old between → length items ≡ gives * count → first + each ≤ count → each ≤ most → 0 < each → (first + each < count → each ≡ most) → given ≡ cut gives count first each items
    → Call (record { count = each; given = given; got = got }) between new
    → SoFar Call most gives count (first + each) items (lists ++ got ∷ []) old new
one_more {T} Call most gives count first each items lists given got old between new so_far l fits few some last is does =
    let part : Part T = record { count = each; given = given; got = got } in
    let whole : length given ≡ gives * each = ap length is ∙ length-cut gives count first each items fits l in
    let f = λ (p : Part T). p.given in
    record {
      parts = so_far.parts ++ part ∷ [];
      follow = follow_more Call so_far.parts part old between new so_far.follow does;
      before = λ more. All-append (λ (p : Part T). p.count ≡ most) so_far.parts (part ∷ []) (so_far.before (omega arith)) (All-from_recursion (λ (p : Part T). p.count ≡ most) (part ∷ []) (last more, tt));
      full = one_full most so_far.parts part (so_far.before (omega arith)) some few;
      each = All-append (λ (p : Part T). p.count ≤ most) so_far.parts (part ∷ []) so_far.each (All-from_recursion (λ (p : Part T). p.count ≤ most) (part ∷ []) (few, tt));
      lengths = All-append (λ (p : Part T). length p.given ≡ gives * p.count) so_far.parts (part ∷ []) so_far.lengths (All-from_recursion (λ (p : Part T). length p.given ≡ gives * p.count) (part ∷ []) (whole, tt));
      all = sum_by_push (λ (p : Part T). p.count) so_far.parts part ∙ ap (λ n. n + each) so_far.all;
      given = λ number below.
          ap (flat_map (block_in gives number)) (map-append f so_far.parts (part ∷ []))
          ∙ flat_map-append (block_in gives number) (map f so_far.parts) (given ∷ [])
          ∙ ap₂ (λ a b. a ++ b) (so_far.given number below) (append-nil (block_in gives number given) ∙ ap (block_in gives number) is ∙ block_cut gives count first each number items fits l below)
          ∙ take_then first each (drop (number * count) items);
      got = map-append (λ (p : Part T). p.got) so_far.parts (part ∷ []) ∙ ap (λ l. l ++ got ∷ []) so_far.got;
    }

-- all calls are made
pub all_done : {T S : Type 0} (Call : Part T → S → S → Type 0) (most gives gets count : ℕ) (items : List T) (lists : List (List T)) (list : List T) (old new : S)
    → SoFar Call most gives count count items lists old new → length items ≡ gives * count → list ≡ put_together gets lists
    → (parts : List (Part T)) × Follow Call parts old new × AreParts most gives gets count items list parts
all_done {T} Call most gives gets count items lists list old new so_far l is = (
  so_far.parts,
  so_far.follow,
  record {
    whole = l;
    full = so_far.full;
    each = so_far.each;
    lengths = so_far.lengths;
    all = so_far.all;
    given = are_all (λ number. flat_map (block_in gives number) (map (λ (p : Part T). p.given) so_far.parts)) gives count items l so_far.given;
    got = ap (put_together gets) so_far.got ∙ sym is;
  },
)
