-- Blocks by their places: each begins where those before it end.
use Rattle.std.proofs.Common.{◌≡◌, ℕ, zero, suc, ◌+◌, ◌*◌, ◌<◌, ◌≤◌, List, [], ◌∷◌, ℤ, true, length, take, drop, replicate, sum, Option, refl, sym, subst, ap, ◌∙◌, arith}
use Rattle.std.proofs.Math.Nat.{add-mul, mul-le-mul_right}
use Rattle.std.proofs.lemmas.List.{drop-drop, get_or-replicate, length-replicate, take-replicate}
use Rattle.std.proofs.lemmas.List.Folds.{sum_by-replicate}
use Rattle.std.proofs.lemmas.List.Sums.{sum_by-cons, sum_by_more_le}
use Rattle.mpx_num.specs.declared.types.Ty.{Ty}
use Rattle.mpx_num.specs.Types.{item_len}
use Rattle.mpx_kind.specs.declared.kinds.Kind.{Kind}
use Rattle.mpx_post.specs.Blocks.{block_at, blocks_sent, repeated}
use Rattle.mpx_kind.specs.Kinds.{fields_of, number_in}
use Rattle.mpx_post.specs.Posts.{Given}
use Rattle.mpx_birth.specs.Topologies.{TopologyView}
use Rattle.mpx_post.specs.Agreement.{count_at, fill, is_fit, seat_of}
use Rattle.mpx_post.proofs.Agreement.{fits_parts}

-- so many items, from a place on
abbrev pub part : Ty → (first count : ℕ) → List ℤ → List ℤ
part ty first count nums = take (count * item_len ty) (drop (first * item_len ty) nums)

-- the part of what is behind a first block
part_behind : (ty : Ty) (size first count : ℕ) (nums : List ℤ) → part ty first count (drop (size * item_len ty) nums) ≡ part ty (size + first) count nums
part_behind ty size first count nums = ap (take (count * item_len ty)) (drop-drop (first * item_len ty) (size * item_len ty) nums ∙ ap (λ (n : ℕ). drop n nums) (sym (add-mul size first (item_len ty))))

pub block_at-part : (ty : Ty) (counts : List ℕ) (nums : List ℤ) (i : ℕ) → i < length counts → block_at ty counts nums i ≡ part ty (sum (take i counts)) (count_at counts i) nums
block_at-part ty [] nums i l = absurd (omega arith)
block_at-part ty (count ∷ counts) nums zero l = let none : 0 ≡ 0 * item_len ty = omega arith in ap (λ (n : ℕ). take (count * item_len ty) (drop n nums)) none
block_at-part ty (count ∷ counts) nums (suc i) l =
    block_at-part ty counts (drop (count * item_len ty) nums) i (omega arith)
    ∙ part_behind ty count (sum (take i counts)) (count_at counts i) nums
    ∙ ap (λ (n : ℕ). part ty n (count_at counts i) nums) (sym (sum_by-cons (λ n. n) count (take i counts)))

-- the blocks lie within numbers that are as many as all blocks have
pub block_within : (ty : Ty) (counts : List ℕ) (nums : List ℤ) (i : ℕ) → i < length counts → sum counts * item_len ty ≡ length nums → (sum (take i counts) + count_at counts i) * item_len ty ≤ length nums
block_within ty counts nums i l e =
    let before : sum (take i counts) + count_at counts i ≤ sum counts = sum_by_more_le (λ n. n) counts i 0 l in
    let within = mul-le-mul_right (item_len ty) before in
    omega arith

-- ONE COUNT FOR ALL BLOCKS

pub repeated-replicate : (n count : ℕ) → repeated n (count ∷ []) ≡ replicate n count
repeated-replicate zero count = refl
repeated-replicate (suc n) count = ap (λ (counts : List ℕ). count ∷ counts) (repeated-replicate n count)

pub length-repeated : (n count : ℕ) → length (repeated n (count ∷ [])) ≡ n
length-repeated n count = ap length (repeated-replicate n count) ∙ length-replicate n count

pub block_at-repeated : (ty : Ty) (n count : ℕ) (nums : List ℤ) (i : ℕ) → i < n → block_at ty (repeated n (count ∷ [])) nums i ≡ part ty (i * count) count nums
block_at-repeated ty n count nums i l =
    let counts : List ℕ = replicate n count in
    let before : sum (take i counts) ≡ i * count = ap sum (take-replicate i n count (omega arith)) ∙ sum_by-replicate (λ n. n) i count in
    ap (λ (list : List ℕ). block_at ty list nums i) (repeated-replicate n count)
    ∙ block_at-part ty counts nums i (omega (arith, length-replicate n count))
    ∙ ap (λ (first : ℕ). part ty first (count_at counts i) nums) before
    ∙ ap (λ (size : ℕ). part ty (i * count) size nums) (get_or-replicate n i count 0 l)

pub repeated_within : (ty : Ty) (n count : ℕ) (nums : List ℤ) (i : ℕ) → i < n → sum (repeated n (count ∷ [])) * item_len ty ≡ length nums → (i * count + count) * item_len ty ≤ length nums
repeated_within ty n count nums i l e =
    let total : sum (repeated n (count ∷ [])) ≡ n * count = ap sum (repeated-replicate n count) ∙ sum_by-replicate (λ n. n) n count in
    let all : n * count * item_len ty ≡ length nums = ap (λ (m : ℕ). m * item_len ty) (sym total) ∙ e in
    let before : (i + 1) * count ≤ n * count = mul-le-mul_right count (omega arith) in
    let within : (i + 1) * count * item_len ty ≤ n * count * item_len ty = mul-le-mul_right (item_len ty) before in
    omega arith

pub count_alone : (counts : List ℕ) → length counts ≡ 1 → counts ≡ count_at counts 0 ∷ []
count_alone [] e = absurd (omega arith)
count_alone (count ∷ []) e = refl
count_alone (count ∷ next ∷ counts) e = absurd (omega arith)

-- one count for each of so many blocks
pub length-alone : (n : ℕ) (counts : List ℕ) → length counts ≡ 1 → length (repeated n counts) ≡ n
length-alone n counts one = ap (λ (list : List ℕ). length (repeated n list)) (count_alone counts one) ∙ length-repeated n (count_at counts 0)

-- A POST THAT FITS, BY ITS KIND

module _ (topology : Option TopologyView) (kind : Kind) (size rank : ℕ) (given : Given) (is : given.kind ≡ kind) (fit : is_fit topology size rank given ≡ true) where
  pub scounts_as : length given.scounts ≡ number_in (fields_of kind).scounts (seat_of topology size rank given)
  scounts_as = subst (λ (k : Kind). length given.scounts ≡ number_in (fields_of k).scounts (seat_of topology size rank given)) is (fits_parts topology size rank given fit).scounts

  pub rcounts_as : length given.rcounts ≡ number_in (fields_of kind).rcounts (seat_of topology size rank given)
  rcounts_as = subst (λ (k : Kind). length given.rcounts ≡ number_in (fields_of k).rcounts (seat_of topology size rank given)) is (fits_parts topology size rank given fit).rcounts

  pub filled_as : fill (blocks_sent (fields_of kind).sent (seat_of topology size rank given) given.scounts given.rcounts) given ≡ true
  filled_as = subst (λ (k : Kind). fill (blocks_sent (fields_of k).sent (seat_of topology size rank given) given.scounts given.rcounts) given ≡ true) is (fits_parts topology size rank given fit).filled
