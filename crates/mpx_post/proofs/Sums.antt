-- Lists so many times over.
use Rattle.std.proofs.Common.{◌≡◌, ℕ, zero, suc, ◌*◌, ◌<◌, ◌&&◌, Bool, true, false, List, map, append-nil, ap, refl, sum, arith}
use Rattle.std.specs.List.{list_all}
use Rattle.std.proofs.lemmas.List.{map-append}
use Rattle.std.proofs.lemmas.List.Folds.{list_all-append}
use Rattle.std.proofs.lemmas.List.Sums.{sum_by-append}
use Rattle.mpx_post.specs.Blocks.{repeated}

pub map-repeated : {A B : Type 0} (f : A → B) (n : ℕ) (xs : List A) → map f (repeated n xs) ≡ repeated n (map f xs)
map-repeated f zero xs = refl
map-repeated f (suc n) xs = rw (map-append f xs (repeated n xs), map-repeated f n xs)

pub sum-repeated : (n : ℕ) (xs : List ℕ) → sum (repeated n xs) ≡ n * sum xs
sum-repeated zero xs = omega arith
sum-repeated (suc n) xs =
    let more : sum (repeated n xs) ≡ n * sum xs = sum-repeated n xs in
    rw (sum_by-append (λ x. x) xs (repeated n xs), more) (omega arith)

and_same : (b : Bool) → (b && b) ≡ b
and_same true = refl
and_same false = refl

-- a test holds of a list's elements as of theirs so many times over
pub list_all-repeated : {A : Type 0} (p : A → Bool) (n : ℕ) (xs : List A) → 0 < n → list_all p (repeated n xs) ≡ list_all p xs
list_all-repeated p zero xs l = absurd (omega arith)
list_all-repeated p (suc zero) xs l = ap (list_all p) (append-nil xs)
list_all-repeated p (suc (suc n)) xs l =
    let more : list_all p (repeated (suc n) xs) ≡ list_all p xs = list_all-repeated p (suc n) xs (omega arith) in
    rw (list_all-append p xs (repeated (suc n) xs), more) (and_same (list_all p xs))
