-- What holds of two shares of a list, one behind the other, holds of the list.
use Rattle.std.proofs.Common.{◌≡◌, ℕ, ◌+◌, ◌-◌, ◌<◌, List, ◌++◌, length, get_or, refl, sym, ap, subst, ◌∙◌, arith}
use Rattle.std.proofs.lemmas.Bool.{cases_lt}
use Rattle.std.proofs.lemmas.List.{get_or_append_left, get_or-append_right}
use mathlib.Core.Logic.{⊎_elim}

-- the same at another number, for elements that are the same
pub moved : {X : Type 0} (R : ℕ → X → X → Type 0) {i j : ℕ} {x x' y y' : X} → i ≡ j → x ≡ x' → y ≡ y' → R i x y → R j x' y'
moved R {i} {j} {x} {x'} {y} {y'} a b c r = subst (λ k. R k x' y') a (subst (λ u. R i u y') b (subst (R i x) c r))

-- the second share's elements, as the list has them
pub behind : {X : Type 0} (all xs ys : List X) (n k : ℕ) (d : X) → all ≡ xs ++ ys → length xs ≡ n → get_or all (n + k) d ≡ get_or ys k d
behind all xs ys n k d e l =
    ap (λ zs. get_or zs (n + k) d) e ∙ get_or-append_right xs ys n (n + k) d l (omega arith) ∙ ap (λ i. get_or ys i d) (omega arith)

-- changes of each place of two shares are those of the list
pub both_shares : {X : Type 0} (R : ℕ → X → X → Type 0) (first n : ℕ) (all xs ys xs' ys' : List X) → all ≡ xs ++ ys → length xs ≡ n → length xs' ≡ length xs
    → ((k : ℕ) (d : X) → k < length xs → R (first + k) (get_or xs k d) (get_or xs' k d))
    → ((k : ℕ) (d : X) → k < length ys → R (first + n + k) (get_or ys k d) (get_or ys' k d))
    → (k : ℕ) (d : X) → k < n + length ys → R (first + k) (get_or all k d) (get_or (xs' ++ ys') k d)
both_shares R first n all xs ys xs' ys' e l l' a b k d u =
    ⊎_elim
    (λ p. moved R refl (sym (ap (λ zs. get_or zs k d) e ∙ get_or_append_left xs ys d k (omega (arith, l)))) (sym (get_or_append_left xs' ys' d k (omega (arith, l, l')))) (a k d (omega (arith, l))))
    (λ p. let m = k - n in
    moved R (omega arith) (sym (ap (λ zs. get_or zs k d) e ∙ get_or-append_right xs ys n k d l p)) (sym (get_or-append_right xs' ys' n k d (l' ∙ l) p)) (b m d (omega arith)))
    (cases_lt k n)
