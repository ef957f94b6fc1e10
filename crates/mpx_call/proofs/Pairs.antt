-- The numbers of pairs, one more after the others.
use Rattle.std.proofs.Common.{◌≡◌, ℕ, ◌+◌, ◌*◌, ◌<◌, ◌++◌, ◌∷◌, [], List, length, take, get_or, refl, ap, sym, ◌∙◌, arith, append_assoc}
use Rattle.std.proofs.lemmas.List.{take_more}
use Rattle.mpx_call.specs.Pairs.{both_numbers}

pub both_push : {X : Type 0} (ps : List (X × X)) (p : X × X) → both_numbers (ps ++ p ∷ []) ≡ both_numbers ps ++ p.0 ∷ p.1 ∷ []
both_push [] p = refl
both_push (q ∷ ps) p = ap (λ l. q.0 ∷ q.1 ∷ l) (both_push ps p)

-- two numbers more
pub take_two : {X : Type 0} (both : List X) (n : ℕ) (a b : X) → n + 1 < length both → a ≡ get_or both n a → b ≡ get_or both (n + 1) b → take (n + 1 + 1) both ≡ take n both ++ a ∷ b ∷ []
take_two both n a b l first second =
    take_more both (n + 1) b l ∙ ap (λ x. take (n + 1) both ++ x ∷ []) (sym second)
    ∙ ap (λ l. l ++ b ∷ []) (take_more both n a (omega arith) ∙ ap (λ x. take n both ++ x ∷ []) (sym first))
    ∙ append_assoc (take n both) (a ∷ []) (b ∷ [])

pub both_more : {X : Type 0} (both : List X) (pairs : List (X × X)) (i : ℕ) (a b : X) → 2 * i + 1 < length both → a ≡ get_or both (2 * i) a → b ≡ get_or both (2 * i + 1) b → both_numbers pairs ≡ take (2 * i) both → both_numbers (pairs ++ (a, b) ∷ []) ≡ take (2 * (i + 1)) both
both_more both pairs i a b l first second so_far =
    let twice : 2 * (i + 1) ≡ 2 * i + 1 + 1 = omega arith in
    both_push pairs (a, b) ∙ ap (λ l. l ++ a ∷ b ∷ []) so_far ∙ sym (take_two both (2 * i) a b l first second) ∙ sym (ap (λ n. take n both) twice)
