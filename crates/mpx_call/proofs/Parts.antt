-- Lists of equal blocks, cut into parts and put together again.
use Rattle.std.proofs.Common.{◌≡◌, ℕ, suc, ◌+◌, ◌-◌, ◌<◌, ◌++◌, ◌∷◌, [], List, map, take, drop, ap, ap₂, sym, ◌∙◌, add-one, append_assoc, arith}
use Rattle.std.specs.List.{flat_map}
use Rattle.std.proofs.lemmas.List.{flat_map_more}
use Rattle.std.proofs.lemmas.List.Folds.{flat_map-map}
use Rattle.mpx_birth.specs.Births.{upto}
use Rattle.mpx_call.specs.Parts.{block_in, cut}

-- one block more is cut
pub cut_more : {T : Type 0} (blocks counter count first each : ℕ) (items rest block after part more : List T)
    → counter < blocks → block ≡ take count rest → after ≡ drop count rest → more ≡ part ++ take each (drop first block)
    → part ++ cut (blocks - counter) count first each rest ≡ cut blocks count first each items
    → more ++ cut (blocks - (counter + 1)) count first each after ≡ cut blocks count first each items
cut_more blocks counter count first each items rest block after part more l b a m so_far =
    let e : blocks - counter ≡ suc (blocks - (counter + 1)) = omega arith in
    ap (λ m. m ++ cut (blocks - (counter + 1)) count first each after) m
    ∙ append_assoc part (take each (drop first block)) (cut (blocks - (counter + 1)) count first each after)
    ∙ ap₂ (λ b a. part ++ (take each (drop first b) ++ cut (blocks - (counter + 1)) count first each a)) b a
    ∙ ap (λ n. part ++ cut n count first each rest) (sym e) ∙ so_far

-- one number more
pub upto_more : {A : Type 0} (f : ℕ → List A) (n : ℕ) → flat_map f (upto n) ++ f n ≡ flat_map f (upto (n + 1))
upto_more f n = flat_map_more f [] (upto n) n ∙ ap (λ m. flat_map f (upto m)) (sym (add-one n))

-- one block more is put
pub put_more : {T P : Type 0} (items : P → List T) (blocks number : ℕ) (parts : List P) (whole more : List T)
    → whole ≡ flat_map (λ n. flat_map (block_in blocks n) (map items parts)) (upto number) → more ≡ whole ++ flat_map (λ part. block_in blocks number (items part)) parts
    → more ≡ flat_map (λ n. flat_map (block_in blocks n) (map items parts)) (upto (number + 1))
put_more items blocks number parts whole more so_far m =
    m ∙ ap₂ (λ a b. a ++ b) so_far (sym (flat_map-map (block_in blocks number) items parts))
    ∙ upto_more (λ n. flat_map (block_in blocks n) (map items parts)) number
