-- Turns that take from the front of an inbox.
use Rattle.std.specs.Prelude.{◌≡◌, ℕ, ◌+◌, List, drop}
use Rattle.std.proofs.Common.{◌∙◌, ap}
use Rattle.std.proofs.lemmas.List.{drop-drop}

pub take_more : {A : Type 0} → (m n : ℕ) (xs ys zs : List A) → ys ≡ drop m xs → zs ≡ drop n ys → zs ≡ drop (m + n) xs
take_more m n xs ys zs x y = y ∙ ap (drop n) x ∙ drop-drop n m xs
