-- What is said, in two parts.
use Rattle.std.proofs.Common.{◌≡◌, refl, ap, sym, ◌∙◌, ℕ, zero, suc, List, [], ◌∷◌, ◌++◌, take, Option, Some, None, Result, Ok, Err, append_assoc, subst}
use Rattle.std.specs.Prelude.{OnErr, OnOk}
use Rattle.std.specs.Io.KnownBytes.{Appends}
use Rattle.mpx_run.specs.declared.streams.WriteFault.{WriteFault}
use Rattle.mpx_program.specs.Jobs.{Tells}

-- a beginning of the first part is one of both
begins : (n : ℕ) (xs ys : List ℕ) → (m : ℕ) × (take m (xs ++ ys) ≡ take n xs)
begins zero xs ys = (0, refl)
begins (suc n) [] ys = (0, refl)
begins (suc n) (x ∷ xs) ys = let b = begins n xs ys in (suc b.0, ap (λ l. x ∷ l) b.1)

-- and so is the first with a beginning of the second
goes_on : (n : ℕ) (xs ys : List ℕ) → (m : ℕ) × (take m (xs ++ ys) ≡ xs ++ take n ys)
goes_on n [] ys = (n, refl)
goes_on n (x ∷ xs) ys = let g = goes_on n xs ys in (suc g.0, ap (λ l. x ∷ l) g.1)

both : (a b c : Option (List ℕ)) (xs ys : List ℕ) → Appends a b xs → Appends b c ys → Appends a c (xs ++ ys)
both None b c xs ys f g = tt
both (Some us) None c xs ys f g = absurd f
both (Some us) (Some vs) None xs ys f g = absurd g
both (Some us) (Some vs) (Some ws) xs ys f g = g ∙ ap (λ l. l ++ ys) f ∙ append_assoc us xs ys

pub tells_first : (a c : Option (List ℕ)) (xs ys : List ℕ) (n : ℕ) → Appends a c (take n xs) → (m : ℕ) × Appends a c (take m (xs ++ ys))
tells_first a c xs ys n f = let b = begins n xs ys in (b.0, subst (Appends a c) (sym b.1) f)

-- what is told of the second part is told of both
pub tells_both : (a b c : Option (List ℕ)) (xs ys : List ℕ) (told : Result (Unit {0}) WriteFault) → Appends a b xs → OnOk told (Appends b c ys) → OnErr told ((n : ℕ) × Appends b c (take n ys)) → Tells a c told (xs ++ ys)
tells_both a b c xs ys (Ok done) f whole first = both a b c xs ys f whole
tells_both a b c xs ys (Err fault) f whole first = let g = goes_on first.0 xs ys in (g.0, subst (Appends a c) (sym g.1) (both a b c xs (take first.0 ys) f first.1))
