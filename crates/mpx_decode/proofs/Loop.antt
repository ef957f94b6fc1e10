-- Reading values one after the other, as a loop does.
use Rattle.std.proofs.Common.{◌≡◌, ℕ, suc, ◌-◌, ◌+◌, ◌≤◌, ◌<◌, List, [], ◌∷◌, ◌++◌, Result, Ok, Err, refl, sym, ap, ◌∙◌, append_assoc, arith}
use Rattle.std.proofs.lemmas.List.{append-nil}
use Rattle.mpx_format.specs.declared.defects.Defect.{Defect}
use Rattle.mpx_format.specs.declared.defects.ReadError.{ReadError}
use Rattle.mpx_format.specs.declared.defects.ReadError.TheVariants as errors
use Rattle.mpx_format.specs.Format.{Format, ◌>>=◌, Fails, many_read}

-- what was read before, and what is still read
abbrev pub with_front : {V : Type 0} → List V → Result (List V × List ℕ) Defect → Result (List V × List ℕ) Defect
with_front front read = read >>= λ x. Ok (front ++ x.0, x.1)

-- a loop that has read these of so many values, and has these bytes left, will read in all what a reader of all of them reads
abbrev pub ReadSoFar : {V : Type 0} → (List V → Format V) → (count i : ℕ) → (front : List V) → (left bytes : List ℕ) → Type 0
ReadSoFar f count i front left bytes = with_front front (many_read f (count - i) front left) ≡ many_read f count [] bytes

same : {V : Type 0} (read : Result (List V × List ℕ) Defect) → with_front [] read ≡ read
same (Ok x) = refl
same (Err e) = refl

pub begins : {V : Type 0} (f : List V → Format V) (count : ℕ) (bytes : List ℕ) → ReadSoFar f count 0 [] bytes bytes
begins f count bytes = let k : count - 0 ≡ count = omega arith in ap (λ (n : ℕ). with_front [] (many_read f n [] bytes)) k ∙ same (many_read f count [] bytes)

module _ {V : Type 0} (f : List V → Format V) (front : List V) (count i : ℕ) (left bytes : List ℕ) where
  regroup : (v : V) (read : Result (List V × List ℕ) Defect) → with_front front (read >>= λ x. Ok (v ∷ x.0, x.1)) ≡ with_front (front ++ v ∷ []) read
  regroup v (Ok x) = ap (λ (vs : List V). Ok (vs, x.1)) (simp append_assoc)
  regroup v (Err e) = refl

  pub goes_on : (v : V) (after : List ℕ) → i < count → (f front).read left ≡ Ok (v, after) → ReadSoFar f count i front left bytes → ReadSoFar f count (i + 1) (front ++ v ∷ []) after bytes
  unfolding many_read
  goes_on v after lt h so_far =
      let k : count - i ≡ suc (count - (i + 1)) = omega arith in
      let one : with_front front (many_read f (count - i) front left) ≡ with_front (front ++ v ∷ []) (many_read f (count - (i + 1)) (front ++ v ∷ []) after) = rw (k, h) (regroup v (many_read f (count - (i + 1)) (front ++ v ∷ []) after)) in
      sym one ∙ so_far

  pub ends : (e : ReadError) → i < count → Fails e ((f front).read left) → ReadSoFar f count i front left bytes → Fails e (many_read f count [] bytes)
  unfolding many_read
  ends errors.OutOfMemory lt h so_far = tt
  ends (errors.Defect d) lt h so_far =
      let k : count - i ≡ suc (count - (i + 1)) = omega arith in
      let one : with_front front (many_read f (count - i) front left) ≡ Err d = rw (k, h) refl in
      sym so_far ∙ one

  pub is_done : count ≤ i → ReadSoFar f count i front left bytes → many_read f count [] bytes ≡ Ok (front, left)
  unfolding many_read
  is_done le so_far =
      let k : count - i ≡ 0 = omega arith in
      let one : with_front front (many_read f (count - i) front left) ≡ Ok (front, left) = rw k (ap (λ (vs : List V). Ok (vs, left)) (append-nil front)) in
      sym so_far ∙ one

-- a step that fails is where the whole fails
pub fails_on : {A B : Type 0} (e : ReadError) (read : Result A Defect) (f : A → Result B Defect) → Fails e read → Fails e (read >>= f)
fails_on errors.OutOfMemory read f h = tt
fails_on (errors.Defect d) read f h = ap (λ r. r >>= f) h
