-- Members that are read one after the other.
use Rattle.std.proofs.Common.{◌≡◌, ℕ, zero, suc, Bool, true, false, not, cond, List, [], ◌∷◌, ◌++◌, Ok, Err, refl, sym, ap, subst, ◌∙◌, append_assoc}
use Rattle.std.proofs.lemmas.List.{append-nil}
use Rattle.mpx_group.specs.Group.{has, has_twice}
use Rattle.mpx_format.specs.Format.{Format, ◌>>=◌, many_read, out_of_limits}
use Rattle.mpx_format.specs.Fields.{process, member}
use Rattle.mpx_format.proofs.FormatLaws.{ok_is, bind_ok, guard_ok}
use Rattle.mpx_format.proofs.Rows.{distinct_push}

module _ {V : Type 0} (Holds : List V → Type 0) (f : List V → Format V)
    (each : (before : List V) (v : V) (bytes rest : List ℕ) → (f before).read bytes ≡ Ok (v, rest) → Holds before → Holds (before ++ v ∷ [])) where
  -- what each value keeps up holds of all that are read
  kept_up : (n : ℕ) (before : List V) (bytes : List ℕ) (vs : List V) (rest : List ℕ) → Holds before → many_read f n before bytes ≡ Ok (vs, rest) → Holds (before ++ vs)
  unfolding many_read
  kept_up zero before bytes vs rest h e =
      let is : [] ≡ vs = ap (λ (y : List V × List ℕ). y.0) (ok_is ([], bytes) (vs, rest) e) in
      subst (λ ys. Holds (before ++ ys)) is (subst Holds (sym (append-nil before)) h)
  kept_up (suc n) before bytes vs rest h e =
      let one = bind_ok ((f before).read bytes) (λ v. many_read f n (before ++ v.0 ∷ []) v.1 >>= λ xs. Ok (v.0 ∷ xs.0, xs.1)) (vs, rest) e in
      let x = one.0 in
      let more = bind_ok (many_read f n (before ++ x.0 ∷ []) x.1) (λ xs. Ok (x.0 ∷ xs.0, xs.1)) (vs, rest) one.2 in
      let is : x.0 ∷ more.0.0 ≡ vs = ap (λ (y : List V × List ℕ). y.0) (ok_is (x.0 ∷ more.0.0, more.0.1) (vs, rest) more.2) in
      subst Holds (append_assoc before (x.0 ∷ []) more.0.0 ∙ ap (λ ys. before ++ ys) is)
      (kept_up n (before ++ x.0 ∷ []) x.1 more.0.0 more.0.1 (each before x.0 bytes x.1 one.1 h) more.1)

not_has : (b : Bool) → not b ≡ true → b ≡ false
not_has true e = absurd cc
not_has false e = refl

one_more : (before : List ℕ) (v : ℕ) (bytes rest : List ℕ) → (member before).read bytes ≡ Ok (v, rest) → has_twice before ≡ false → has_twice (before ++ v ∷ []) ≡ false
unfolding member
one_more before v bytes rest e h =
    let one = bind_ok (process.read bytes) (λ x. cond (not (has before x.0)) (Ok x) (Err (out_of_limits bytes))) (v, rest) e in
    let passed = guard_ok (not (has before one.0.0)) (out_of_limits bytes) one.0 (v, rest) one.2 in
    distinct_push before v h (subst (λ (y : ℕ × List ℕ). has before y.0 ≡ false) passed.1 (not_has _ passed.0))

-- none of the members stands there twice
pub distinct_members : (n : ℕ) (bytes vs rest : List ℕ) → many_read member n [] bytes ≡ Ok (vs, rest) → has_twice vs ≡ false
distinct_members n bytes vs rest e = kept_up (λ ps. has_twice ps ≡ false) member one_more n [] bytes vs rest refl e
