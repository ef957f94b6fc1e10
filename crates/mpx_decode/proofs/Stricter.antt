-- What is read of a format that asks more is read of one that asks less.
use Rattle.std.proofs.Common.{◌≡◌, ℕ, zero, suc, Bool, true, cond, List, [], ◌∷◌, ◌++◌, Option, Some, None, Result, Ok, Err, IfOk, OnErr, refl, sym, ap, ◌∙◌}
use Rattle.std.specs.declared.cmp.Ordering.{Ordering}
use Rattle.std.specs.FinMap.{from_sorted}
use Rattle.join_core.specs.Joins.{Joining}
use Rattle.mpx_format.specs.declared.defects.Defect.{Defect}
use Rattle.mpx_format.specs.Format.{Format, ◌>>=◌, both, counted, many, many_read, not_canonical, only}
use Rattle.mpx_format.specs.Rising.{always, entry, keyed, last_of, may_come}
use Rattle.mpx_format.proofs.FormatLaws.{bind_ok, guard_ok, ok_is}
use Rattle.mpx_decode.specs.Raising.{JoinsFront, StandsInFront, StopsBetween, rows}
use Rattle.mpx_decode.proofs.Taken.{if_err, if_ok}

-- each value that f reads is read by g
abbrev pub Asks : {V : Type 0} → Format V → Format V → Type 0
Asks {V} f g = (bytes : List ℕ) (x : V × List ℕ) → f.read bytes ≡ Ok x → g.read bytes ≡ Ok x

module _ {V : Type 0} (f g : List V → Format V) (each : (before : List V) → Asks (f before) (g before)) where
  pub many_asked : (n : ℕ) (before : List V) (bytes : List ℕ) (x : List V × List ℕ) → many_read f n before bytes ≡ Ok x → many_read g n before bytes ≡ Ok x
  unfolding many_read
  many_asked zero before bytes x e = e
  many_asked (suc n) before bytes x e =
      let a = bind_ok ((f before).read bytes) (λ (v : V × List ℕ). many_read f n (before ++ v.0 ∷ []) v.1 >>= λ vs. Ok (v.0 ∷ vs.0, vs.1)) x e in
      let b = bind_ok (many_read f n (before ++ a.0.0 ∷ []) a.0.1) (λ (vs : List V × List ℕ). Ok (a.0.0 ∷ vs.0, vs.1)) x a.2 in
      rw (each before bytes a.0 a.1, many_asked n (before ++ a.0.0 ∷ []) a.0.1 b.0 b.1) b.2

  abbrev listed : (n : ℕ) → Result (List V × List ℕ) Defect → Result (List V × List ℕ) Defect
  listed n r = ◌>>=◌ {B = List V × List ℕ} (◌>>=◌ {B = (ℕ × List V) × List ℕ} r (λ b. Ok ((n, b.0), b.1))) (λ x. Ok (x.0.1, x.1))

  listed_same : (n : ℕ) (r : Result (List V × List ℕ) Defect) → listed n r ≡ r
  listed_same n (Ok x) = refl
  listed_same n (Err d) = refl

  pub counted_asked : (count : Format ℕ) → Asks (counted count f) (counted count g)
  counted_asked count bytes x e =
      let a = bind_ok ((both count (many f)).read bytes) (λ (y : (ℕ × List V) × List ℕ). Ok (y.0.1, y.1)) x e in
      let b = bind_ok (count.read bytes) (λ (m : ℕ × List ℕ). many_read f m.0 [] m.1 >>= λ vs. Ok ((m.0, vs.0), vs.1)) a.0 a.1 in
      let c = bind_ok (many_read f b.0.0 [] b.0.1) (λ (vs : List V × List ℕ). Ok ((b.0.0, vs.0), vs.1)) a.0 b.2 in
      let same : ((b.0.0, c.0.0), c.0.1) ≡ a.0 = ok_is ((b.0.0, c.0.0), c.0.1) a.0 c.2 in
      let whole : (a.0.0.1, a.0.1) ≡ x = ok_is (a.0.0.1, a.0.1) x a.2 in
      let is : c.0 ≡ x = ap (λ (y : (ℕ × List V) × List ℕ). (y.0.1, y.1)) same ∙ whole in
      let there : many_read g b.0.0 [] b.0.1 ≡ Ok x = many_asked b.0.0 [] b.0.1 c.0 c.1 ∙ ap Ok is in
      rw b.1 (listed_same b.0.0 (many_read g b.0.0 [] b.0.1) ∙ there)

module _ {K V : Type 0} (R : K → K → Ordering) (least : Option K) (key : Format K) (value : Format V) (says : V → Bool) where
  comes : (last : Option (K × V)) (k : K) → may_come R least last k ≡ true → may_come R None last k ≡ true
  comes (Some last) k e = e
  comes None k e = refl

  -- entries of any least key, whatever they say
  pub entry_asked : (before : List (K × V)) → Asks (entry R least key value says before) (entry R None key value always before)
  entry_asked before bytes x e =
      let keyed = only not_canonical (may_come R least (last_of before)) key in
      let a = bind_ok ((both keyed (λ k. value)).read bytes) (λ (y : (K × V) × List ℕ). cond (says y.0.1) (Ok y) (Err (not_canonical bytes))) x e in
      let says_so = guard_ok (says a.0.0.1) (not_canonical bytes) a.0 x a.2 in
      let b = bind_ok (keyed.read bytes) (λ (y : K × List ℕ). value.read y.1 >>= λ z. Ok ((y.0, z.0), z.1)) a.0 a.1 in
      let c = bind_ok (key.read bytes) (λ (y : K × List ℕ). cond (may_come R least (last_of before) y.0) (Ok y) (Err (not_canonical bytes))) b.0 b.1 in
      let may = guard_ok (may_come R least (last_of before) c.0.0) (not_canonical bytes) c.0 b.0 c.2 in
      let d = bind_ok (value.read b.0.1) (λ (z : V × List ℕ). Ok ((b.0.0, z.0), z.1)) a.0 b.2 in
      let is : key.read bytes ≡ Ok b.0 = c.1 ∙ ap Ok may.1 in
      let comes_so : may_come R None (last_of before) b.0.0 ≡ true = comes (last_of before) b.0.0 (ap (λ (y : K × List ℕ). may_come R least (last_of before) y.0) (sym may.1) ∙ may.0) in
      let whole : ((b.0.0, d.0.0), d.0.1) ≡ x = ok_is ((b.0.0, d.0.0), d.0.1) a.0 d.2 ∙ says_so.1 in
      rw (is, comes_so, d.1) (ap Ok whole)

  -- so many of them are rows
  pub rows_asked : (n : ℕ) (bytes : List ℕ) (x : List (K × V) × List ℕ) → many_read (entry R least key value says) n [] bytes ≡ Ok x → (rows R key value n).read bytes ≡ Ok (from_sorted x.0, x.1)
  rows_asked n bytes x e = rw (many_asked (entry R least key value says) (entry R None key value always) entry_asked n [] bytes x e) refl

module _ {K V : Type 0} (R : K → K → Ordering) (count : Format ℕ) (key : Format K) (value : Format V) (says : V → Bool) where
  -- a map whose values say something
  pub keyed_asked : Asks (keyed R count key value says) (keyed R count key value always)
  keyed_asked bytes x e =
      let a = bind_ok ((counted count (entry R None key value says)).read bytes) (λ (y : List (K × V) × List ℕ). Ok (from_sorted {R = R} y.0, y.1)) x e in
      rw (counted_asked (entry R None key value says) (entry R None key value always) (entry_asked R None key value says) count bytes a.0 a.1) a.2

-- JOINED AND LEFT

module _ {V : Type 0} (f g : Format V) (asks : Asks f g) (bytes : List ℕ) (s : StandsInFront f bytes) where
  pub stands_asked : StandsInFront g bytes
  stands_asked = (s.0, asks bytes s.0 s.1)

  read_again : (v : V) (rest : List ℕ) → g.read bytes ≡ Ok (v, rest) → f.read bytes ≡ Ok (v, rest)
  read_again v rest e = s.1 ∙ ap Ok (ok_is s.0 (v, rest) (sym (asks bytes s.0 s.1) ∙ e))

  module _ {T E : Type 0} (r : Result T E) (left : T → List ℕ) (old new : V) where
    pub joins_asked : (j : Joining V) → IfOk r (λ x. JoinsFront g j bytes (left x) old new) → IfOk r (λ x. JoinsFront f j bytes (left x) old new)
    joins_asked j h = if_ok r _ _ (λ x i. record { value = i.value; read = read_again i.value (left x) i.read; joined = i.joined }) h

    pub stops_asked : (between : V → V → V → Type 0) → OnErr r (StopsBetween g between bytes old new) → OnErr r (StopsBetween f between bytes old new)
    stops_asked between h = if_err r (λ i. record { value = i.value; rest = i.rest; read = read_again i.value i.rest i.read; left = i.left }) h
