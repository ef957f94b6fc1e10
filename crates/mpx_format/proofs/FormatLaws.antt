-- What holds of each format: what is read is spelled so, and what is spelled so is read, whatever follows.
use Rattle.std.proofs.Common.{◌≡◌, ℕ, zero, suc, ◌-◌, ◌^◌, ◌<◌, ◌≤◌, ℤ, pos, ◌≤ℤ◌, Bool, true, false, ◌&&◌, cond, ltb, eqb, List, [], ◌∷◌, ◌++◌, length, take, drop, Option, Some, None, Result, Ok, Err, refl, sym, ap, subst, ◌∙◌, append_assoc, arith}
use Rattle.std.specs.Int.{Width, w16, w32, w64, byte_len, cast_unsigned, from_be_bytes, to_be_bytes}
use Rattle.std.proofs.lemmas.Bool.{ltb-false, le-ltb, lt-ltb, ltb-true, eqb-true, eq-eqb, and_parts, and_from}
use Rattle.std.proofs.lemmas.Int.{ints}
use Rattle.std.proofs.lemmas.List.{take_at, drop_at, take-append-drop, length-append, length-take}
use Rattle.mpx_num.specs.declared.types.Ty.{Ty}
use Rattle.mpx_num.specs.declared.types.Ty.TheVariants.{U16, U32, U64}
use Rattle.mpx_num.specs.Spelling.{bytes_of, number_in, number_len, width_of}
use Rattle.mpx_num.specs.Types.{depth, greatest, width}
use Rattle.mpx_num.proofs.Spellings.{IsBytes, IsBytes-take, IsBytes-drop, spells}
use Rattle.mpx_format.specs.declared.defects.Defect.{Defect}
use Rattle.mpx_format.specs.declared.defects.Defect.TheVariants.{ShortFrame}
use Rattle.mpx_format.specs.Format.{Format, ◌>>=◌, byte, number, sized, nothing, mark, both, only, through, spelled_by, fits_by, many, many_read, many_spelled, many_fit, counted, tagged, out_of_limits}

pub IsBytes-after : (front bytes : List ℕ) → IsBytes (front ++ bytes) → IsBytes bytes
IsBytes-after front bytes h = subst IsBytes (drop_at front bytes (length front) refl) (IsBytes-drop (length front) (front ++ bytes) h)

pub record Exactly {V : Type 0} (f : Format V) : Type 0 where
  pub found : (bytes : List ℕ) (x : V × List ℕ) → IsBytes bytes → f.read bytes ≡ Ok x → (f.fits x.0 ≡ true) × (bytes ≡ f.spelling x.0 ++ x.1)
  pub again : (v : V) (rest : List ℕ) → f.fits v ≡ true → f.read (f.spelling v ++ rest) ≡ Ok (v, rest)

-- STEPS

pub bind_ok : {A B : Type 0} (r : Result A Defect) (f : A → Result B Defect) (y : B) → (r >>= f) ≡ Ok y → (x : A) × (r ≡ Ok x) × (f x ≡ Ok y)
bind_ok (Ok x) f y e = (x, refl, e)
bind_ok (Err d) f y e = absurd cc

pub guard_ok : {A : Type 0} (b : Bool) (d : Defect) (x y : A) → cond b (Ok x) (Err d) ≡ Ok y → (b ≡ true) × (x ≡ y)
guard_ok true d x y e = (refl, cc)
guard_ok false d x y e = absurd cc

short_ok : {A : Type 0} (b : Bool) (d : Defect) (x y : A) → cond b (Err d) (Ok x) ≡ Ok y → (b ≡ false) × (x ≡ y)
short_ok true d x y e = absurd cc
short_ok false d x y e = (refl, cc)

abbrev done : {A : Type 0} → A → Result A Defect
done x = Ok x

pub ok_is : {A : Type 0} (x y : A) → done x ≡ done y → x ≡ y
ok_is x y e = cc

abbrev some : {A : Type 0} → A → Option A
some x = Some x

pub some_is : {A : Type 0} (x y : A) → some x ≡ some y → x ≡ y
some_is x y e = cc

-- NUMBERS

byte_found : (bytes : List ℕ) (x : ℕ × List ℕ) → IsBytes bytes → byte.read bytes ≡ Ok x → (byte.fits x.0 ≡ true) × (bytes ≡ byte.spelling x.0 ++ x.1)
byte_found [] x h e = absurd cc
byte_found (b ∷ bytes) x h e =
    subst (λ (y : ℕ × List ℕ). (byte.fits y.0 ≡ true) × (b ∷ bytes ≡ y.0 ∷ y.1)) (ok_is (b, bytes) x e) (lt-ltb b 256 (h 0), refl)

pub byte_laws : Exactly byte
byte_laws = record { found = byte_found; again = λ v rest fits. refl }

-- each value is spelled in so many bytes, and so many bytes spell one that passes the test
pub record IsSized {V : Type 0} (len : ℕ) (spelling : V → List ℕ) (value : List ℕ → V) (test : V → Bool) : Type 0 where
  pub long : (v : V) → length (spelling v) ≡ len
  pub back : (bytes : List ℕ) → length bytes ≡ len → IsBytes bytes → spelling (value bytes) ≡ bytes
  pub again : (v : V) → test v ≡ true → value (spelling v) ≡ v
  pub passed : (bytes : List ℕ) → IsBytes bytes → test (value bytes) ≡ true

pub sized_laws : {V : Type 0} {len : ℕ} {spelling : V → List ℕ} {value : List ℕ → V} {test : V → Bool} → IsSized len spelling value test → Exactly (sized len spelling value test)
sized_laws {V = V} {len = len} {spelling = spelling} {value = value} {test = test} is = record {
  found = λ bytes x h e.
      let front = take len bytes in
      let g = short_ok (ltb (length bytes) len) ShortFrame (value front, drop len bytes) x e in
      let long : len ≤ length bytes = ltb-false _ _ g.0 in
      let whole : spelling (value front) ≡ front = is.back front (omega (arith, length-take len bytes)) (IsBytes-take len bytes h) in
      subst (λ (y : V × List ℕ). (test y.0 ≡ true) × (bytes ≡ spelling y.0 ++ y.1)) g.1
      (is.passed front (IsBytes-take len bytes h), sym (ap (λ (t : List ℕ). t ++ drop len bytes) whole ∙ take-append-drop len bytes));
  again = λ v rest fits.
      let long = is.long v in
      let enough : ltb (length (spelling v ++ rest)) len ≡ false = le-ltb _ _ (omega (arith, length-append (spelling v) rest)) in
      rw (enough, take_at (spelling v) rest len long, drop_at (spelling v) rest len long, is.again v fits) refl;
}

abbrev pub IsWide : Width → Type 0
IsWide w = IsSized (byte_len w) (to_be_bytes w) (from_be_bytes w) (λ n. ltb n (256 ^ byte_len w))

-- unsigned numbers are those of an unsigned type
unsigned : (ty : Ty) → depth ty ≡ 0 → 256 ^ number_len ty ≡ 2 ^ width ty → 0 < 2 ^ width ty → IsWide (width_of ty)
unsigned ty low broad some = record {
  long = λ n. (spells ty).len (pos n);
  back = λ bytes len h. ap (bytes_of ty) (sym (reads bytes)) ∙ (spells ty).back bytes len h;
  again = λ n lt.
      let below : n < 2 ^ width ty = subst (λ (k : ℕ). n < k) broad (ltb-true _ _ lt) in
      ap (cast_unsigned (width_of ty)) (sym (reads (bytes_of ty (pos n))) ∙ (spells ty).again (pos n) (record { low = rw low (omega (arith, ints)); high = rw low (omega (arith, ints, below)) }));
  passed = λ bytes h.
      let high : pos (from_be_bytes (width_of ty) bytes) ≤ℤ pos (2 ^ width ty - 1 - depth ty) = subst (λ (z : ℤ). z ≤ℤ greatest ty) (reads bytes) ((spells ty).within bytes h).high in
      lt-ltb _ _ (rw broad (omega (arith, ints, high, some)));
}
  where
    reads : (bytes : List ℕ) → number_in ty bytes ≡ pos (from_be_bytes (width_of ty) bytes)
    reads bytes = rw low refl

pub wide16 : IsWide w16
wide16 = unsigned U16 refl refl (omega arith)

pub wide32 : IsWide w32
wide32 = unsigned U32 refl refl (omega arith)

pub wide64 : IsWide w64
wide64 = unsigned U64 refl refl (omega arith)

pub number_laws : (w : Width) → IsWide w → Exactly (number w)
number_laws w is = sized_laws is

-- OUT OF OTHERS

pub nothing_laws : Exactly nothing
nothing_laws = record { found = λ bytes x h e. (refl, ap (λ (y : Unit {0} × List ℕ). y.1) (ok_is (tt, bytes) x e)); again = λ v rest fits. refl }

module _ {V : Type 0} {f : Format V} (wrong : Defect) (c : ℕ) (p : Exactly f) where
  mark_found : (bytes : List ℕ) (x : V × List ℕ) → IsBytes bytes → (mark wrong c f).read bytes ≡ Ok x → (f.fits x.0 ≡ true) × (bytes ≡ c ∷ f.spelling x.0 ++ x.1)
  mark_found [] x h e = absurd cc
  mark_found (b ∷ bytes) x h e = elim (eqb b c) as (λ t. eqb b c ≡ t → (cond t (Ok bytes) (Err wrong) >>= f.read) ≡ Ok x → (f.fits x.0 ≡ true) × (b ∷ bytes ≡ c ∷ f.spelling x.0 ++ x.1)) [
    | true ↦ λ is e. let r = p.found bytes x (IsBytes-drop 1 (b ∷ bytes) h) e in (r.0, λ i. eqb-true b c is i ∷ r.1 i)
    | false ↦ λ is e. absurd cc
  ] refl e

  pub mark_laws : Exactly (mark wrong c f)
  mark_laws = record { found = mark_found; again = λ v rest fits. rw (eq-eqb c c refl) (p.again v rest fits) }

joined : (bytes middle rest one two : List ℕ) → bytes ≡ one ++ middle → middle ≡ two ++ rest → bytes ≡ (one ++ two) ++ rest
joined bytes middle rest one two e f = e ∙ ap (λ (t : List ℕ). one ++ t) f ∙ sym (append_assoc one two rest)

pub both_laws : {A B : Type 0} {f : Format A} {g : A → Format B} → Exactly f → ((a : A) → f.fits a ≡ true → Exactly (g a)) → Exactly (both f g)
both_laws {f = f} {g = g} p q = record {
  found = λ bytes x h e.
      let a = bind_ok (f.read bytes) (λ a. (g a.0).read a.1 >>= λ b. Ok ((a.0, b.0), b.1)) x e in
      let first = p.found bytes a.0 h a.1 in
      let b = bind_ok ((g a.0.0).read a.0.1) (λ b. Ok ((a.0.0, b.0), b.1)) x a.2 in
      let second = (q a.0.0 first.0).found a.0.1 b.0 (IsBytes-after (f.spelling a.0.0) a.0.1 (subst IsBytes first.1 h)) b.1 in
      subst (λ y. ((f.fits y.0.0 && (g y.0.0).fits y.0.1) ≡ true) × (bytes ≡ (f.spelling y.0.0 ++ (g y.0.0).spelling y.0.1) ++ y.1)) (ok_is ((a.0.0, b.0.0), b.0.1) x b.2)
      (and_from _ _ first.0 second.0, joined _ _ _ (f.spelling a.0.0) ((g a.0.0).spelling b.0.0) first.1 second.1);
  again = λ v rest fits.
      let one = (and_parts (f.fits v.0) ((g v.0).fits v.1) fits).0 in
      let two = (and_parts (f.fits v.0) ((g v.0).fits v.1) fits).1 in
      rw (append_assoc (f.spelling v.0) ((g v.0).spelling v.1) rest, p.again v.0 ((g v.0).spelling v.1 ++ rest) one, (q v.0 one).again v.1 rest two) refl;
}

pub only_laws : {V : Type 0} {f : Format V} (wrong : List ℕ → Defect) (test : V → Bool) → Exactly f → Exactly (only wrong test f)
only_laws {f = f} wrong test p = record {
  found = λ bytes x h e.
      let a = bind_ok (f.read bytes) (λ a. cond (test a.0) (Ok a) (Err (wrong bytes))) x e in
      let g = guard_ok (test a.0.0) (wrong bytes) a.0 x a.2 in
      let r = p.found bytes a.0 h a.1 in
      subst (λ y. ((f.fits y.0 && test y.0) ≡ true) × (bytes ≡ f.spelling y.0 ++ y.1)) g.1 (and_from _ _ r.0 g.0, r.1);
  again = λ v rest fits. rw (p.again v rest (and_parts (f.fits v) (test v) fits).0, (and_parts (f.fits v) (test v) fits).1) refl;
}

module _ {A B : Type 0} {f : Format A} (to : A → B) (from : B → Option A) (p : Exactly f)
    (back : (a : A) → f.fits a ≡ true → from (to a) ≡ Some a) (forth : (b : B) (a : A) → from b ≡ Some a → to a ≡ b) where
  through_again : (v : B) (o : Option A) → from v ≡ o → (rest : List ℕ) → fits_by f o ≡ true → (through to from f).read (spelled_by f o ++ rest) ≡ Ok (v, rest)
  through_again v None is rest fits = absurd cc
  through_again v (Some a) is rest fits = rw (p.again a rest fits) (ap (λ (w : B). Ok (w, rest)) (forth v a is))

  pub through_laws : Exactly (through to from f)
  through_laws = record {
    found = λ bytes x h e.
        let a = bind_ok (f.read bytes) (λ x. Ok (to x.0, x.1)) x e in
        let r = p.found bytes a.0 h a.1 in
        let is = back a.0.0 r.0 in
        subst (λ (y : B × List ℕ). (fits_by f (from y.0) ≡ true) × (bytes ≡ spelled_by f (from y.0) ++ y.1)) (ok_is (to a.0.0, a.0.1) x a.2)
        (ap (fits_by f) is ∙ r.0, r.1 ∙ ap (λ (o : Option A). spelled_by f o ++ a.0.1) (sym is));
    again = λ v rest fits. through_again v (from v) refl rest fits;
  }

module _ {V : Type 0} {f : List V → Format V} (p : (before : List V) → Exactly (f before)) where
  many_found : (n : ℕ) (before : List V) (bytes : List ℕ) (x : List V × List ℕ) → IsBytes bytes → many_read f n before bytes ≡ Ok x → (many_fit f n before x.0 ≡ true) × (bytes ≡ many_spelled f before x.0 ++ x.1)
  unfolding many_read
  many_found zero before bytes x h e =
      subst (λ (y : List V × List ℕ). (many_fit f zero before y.0 ≡ true) × (bytes ≡ many_spelled f before y.0 ++ y.1)) (ok_is ([], bytes) x e) (refl, refl)
  many_found (suc n) before bytes x h e =
      let a = bind_ok ((f before).read bytes) (λ v. many_read f n (before ++ v.0 ∷ []) v.1 >>= λ vs. Ok (v.0 ∷ vs.0, vs.1)) x e in
      let first = (p before).found bytes a.0 h a.1 in
      let b = bind_ok (many_read f n (before ++ a.0.0 ∷ []) a.0.1) (λ vs. Ok (a.0.0 ∷ vs.0, vs.1)) x a.2 in
      let second = many_found n (before ++ a.0.0 ∷ []) a.0.1 b.0 (IsBytes-after ((f before).spelling a.0.0) a.0.1 (subst IsBytes first.1 h)) b.1 in
      subst (λ (y : List V × List ℕ). (many_fit f (suc n) before y.0 ≡ true) × (bytes ≡ many_spelled f before y.0 ++ y.1)) (ok_is (a.0.0 ∷ b.0.0, b.0.1) x b.2)
      (and_from _ _ first.0 second.0, joined _ _ _ ((f before).spelling a.0.0) (many_spelled f (before ++ a.0.0 ∷ []) b.0.0) first.1 second.1)

  many_again : (n : ℕ) (before vs : List V) (rest : List ℕ) → many_fit f n before vs ≡ true → many_read f n before (many_spelled f before vs ++ rest) ≡ Ok (vs, rest)
  unfolding many_read
  many_again zero before [] rest fits = refl
  many_again zero before (v ∷ vs) rest fits = absurd cc
  many_again (suc n) before [] rest fits = absurd cc
  many_again (suc n) before (v ∷ vs) rest fits =
      let one = (and_parts ((f before).fits v) (many_fit f n (before ++ v ∷ []) vs) fits).0 in
      let two = (and_parts ((f before).fits v) (many_fit f n (before ++ v ∷ []) vs) fits).1 in
      rw (append_assoc ((f before).spelling v) (many_spelled f (before ++ v ∷ []) vs) rest, (p before).again v (many_spelled f (before ++ v ∷ []) vs ++ rest) one, many_again n (before ++ v ∷ []) vs rest two) refl

  pub many_laws : (n : ℕ) → Exactly (many f n)
  many_laws n = record { found = many_found n []; again = many_again n [] }

pub many_fit-length : {V : Type 0} (f : List V → Format V) (n : ℕ) (before vs : List V) → many_fit f n before vs ≡ true → length vs ≡ n
many_fit-length f zero before [] fits = refl
many_fit-length f zero before (v ∷ vs) fits = absurd cc
many_fit-length f (suc n) before [] fits = absurd cc
many_fit-length f (suc n) before (v ∷ vs) fits = ap suc (many_fit-length f n (before ++ v ∷ []) vs (and_parts ((f before).fits v) (many_fit f n (before ++ v ∷ []) vs) fits).1)

pub counted_laws : {V : Type 0} {count : Format ℕ} {f : List V → Format V} → Exactly count → ((before : List V) → Exactly (f before)) → Exactly (counted count f)
counted_laws {V = V} {count = count} {f = f} p q =
    through_laws (λ (x : ℕ × List V). x.1) (λ vs. Some (length vs, vs)) (both_laws p (λ n fits. many_laws q n))
    (λ a fits. let len = many_fit-length f a.0 [] a.1 (and_parts (count.fits a.0) (many_fit f a.0 [] a.1) fits).1 in ap (λ (n : ℕ). Some (n, a.1)) len)
    (λ b a is. sym (ap (λ (x : ℕ × List V). x.1) (some_is (length b, b) a is)))

pub tagged_laws : {V : Type 0} (known : ℕ → Bool) (tag : V → ℕ) {form : ℕ → Format V} → ((t : ℕ) → known t ≡ true → Exactly (form t)) → ((t : ℕ) (v : V) → known t ≡ true → (form t).fits v ≡ true → tag v ≡ t) → Exactly (tagged known tag form)
tagged_laws {V = V} known tag {form = form} p tags =
    through_laws (λ (x : ℕ × V). x.1) (λ v. Some (tag v, v)) (both_laws (only_laws out_of_limits known byte_laws) (λ t fits. p t (and_parts (byte.fits t) (known t) fits).1))
    (λ a fits. ap (λ (t : ℕ). Some (t, a.1)) (tags a.0 a.1 (and_parts (byte.fits a.0) (known a.0) (and_parts (byte.fits a.0 && known a.0) ((form a.0).fits a.1) fits).0).1 (and_parts (byte.fits a.0 && known a.0) ((form a.0).fits a.1) fits).1))
    (λ b a is. sym (ap (λ (x : ℕ × V). x.1) (some_is (tag b, b) a is)))
