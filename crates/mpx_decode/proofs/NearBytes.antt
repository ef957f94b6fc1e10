-- What is read of the bytes that are near is read of all, whatever lies beyond.
use Rattle.std.proofs.Common.{Bool, true, false, ◌≡◌, ◌≤◌, ℕ, zero, suc, List, [], ◌++◌, length, Option, Some, None, Result, Ok, Err, IfOk, IfSome, refl, sym, ap, ◌∙◌, subst, append_assoc, arith}
use Rattle.std.proofs.lemmas.List.{append-nil, nil_from_length}
use Rattle.std.specs.declared.cmp.Ordering.{Ordering}
use Rattle.std.specs.Cmp.{IsTotalOrder}
use Rattle.std.specs.FinMap.{entries, entries-from_sorted, entries_sorted, from_sorted, same_entries_map}
use Rattle.join_core.specs.Joins.{Joining}
use Rattle.join_nest.specs.Lift.{LiftView, dead, live}
use Rattle.mpx_format.specs.declared.versions.Version.{Version}
use Rattle.mpx_format.specs.Contexts.{context, lift_form, of_live}
use Rattle.mpx_format.specs.Posts.{counts_if}
use Rattle.mpx_num.proofs.Spellings.{IsBytes}
use Rattle.mpx_format.specs.declared.defects.ReadError.{ReadError}
use Rattle.mpx_format.specs.Format.{Fails, Format, Gives, not_canonical}
use Rattle.mpx_format.specs.Rising.{always}
use Rattle.mpx_format.proofs.ContextLaws.{context_laws}
use Rattle.mpx_format.proofs.FormatLaws.{Exactly, IsBytes-after, both_laws, many_laws, only_laws, some_is, through_laws}
use Rattle.mpx_format.proofs.PostLaws.{counts_laws, no_list_laws}
use Rattle.mpx_format.proofs.Rows.{rising_sorted}
use Rattle.mpx_decode.specs.Near.{GivesNear}
use Rattle.mpx_decode.specs.Raising.{RaisesRows, rows}

module _ {V : Type 0} {f : Format V} (p : Exactly f) (near left : List ℕ) (v : V) (are : IsBytes near) (read : f.read near ≡ Ok (v, left)) where
  stands : near ≡ f.spelling v ++ left
  stands = (p.found near (v, left) are read).1

  pub read_on : (more : List ℕ) → f.read (near ++ more) ≡ Ok (v, left ++ more)
  read_on more = ap (λ b. f.read (b ++ more)) stands ∙ ap f.read (append_assoc (f.spelling v) left more) ∙ p.again v (left ++ more) (p.found near (v, left) are read).0

  -- what is left are bytes
  pub left_bytes : IsBytes left
  left_bytes = IsBytes-after (f.spelling v) left (subst IsBytes stands are)

module _ {T V : Type 0} {f : Format V} (p : Exactly f) (near : List ℕ) (are : IsBytes near) where
  pub some_on : (r : Option T) (left : T → List ℕ) (v : V) → IfSome r (λ x. f.read near ≡ Ok (v, left x)) → IfSome r (λ x. (more : List ℕ) → f.read (near ++ more) ≡ Ok (v, left x ++ more))
  some_on None left v h = tt
  some_on (Some x) left v h = read_on p near (left x) v are h

  pub gives_on : (r : Result T ReadError) (view : T → V × List ℕ) → Gives view r (f.read near) → IfOk r (λ x. (more : List ℕ) → f.read (near ++ more) ≡ Ok ((view x).0, (view x).1 ++ more))
  gives_on (Ok x) view h = read_on p near (view x).1 (view x).0 are h
  gives_on (Err e) view h = tt

  pub gives_then : (r : Result T ReadError) (value : T → V) (rest : T → List ℕ) → Gives (λ x. (value x, rest x)) r (f.read near) → (more : List ℕ) → IfOk r (λ x. f.read (near ++ more) ≡ Ok (value x, rest x ++ more))
  gives_then (Ok x) value rest h more = read_on p near (rest x) (value x) are h more
  gives_then (Err e) value rest h more = tt

-- NOTHING BEYOND

pub nothing_left : (old new : List ℕ) → length new ≤ length old → old ≡ [] → new ≡ []
nothing_left old new le none = nil_from_length new (omega (arith, le, ap length none))

module _ {V : Type 0} (f : Format V) (near beyond : List ℕ) (none : beyond ≡ []) where
  all : near ++ beyond ≡ near
  all = ap (λ (l : List ℕ). near ++ l) none ∙ append-nil near

  -- what fails on the bytes that are near fails on all
  pub fails_all : (e : ReadError) → Fails e (f.read near) → Fails e (f.read (near ++ beyond))
  fails_all e h = subst (λ (b : List ℕ). Fails e (f.read b)) (sym all) h

  pub fails_near : (e : ReadError) → Fails e (f.read (near ++ beyond)) → Fails e (f.read near)
  fails_near e h = subst (λ (b : List ℕ). Fails e (f.read b)) all h

  pub read_near : (after : List ℕ) → length after ≤ length beyond → (v : V) (rest : List ℕ) → f.read (near ++ beyond) ≡ Ok (v, rest ++ after) → f.read near ≡ Ok (v, rest)
  read_near after le v rest h = ap f.read (sym all) ∙ h ∙ ap (λ (l : List ℕ). Ok (v, l)) (ap (λ (l : List ℕ). rest ++ l) (nothing_left beyond after le none) ∙ append-nil rest)

  pub gives_near : {X : Type 0} (after : List ℕ) → length after ≤ length beyond → (r : Result X ReadError) (value : X → V) (rest : X → List ℕ) → GivesNear beyond (λ x. (value x, rest x ++ after)) r (f.read (near ++ beyond)) → Gives (λ x. (value x, rest x)) r (f.read near)
  gives_near after le (Ok x) value rest h = read_near after le (value x) (rest x) h
  gives_near after le (Err e) value rest h = fails_near e (h none)

-- ROWS

module _ {K V : Type 0} {R : K → K → Ordering} (o : IsTotalOrder R) {key : Format K} {value : Format V} (p : Exactly key) (q : Exactly value) (count : ℕ) where
  pub rows_laws : Exactly (rows R key value count)
  rows_laws = through_laws (from_sorted {R = R}) (λ m. Some (entries m)) (many_laws (λ before. only_laws not_canonical _ (both_laws (only_laws not_canonical _ p) (λ k fits. q))) count)
      (λ es fits. ap Some (entries-from_sorted R es (rising_sorted o key value always None _ es fits)))
      (λ m es e. ap (from_sorted {R = R}) (sym (some_is (entries m) es e)) ∙ same_entries_map (from_sorted (entries m)) m (entries-from_sorted R (entries m) (entries_sorted m)))

module _ {K J V : Type 0} (R : K → K → Ordering) (view : J → V) {f : Format (K × V)} (p : Exactly f) (j : Joining V) where
  -- rows that were joined in of the bytes that are near
  pub rows_on : (n : ℕ) (bytes rest more : List ℕ) (old new : List (K × J)) → IsBytes bytes → RaisesRows R view f j n bytes rest old new → RaisesRows R view f j n (bytes ++ more) (rest ++ more) old new
  rows_on zero bytes rest more old new are r = (ap (λ (l : List ℕ). l ++ more) r.0, r.1)
  rows_on (suc n) bytes rest more old new are r =
      let one = r.2 in
      let left = left_bytes p bytes r.0 (one.key, one.value) are one.read in
      (r.0 ++ more, r.1, record { key = one.key; value = one.value; read = read_on p bytes r.0 (one.key, one.value) are one.read more; joined = one.joined }, rows_on n r.0 rest more r.1 new left r.3)

-- POSTS

pub counts_if_laws : (had : Bool) → Exactly (counts_if had)
counts_if_laws true = counts_laws
counts_if_laws false = no_list_laws

live_forth : {A : Type 0} (v : LiftView A) (a : A) → of_live v ≡ Some a → live a ≡ v
live_forth (live b) a e = ap live (sym (some_is b a e))
live_forth dead a e = absurd cc

pub live_laws : (version : Version) → Exactly (lift_form (context version) 0)
live_laws version = through_laws live of_live (context_laws version) (λ a fits. refl) live_forth
