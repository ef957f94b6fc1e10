-- What is decoded is spelled so, and what is spelled so is decoded.
use Rattle.std.proofs.Common.{◌≡◌, ℕ, zero, suc, Bool, true, false, ◌&&◌, not, cond, ltb, eqb, List, [], ◌∷◌, ◌++◌, length, Option, Some, None, Result, Ok, Err, refl, sym, ap, ◌∙◌, arith}
use Rattle.std.specs.List.{list_all}
use Rattle.std.specs.Int.{w32}
use Rattle.std.specs.Ordering.{nat_cmp}
use Rattle.std.specs.declared.cmp.Ordering.{Ordering}
use Rattle.std.specs.FinMap.{FinMap, entries, len, len-entries}
use Rattle.std.proofs.lemmas.Bool.{ltb-true, ltb-false, le-ltb, eqb-true, ne_eqb, and_parts, and_from}
use Rattle.std.proofs.lemmas.List.{append-nil, nil_from_length}
use Rattle.join_nest.specs.Lift.{live, dead}
use Rattle.mpx_num.proofs.Spellings.{IsBytes}
use Rattle.mpx_name.specs.Order.{name_cmp}
use Rattle.mpx_board.specs.Parts.{LiftedView, PartsView}
use Rattle.mpx_board.specs.Tidy.{is_bare, has_no_zero, is_tidy_numbers, is_tidy_acks, are_tidy_posts, is_tidy_call, is_tidy_entry, is_tidy_lifted, is_tidy, is_unknown, says_nothing}
use Rattle.mpx_format.specs.declared.defects.WireError.{WireError}
use Rattle.mpx_format.specs.declared.defects.WireError.TheVariants as E
use Rattle.mpx_format.specs.declared.defects.Defect.{Defect}
use Rattle.mpx_format.specs.declared.versions.Version.{Version}
use Rattle.mpx_format.specs.declared.versions.Version.TheVariants.{One, Two}
use Rattle.mpx_format.specs.Format.{Format, byte, number, many_fit, not_canonical}
use Rattle.mpx_format.specs.Rising.{entry, always, may_come, last_of}
use Rattle.mpx_format.specs.Fields.{process, call, some_calls, some_byte, name, name_count, some_names, fronts, numbers, acks, all_acks}
use Rattle.mpx_format.specs.Births.{birth}
use Rattle.mpx_format.specs.Posts.{post}
use Rattle.mpx_format.specs.Contexts.{told, posted, call_posts, calls, held, progress, context, lifted, says_something, parts, frame}
use Rattle.mpx_format.specs.Decoding.{Spells, IsSpelled, most_bytes, placed, ended, decoded}
use Rattle.mpx_format.proofs.FormatLaws.{ok_is}
use Rattle.mpx_format.proofs.ContextLaws.{frame_laws, parts_fit}

-- TIDY

module _ {K V : Type 0} (R : K → K → Ordering) (least : Option K) (key : Format K) (value : Format V) (says : V → Bool) (p : K → V → Bool)
    (each : (k : K) (v : V) → key.fits k ≡ true → value.fits v ≡ true → says v ≡ true → p k v ≡ true) where
  pub all_fit : (n : ℕ) (before es : List (K × V)) → many_fit (entry R least key value says) n before es ≡ true → list_all (λ e. p e.0 e.1) es ≡ true
  all_fit zero before [] fits = refl
  all_fit zero before (e ∷ es) fits = absurd cc
  all_fit (suc n) before [] fits = absurd cc
  all_fit (suc n) before (e ∷ es) fits =
      let m = may_come {V = V} R least (last_of before) e.0 in
      let now = (and_parts ((entry R least key value says before).fits e) (many_fit (entry R least key value says) n (before ++ e ∷ []) es) fits).0 in
      let then = (and_parts ((entry R least key value says before).fits e) (many_fit (entry R least key value says) n (before ++ e ∷ []) es) fits).1 in
      let kv = (and_parts ((key.fits e.0 && m) && value.fits e.1) (says e.1) now).0 in
      and_from _ _ (each e.0 e.1 (and_parts (key.fits e.0) m (and_parts (key.fits e.0 && m) (value.fits e.1) kv).0).0 (and_parts (key.fits e.0 && m) (value.fits e.1) kv).1 (and_parts ((key.fits e.0 && m) && value.fits e.1) (says e.1) now).1) (all_fit n (before ++ e ∷ []) es then)

not_bare : {K V : Type 0} {R : K → K → Ordering} (m : FinMap R V) → ltb 0 (length (entries m)) ≡ true → not (is_bare m) ≡ true
not_bare m lt = ap not (ne_eqb (len m) 0 (λ e. omega (arith, ltb-true _ _ lt, len-entries m, e)))

no_zero : (m : FinMap nat_cmp ℕ) (n : ℕ) → many_fit (entry nat_cmp None process some_calls always) n [] (entries m) ≡ true → has_no_zero m ≡ true
unfolding some_calls
no_zero m n fits = all_fit nat_cmp None process some_calls always (λ p n. ltb 0 n) (λ p n a b c. (and_parts ((number w32).fits n) (ltb 0 n) b).1) n [] (entries m) fits

numbers_tidy : (m : FinMap nat_cmp ℕ) → numbers.fits m ≡ true → is_tidy_numbers m ≡ true
unfolding numbers some_byte
numbers_tidy m fits =
    let n = length (entries m) in
    let each = many_fit (entry nat_cmp None process some_calls always) n [] (entries m) in
    and_from _ _ (not_bare m (and_parts (byte.fits n) (ltb 0 n) (and_parts (byte.fits n && ltb 0 n) each fits).0).1) (no_zero m n (and_parts (byte.fits n && ltb 0 n) each fits).1)

acks_tidy : (m : FinMap name_cmp (FinMap nat_cmp ℕ)) → acks.fits m ≡ true → is_tidy_acks m ≡ true
unfolding acks some_names
acks_tidy m fits =
    let n = length (entries m) in
    let each = many_fit (entry name_cmp None name numbers always) n [] (entries m) in
    and_from _ _ (not_bare m (and_parts (name_count.fits n) (ltb 0 n) (and_parts (name_count.fits n && ltb 0 n) each fits).0).1)
    (all_fit name_cmp None name numbers always (λ k v. is_tidy_numbers v) (λ k v a b c. numbers_tidy v b) n [] (entries m) (and_parts (name_count.fits n && ltb 0 n) each fits).1)

posts_tidy : (version : Version) (m : _) → (call_posts version).fits m ≡ true → are_tidy_posts m ≡ true
unfolding call_posts some_byte posted
posts_tidy version m fits =
    let n = length (entries m) in
    let each = many_fit (entry nat_cmp None process (posted version) always) n [] (entries m) in
    and_from _ _ (not_bare m (and_parts (byte.fits n) (ltb 0 n) (and_parts (byte.fits n && ltb 0 n) each fits).0).1)
    (all_fit nat_cmp None process (posted version) always (λ p v. not (is_unknown v)) (λ p v a b c. (and_parts ((told (post version)).fits v) (not (is_unknown v)) b).1) n [] (entries m) (and_parts (byte.fits n && ltb 0 n) each fits).1)

entry_tidy : (version : Version) (e : _) → (context version).fits e ≡ true → not (says_nothing e) ≡ true → is_tidy_entry e ≡ true
unfolding context progress held calls fronts call
entry_tidy version e fits says =
    let f = length (entries e.1.0) in
    let fronts_fit = many_fit (entry nat_cmp None process some_calls always) f [] (entries e.1.0) in
    let k = length (entries e.1.1.calls) in
    let each = many_fit (entry nat_cmp (Some e.1.1.dropped) call (call_posts version) always) k [] (entries e.1.1.calls) in
    let rest = (and_parts ((told birth).fits e.0) ((progress version).fits e.1) fits).1 in
    let some_fronts = (and_parts (fronts.fits e.1.0) ((held version).fits e.1.1) rest).0 in
    let some_calls_fit = (and_parts ((number w32).fits e.1.1.dropped) ((calls version e.1.1.dropped).fits (entries e.1.1.calls)) (and_parts (fronts.fits e.1.0) ((held version).fits e.1.1) rest).1).1 in
    and_from _ _ says (and_from _ _ (no_zero e.1.0 f (and_parts (byte.fits f) fronts_fit some_fronts).1)
    (all_fit nat_cmp (Some e.1.1.dropped) call (call_posts version) always is_tidy_call (λ q v a b c. and_from _ _ (and_parts ((number w32).fits q) _ a).1 (posts_tidy version v b)) k [] (entries e.1.1.calls) (and_parts ((number w32).fits k) each some_calls_fit).1))

lifted_tidy : (version : Version) (l : LiftedView) → (lifted version).fits l ≡ true → says_something l ≡ true → is_tidy_lifted l ≡ true
unfolding lifted
lifted_tidy One (live e) fits says = entry_tidy One e fits says
lifted_tidy One dead fits says = refl
lifted_tidy Two (live e) fits says = entry_tidy Two e fits says
lifted_tidy Two dead fits says = refl

pub frame_tidy : (version : Version) (v : PartsView) → frame.fits (version, v) ≡ true → is_tidy v ≡ true
unfolding parts all_acks
frame_tidy version v whole =
    let fits = parts_fit version v whole in
    let n = length (entries v.0) in
    let each = many_fit (entry name_cmp None name (lifted version) says_something) n [] (entries v.0) in
    let a = length (entries v.1) in
    let acks_fit = many_fit (entry nat_cmp None process acks always) a [] (entries v.1) in
    and_from _ _
    (all_fit name_cmp None name (lifted version) says_something (λ k l. is_tidy_lifted l) (λ k l p q s. lifted_tidy version l q s) n [] (entries v.0) (and_parts (name_count.fits n) each (and_parts (name_count.fits n && each) (byte.fits a && acks_fit) fits).0).1)
    (all_fit nat_cmp None process acks always (λ k m. is_tidy_acks m) (λ k m p q s. acks_tidy m q) a [] (entries v.1) (and_parts (byte.fits a) acks_fit (and_parts (name_count.fits n && each) (byte.fits a && acks_fit) fits).1).1)

-- DECODING

abbrev fine : {A : Type 0} → A → Result A WireError
fine x = Ok x

test_ok : {A : Type 0} (b : Bool) (e : WireError) (x : A) (y : A) → cond b (Ok x) (Err e) ≡ Ok y → (b ≡ true) × (x ≡ y)
test_ok true e x y h = (refl, cc)
test_ok false e x y h = absurd cc

short_enough : {A : Type 0} (b : Bool) (e : WireError) (r : Result A WireError) (y : A) → cond b (Err e) r ≡ Ok y → (b ≡ false) × (r ≡ Ok y)
short_enough true e r y h = absurd cc
short_enough false e r y h = (refl, h)

-- a version and parts, and what follows them
abbrev Read : Type 0
Read = (Version × PartsView) × List ℕ

ended_ok : (n : ℕ) (r : Result Read Defect) (v : PartsView) → ended n r ≡ Ok v → (version : Version) × (r ≡ Ok ((version, v), []))
ended_ok n (Ok x) v e =
    let g = test_ok (eqb (length x.1) 0) (placed n (not_canonical x.1)) x.0.1 v e in
    let none : x.1 ≡ [] = nil_from_length x.1 (eqb-true _ _ g.0) in
    (x.0.0, λ i. Ok ((x.0.0, g.1 i), none i))
ended_ok n (Err f) v e = absurd cc

pub decoded_found : (bytes : List ℕ) (v : PartsView) → IsBytes bytes → decoded bytes ≡ Ok v → IsSpelled bytes v
unfolding decoded
decoded_found bytes v h e =
    let g = short_enough (ltb most_bytes (length bytes)) E.TooLong (ended (length bytes) (frame.read bytes)) v e in
    let r = ended_ok (length bytes) (frame.read bytes) v g.1 in
    let found = frame_laws.found bytes ((r.0, v), []) h r.1 in
    (r.0, record { fits = found.0; bytes_are = found.1 ∙ append-nil (frame.spelling (r.0, v)); few = ltb-false _ _ g.0 })

pub decoded_again : (version : Version) (bytes : List ℕ) (v : PartsView) → Spells version bytes v → decoded bytes ≡ Ok v
unfolding decoded
decoded_again version bytes v s =
    let read : frame.read bytes ≡ Ok ((version, v), []) = ap frame.read (s.bytes_are ∙ sym (append-nil (frame.spelling (version, v)))) ∙ frame_laws.again (version, v) [] s.fits in
    rw (le-ltb most_bytes (length bytes) s.few, read) refl

pub none_begins : (version other : Version) (a b rest : List ℕ) (v w : PartsView) → Spells version a v → Spells other b w → a ++ rest ≡ b → (a ≡ b) × (version ≡ other) × (v ≡ w)
none_begins version other a b rest v w s t e =
    let whole : frame.spelling (version, v) ++ rest ≡ frame.spelling (other, w) ++ [] = ap (λ (x : List ℕ). x ++ rest) (sym s.bytes_are) ∙ e ∙ t.bytes_are ∙ sym (append-nil (frame.spelling (other, w))) in
    let same : ((version, v), rest) ≡ ((other, w), []) = ok_is _ _ (sym (frame_laws.again (version, v) rest s.fits) ∙ ap frame.read whole ∙ frame_laws.again (other, w) [] t.fits) in
    (sym (append-nil a) ∙ ap (λ (r : List ℕ). a ++ r) (sym (ap (λ (x : Read). x.1) same)) ∙ e, ap (λ (x : Read). x.0.0) same, ap (λ (x : Read). x.0.1) same)

pub one_each : (version : Version) (a b : List ℕ) (v : PartsView) → Spells version a v → Spells version b v → a ≡ b
one_each version a b v s t = s.bytes_are ∙ sym t.bytes_are
