-- The laws of codes, and of values that may be missing.
use Rattle.std.proofs.Common.{◌≡◌, ℕ, zero, suc, ◌<◌, Bool, true, false, ◌&&◌, ◌||◌, ltb, List, [], ◌∷◌, get_or, Option, Some, None, refl, sym, ap, ◌∙◌, arith}
use Rattle.std.specs.List.{list_all}
use Rattle.std.proofs.lemmas.Bool.{ltb-true, lt-ltb, and_parts}
use Rattle.std.proofs.lemmas.List.{get_or_past}
use Rattle.mpx_kind.specs.declared.kinds.Kind.{Kind}
use Rattle.mpx_kind.specs.declared.kinds.Mode.{Mode}
use Rattle.mpx_kind.specs.declared.kinds.Mode.TheVariants.{Blocking, Nonblocking}
use Rattle.mpx_format.specs.declared.defects.Defect.TheVariants.{BadVersion}
use Rattle.mpx_format.specs.declared.versions.Version.{Version}
use Rattle.mpx_format.specs.declared.versions.Version.TheVariants.{One, Two}
use Rattle.mpx_format.specs.Format.{Format, byte, out_of_limits}
use Rattle.mpx_kind.specs.declared.kinds.Kind.TheVariants.{Free}
use Rattle.mpx_kind.specs.Codes.{code_of_kind, kind_at, kinds}
use Rattle.mpx_kind.proofs.Codes.{kind_forth, kind_back}
use Rattle.mpx_num.specs.Codes.{code_of_operation, operation_at, code_of_type, type_at}
use Rattle.mpx_num.proofs.Codes.{operation_forth, own_back, predefined_back, type_forth, type_back}
use Rattle.mpx_format.specs.Codes.{code_of_version, version_at, version_byte, kinds_in, kind, code_of_mode, mode_at, mode, is_operation_code, operation, item_type, code_of_flag, flag_at, flag, of_none, missing, there, when}
use Rattle.mpx_format.proofs.FormatLaws.{Exactly, byte_laws, nothing_laws, only_laws, through_laws, some_is}

-- VERSIONS

version_forth : (x : Version) → version_at (code_of_version x) ≡ x
version_forth One = refl
version_forth Two = refl

version_back : (n : ℕ) → (ltb 0 n && ltb n 3) ≡ true → code_of_version (version_at n) ≡ n
version_back zero t = absurd cc
version_back (suc zero) t = refl
version_back (suc (suc n)) t = omega (arith, ltb-true (suc (suc n)) 3 (and_parts (ltb 0 (suc (suc n))) (ltb (suc (suc n)) 3) t).1)

pub version_laws : Exactly version_byte
version_laws = through_laws version_at (λ x. Some (code_of_version x)) (only_laws (λ bytes. BadVersion) _ byte_laws) (λ n fits. ap Some (version_back n (and_parts (byte.fits n) (ltb 0 n && ltb n 3) fits).1)) (λ x n e. ap version_at (sym (some_is (code_of_version x) n e)) ∙ version_forth x)

-- KINDS AND MODES

each_passes : {A : Type 0} (test : A → Bool) (xs : List A) (last : A) (i : ℕ) → list_all test xs ≡ true → test last ≡ true → test (get_or xs i last) ≡ true
each_passes test [] last i all passes = ap test (get_or_past [] i last (omega arith)) ∙ passes
each_passes test (x ∷ xs) last zero all passes = (and_parts (test x) (list_all test xs) all).0
each_passes test (x ∷ xs) last (suc i) all passes = each_passes test xs last i (and_parts (test x) (list_all test xs) all).1 passes

-- what all pass that are listed each kind passes
pub each_kind : (test : Kind → Bool) → list_all test kinds ≡ true → test Free ≡ true → (k : Kind) → test k ≡ true
each_kind test all last k = ap test (sym (kind_forth k)) ∙ each_passes test kinds Free (code_of_kind k) all last

in_some_version : (version : Version) (n : ℕ) → ltb n (kinds_in version) ≡ true → ltb n 27 ≡ true
in_some_version One n t = lt-ltb n 27 (omega (arith, ltb-true n 26 t))
in_some_version Two n t = t

pub kind_laws : (version : Version) → Exactly (kind version)
unfolding kind
kind_laws version = through_laws kind_at (λ x. Some (code_of_kind x)) (only_laws out_of_limits _ byte_laws) (λ n fits. ap Some (kind_back n (ltb-true n 27 (in_some_version version n (and_parts (byte.fits n) (ltb n (kinds_in version)) fits).1)))) (λ x n e. ap kind_at (sym (some_is (code_of_kind x) n e)) ∙ kind_forth x)

mode_forth : (x : Mode) → mode_at (code_of_mode x) ≡ x
mode_forth Blocking = refl
mode_forth Nonblocking = refl

mode_back : (n : ℕ) → ltb n 2 ≡ true → code_of_mode (mode_at n) ≡ n
mode_back zero t = refl
mode_back (suc n) t = omega (arith, ltb-true (suc n) 2 t)

pub mode_laws : (k : Kind) → Exactly (mode k)
unfolding mode
mode_laws k = only_laws out_of_limits _ (through_laws mode_at (λ x. Some (code_of_mode x)) (only_laws out_of_limits _ byte_laws) (λ n fits. ap Some (mode_back n (and_parts (byte.fits n) (ltb n 2) fits).1)) (λ x n e. ap mode_at (sym (some_is (code_of_mode x) n e)) ∙ mode_forth x))

-- OPERATIONS AND TYPES

back_by : (n : ℕ) (predefined : Bool) → (ltb 0 n && ltb n 13) ≡ predefined → (predefined || (ltb 15 n && ltb n 32)) ≡ true → code_of_operation (operation_at n) ≡ n
back_by n true is t = let within = and_parts (ltb 0 n) (ltb n 13) is in predefined_back n (ltb-true 0 n within.0) (ltb-true n 13 within.1)
back_by n false is t = let past : 15 < n = ltb-true 15 n (and_parts (ltb 15 n) (ltb n 32) t).0 in own_back n (omega (arith, past))

operation_back : (n : ℕ) → is_operation_code Two n ≡ true → code_of_operation (operation_at n) ≡ n
operation_back n t = back_by n (ltb 0 n && ltb n 13) refl t

in_some_operation : (version : Version) (n : ℕ) → is_operation_code version n ≡ true → is_operation_code Two n ≡ true
in_some_operation One n t = ap (λ b. b || (ltb 15 n && ltb n 32)) t
in_some_operation Two n t = t

pub operation_laws : (version : Version) → Exactly (operation version)
unfolding operation
operation_laws version = through_laws operation_at (λ x. Some (code_of_operation x)) (only_laws out_of_limits _ byte_laws) (λ n fits. ap Some (operation_back n (in_some_operation version n (and_parts (byte.fits n) (is_operation_code version n) fits).1))) (λ x n e. ap operation_at (sym (some_is (code_of_operation x) n e)) ∙ operation_forth x)

coded_type_back : (n : ℕ) → (ltb 0 n && ltb n 10) ≡ true → code_of_type (type_at n) ≡ n
coded_type_back n t = let within = and_parts (ltb 0 n) (ltb n 10) t in type_back n (ltb-true 0 n within.0) (ltb-true n 10 within.1)

pub item_type_laws : Exactly item_type
unfolding item_type
item_type_laws = through_laws type_at (λ x. Some (code_of_type x)) (only_laws out_of_limits _ byte_laws) (λ n fits. ap Some (coded_type_back n (and_parts (byte.fits n) (ltb 0 n && ltb n 10) fits).1)) (λ x n e. ap type_at (sym (some_is (code_of_type x) n e)) ∙ type_forth x)

-- YES OR NO

flag_forth : (x : Bool) → flag_at (code_of_flag x) ≡ x
flag_forth false = refl
flag_forth true = refl

flag_back : (n : ℕ) → ltb n 2 ≡ true → code_of_flag (flag_at n) ≡ n
flag_back zero t = refl
flag_back (suc n) t = omega (arith, ltb-true (suc n) 2 t)

pub flag_laws : Exactly flag
unfolding flag
flag_laws = through_laws flag_at (λ x. Some (code_of_flag x)) (only_laws out_of_limits _ byte_laws) (λ n fits. ap Some (flag_back n (and_parts (byte.fits n) (ltb n 2) fits).1)) (λ x n e. ap flag_at (sym (some_is (code_of_flag x) n e)) ∙ flag_forth x)

-- VALUES THAT MAY BE MISSING

none_forth : {A : Type 0} (o : Option A) (u : Unit {0}) → of_none o ≡ Some u → None ≡ o
none_forth None u e = refl
none_forth (Some a) u e = absurd cc

pub missing_laws : {A : Type 0} → Exactly (missing {A = A})
missing_laws = through_laws (λ u. None) of_none nothing_laws (λ u fits. refl) none_forth

pub there_laws : {A : Type 0} {f : Format A} → Exactly f → Exactly (there f)
there_laws p = through_laws Some (λ o. o) p (λ a fits. refl) (λ o a e. sym e)

pub when_laws : {A : Type 0} {f : Format A} (had : Bool) → Exactly f → Exactly (when had f)
when_laws true p = there_laws p
when_laws false p = missing_laws
