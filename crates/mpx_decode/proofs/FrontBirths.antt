-- A birth without a topology whose bytes stand at the front.
use Rattle.std.proofs.Common.{◌≡◌, ℕ, true, List, [], ◌∷◌, ◌++◌, length, Option, Some, None, Ok, IfSome, refl, sym, ap, ◌∙◌, append_assoc}
use Rattle.join_core.specs.Flat.{known}
use Rattle.mpx_birth.specs.Births.{BirthView, is_birth}
use Rattle.mpx_birth.specs.Topologies.{TopologyView}
use Rattle.mpx_format.specs.Format.{byte, many_spelled}
use Rattle.mpx_format.specs.Fields.{member, member_count, members, process}
use Rattle.mpx_format.specs.Births.{birth, topology}
use Rattle.mpx_format.specs.Contexts.{told}
use Rattle.mpx_format.proofs.BirthLaws.{birth_laws}
use Rattle.mpx_format.proofs.FormatLaws.{ok_is}
use Rattle.mpx_format.proofs.Spelled.{birth_fits}

-- the first byte and those behind it
byte_is : (bytes rest : List ℕ) (n : ℕ) → byte.read bytes ≡ Ok (n, rest) → bytes ≡ n ∷ rest
byte_is [] rest n e = absurd cc
byte_is (b ∷ bytes) rest n e = ap (λ (y : ℕ × List ℕ). y.0 ∷ y.1) (ok_is (b, bytes) (n, rest) e)

-- members are spelled by their numbers
numbers_spelled : (before ps : List ℕ) → many_spelled member before ps ≡ ps
unfolding member process
numbers_spelled before [] = refl
numbers_spelled before (p ∷ ps) = ap (λ (l : List ℕ). p ∷ l) (numbers_spelled (before ++ p ∷ []) ps)

bare_spelled : (ps : List ℕ) → birth.spelling (record { members = ps; topology = None }) ≡ (length ps ∷ ps) ++ (0 ∷ [])
unfolding birth members member_count topology
bare_spelled ps = ap (λ (l : List ℕ). length ps ∷ (l ++ 0 ∷ [])) (numbers_spelled [] ps)

bare_reads : (ps rest : List ℕ) → is_birth (record { members = ps; topology = None }) ≡ true → birth.read ((length ps ∷ ps) ++ (0 ∷ rest)) ≡ Ok (record { members = ps; topology = None }, rest)
bare_reads ps rest is =
    let b : BirthView = record { members = ps; topology = None } in
    let there : (length ps ∷ ps) ++ (0 ∷ rest) ≡ birth.spelling b ++ rest = sym (ap (λ (l : List ℕ). l ++ rest) (bare_spelled ps) ∙ append_assoc (length ps ∷ ps) (0 ∷ []) rest) in
    ap birth.read there ∙ birth_laws.again b rest (birth_fits b is refl)

-- the count of the members, their numbers, and the form of no topology stand there
pub birth_behind : {T : Type 0} (r : Option T) (left : T → List ℕ) (ps : List ℕ) (t : Option TopologyView) (bytes after behind : List ℕ) (n : ℕ) → is_birth (record { members = ps; topology = t }) ≡ true → t ≡ None → byte.read bytes ≡ Ok (n, after) → n ≡ length ps → after ≡ ps ++ behind
    → IfSome r (λ x. byte.read behind ≡ Ok (0, left x)) → IfSome r (λ x. birth.read bytes ≡ Ok (record { members = ps; topology = t }, left x))
birth_behind None left ps t bytes after behind n is none count same there zero = tt
birth_behind (Some x) left ps (Some t) bytes after behind n is none count same there zero = absurd cc
birth_behind (Some x) left ps None bytes after behind n is none count same there zero =
    let whole : bytes ≡ (length ps ∷ ps) ++ (0 ∷ left x) = byte_is bytes after n count ∙ (λ i. same i ∷ there i) ∙ ap (λ (l : List ℕ). length ps ∷ (ps ++ l)) (byte_is behind (left x) 0 zero) in
    ap birth.read whole ∙ bare_reads ps (left x) is

-- a birth behind the byte that says that it is known
pub told_behind : {T : Type 0} (r : Option T) (left : T → List ℕ) (b : BirthView) (bytes after : List ℕ) (n : ℕ) → byte.read bytes ≡ Ok (n, after) → n ≡ 1
    → IfSome r (λ x. birth.read after ≡ Ok (b, left x)) → IfSome r (λ x. (told birth).read bytes ≡ Ok (known b, left x))
told_behind None left b bytes after n is one h = tt
told_behind (Some x) left b bytes after n is one h =
    let form : byte.read bytes ≡ Ok (1, after) = is ∙ ap (λ (k : ℕ). Ok (k, after)) one in
    rw (form, h) refl
