-- What is spelled is joined as it is read.
use Rattle.std.proofs.Common.{◌≡◌, ◌≢◌, ℕ, ◌≤◌, ◌⊎◌, inl, inr, List, [], ◌∷◌, length, Result, Ok, Err, OnOk, refl, sym, ap, ◌∙◌, subst, arith}
use Rattle.std.proofs.lemmas.List.{append-nil}
use Rattle.mpx_board.specs.Boards.{Fact, Has, IsBetween, IsBoardBelow, Look, empty, join}
use Rattle.mpx_board.specs.Contexts.{look_of}
use Rattle.mpx_board.specs.Parts.{PartsView, parts_between, parts_between_laws, parts_joining, parts_laws}
use Rattle.mpx_board.specs.Tidy.{is_tidy}
use Rattle.mpx_board.proofs.Facts.{below_through}
use Rattle.mpx_board.proofs.Left.{taken_err}
use Rattle.mpx_board.proofs.Looking.{look-empty, look-join}
use Rattle.mpx_board.proofs.Order.{same_look}
use Rattle.mpx_board.proofs.Semilattice.{joins_associate}
use Rattle.mpx_board.proofs.Tidiness.{tidy_empty}
use Rattle.mpx_format.specs.declared.defects.Defect.{Defect}
use Rattle.mpx_format.specs.declared.defects.Defect.TheVariants.{BadMagic}
use Rattle.mpx_format.specs.declared.defects.ReadError.{ReadError}
use Rattle.mpx_format.specs.declared.defects.ReadError.TheVariants as errors
use Rattle.mpx_format.specs.declared.versions.Version.{Version}
use Rattle.mpx_format.specs.Codes.{version_byte}
use Rattle.mpx_format.specs.Contexts.{frame, parts}
use Rattle.mpx_format.specs.Decoding.{IsSpelled}
use Rattle.mpx_format.specs.declared.versions.Version.TheVariants.{One, Two}
use Rattle.mpx_format.specs.Format.{Fails, Format, ◌>>=◌, both, mark, mark_at}
use Rattle.mpx_format.proofs.ContextLaws.{frame_laws}
use Rattle.mpx_format.proofs.Decoded.{frame_tidy}
use Rattle.mpx_format.proofs.CodeLaws.{version_laws}
use Rattle.mpx_format.proofs.FormatLaws.{Exactly, bind_ok, mark_laws, ok_is}
use Rattle.mpx_decode.proofs.NoParts.{three_zeros}
use Rattle.mpx_decode.specs.Raising.{JoinsFront, StandsTidy, StopsBetween, no_parts}
use Rattle.mpx_wire.specs.Reading.{front}

module _ {A B : Type 0} (f : Format A) (g : A → Format B) where
  -- the one, and then the other
  abbrev Follows : Format (A × B) → Format A → Type 0
  Follows h k = (bytes : List ℕ) → h.read bytes ≡ (k.read bytes >>= λ a. (g a.0).read a.1 >>= λ b. Ok ((a.0, b.0), b.1))

  marked : (wrong : Defect) (c : ℕ) (h : Format (A × B)) (k : Format A) → Follows h k → Follows (mark wrong c h) (mark wrong c k)
  marked wrong c h k follows bytes = elim (mark_at wrong c bytes) as (λ (r : Result (List ℕ) Defect). (r >>= h.read) ≡ ((r >>= k.read) >>= λ a. (g a.0).read a.1 >>= λ b. Ok ((a.0, b.0), b.1))) [
    | Ok rest ↦ follows rest
    | Err e ↦ refl
  ]

-- the parts stand behind the front
parts_follow : Follows version_byte parts frame front
unfolding frame
parts_follow =
    let both_of = both version_byte parts in
    marked version_byte parts BadMagic 77 (mark BadMagic 80 (mark BadMagic 88 (mark BadMagic 71 both_of))) (mark BadMagic 80 (mark BadMagic 88 (mark BadMagic 71 version_byte)))
    (marked version_byte parts BadMagic 80 (mark BadMagic 88 (mark BadMagic 71 both_of)) (mark BadMagic 88 (mark BadMagic 71 version_byte))
    (marked version_byte parts BadMagic 88 (mark BadMagic 71 both_of) (mark BadMagic 71 version_byte)
    (marked version_byte parts BadMagic 71 both_of version_byte (λ bytes. refl))))

abbrev parts_after : Result (Version × List ℕ) Defect → Result ((Version × PartsView) × List ℕ) Defect
parts_after front_read = front_read >>= λ (a : Version × List ℕ). (parts a.0).read a.1 >>= λ (b : PartsView × List ℕ). Ok ((a.0, b.0), b.1)

-- where the front isn't read, the frame isn't
pub front_fails : (bytes : List ℕ) (e : ReadError) → Fails e (front.read bytes) → Fails e (frame.read bytes)
front_fails bytes errors.OutOfMemory h = tt
front_fails bytes (errors.Defect d) h = parts_follow bytes ∙ ap parts_after h

module _ (bytes : List ℕ) (version : Version) (rest : List ℕ) (is : front.read bytes ≡ Ok (version, rest)) where
  abbrev with_version : Result (PartsView × List ℕ) Defect → Result ((Version × PartsView) × List ℕ) Defect
  with_version parts_read = parts_read >>= λ (b : PartsView × List ℕ). Ok ((version, b.0), b.1)

  behind_front : frame.read bytes ≡ with_version ((parts version).read rest)
  behind_front = parts_follow bytes ∙ ap parts_after is

  pub parts_fail : (e : ReadError) → Fails e ((parts version).read rest) → Fails e (frame.read bytes)
  parts_fail errors.OutOfMemory h = tt
  parts_fail (errors.Defect d) h = behind_front ∙ ap with_version h

  pub parts_found : (v : PartsView) (left : List ℕ) → (parts version).read rest ≡ Ok (v, left) → frame.read bytes ≡ Ok ((version, v), left)
  parts_found v left h = behind_front ∙ ap with_version h

frame_spelled : (bytes : List ℕ) (v : PartsView) (s : IsSpelled bytes v) → frame.read bytes ≡ Ok ((s.0, v), [])
frame_spelled bytes v s = ap frame.read (s.1.bytes_are ∙ sym (append-nil (frame.spelling (s.0, v)))) ∙ frame_laws.again (s.0, v) [] s.1.fits

-- the front of what is spelled is read
pub front_stands : (bytes : List ℕ) → ((v : PartsView) × IsSpelled bytes v) → (e : ReadError) → Fails e (front.read bytes) → e ≢ errors.OutOfMemory → ⊥
front_stands bytes s errors.OutOfMemory fails other = other refl
front_stands bytes s (errors.Defect d) fails other =
    let none : frame.read bytes ≡ Err d = front_fails bytes (errors.Defect d) fails in
    let found : (Version × PartsView) × List ℕ = ((s.1.0, s.0), []) in
    let clash : Err d ≡ Ok found = sym none ∙ frame_spelled bytes s.0 s.1 in
    absurd cc

-- the parts that are spelled stand behind the front
pub spelled_behind : (bytes : List ℕ) (v : PartsView) → IsSpelled bytes v → (version : Version) (rest : List ℕ) → front.read bytes ≡ Ok (version, rest) → (parts version).read rest ≡ Ok (v, [])
spelled_behind bytes v s version rest e =
    let read : frame.read bytes ≡ Ok ((s.0, v), []) = frame_spelled bytes v s in
    let after : ((parts version).read rest >>= λ (b : PartsView × List ℕ). Ok ((version, b.0), b.1)) ≡ Ok ((s.0, v), []) =
    ap (λ (r : Result (Version × List ℕ) Defect). r >>= λ (a : Version × List ℕ). (parts a.0).read a.1 >>= λ (b : PartsView × List ℕ). Ok ((a.0, b.0), b.1)) (sym e) ∙ sym (parts_follow bytes) ∙ read in
    let b = bind_ok ((parts version).read rest) (λ (b : PartsView × List ℕ). Ok ((version, b.0), b.1)) ((s.0, v), []) after in
    let same : ((version, b.0.0), b.0.1) ≡ ((s.0, v), []) = ok_is ((version, b.0.0), b.0.1) ((s.0, v), []) b.2 in
    b.1 ∙ ap (λ (x : (Version × PartsView) × List ℕ). Ok (x.0.1, x.1)) same

pub parts_stand : (bytes : List ℕ) → ((v : PartsView) × IsSpelled bytes v) → (version : Version) (rest : List ℕ) → front.read bytes ≡ Ok (version, rest) → StandsTidy (parts version) is_tidy rest
parts_stand bytes s version rest e = ((s.0, []), spelled_behind bytes s.0 s.1 version rest e, frame_tidy s.1.0 s.0 s.1.1.fits)

module _ (bytes : List ℕ) (version : Version) (rest : List ℕ) (e : front.read bytes ≡ Ok (version, rest)) (old new : PartsView) where
  only : (v w : PartsView) (after : List ℕ) → IsSpelled bytes v → (parts version).read rest ≡ Ok (w, after) → w ≡ v
  only v w after s r = ap (λ (x : PartsView × List ℕ). x.0) (ok_is (w, after) (v, []) (sym r ∙ spelled_behind bytes v s version rest e))

  -- all of it was joined
  pub spelled_joined : (after : List ℕ) → JoinsFront (parts version) parts_joining rest after old new → (v : PartsView) → IsSpelled bytes v → look_of new ≡ join (look_of old) (look_of v)
  spelled_joined after r v s = ap look_of (r.joined ∙ ap (parts_joining.join old) (only v r.value after s r.read)) ∙ look-join old v

  -- some of it was joined
  pub spelled_left : StopsBetween (parts version) parts_between rest old new → (v : PartsView) → IsSpelled bytes v → IsBetween (look_of old) (look_of v) (look_of new)
  spelled_left r v s = taken_err (Err (tt {0})) old v new (subst (λ (w : PartsView). parts_between old w new) (only v r.value r.rest s r.read) r.left)

-- NOTHING TOLD

-- the front of a frame, and what is left behind it
front_of : (version : Version) (v : PartsView) → front.read (frame.spelling (version, v)) ≡ Ok (version, (parts version).spelling v)
unfolding frame
front_of One v = refl
front_of Two v = refl

pub behind_it : (bytes : List ℕ) (version : Version) (rest : List ℕ) → front.read bytes ≡ Ok (version, rest) → (w : Version) (v : PartsView) → bytes ≡ frame.spelling (w, v) → rest ≡ (parts version).spelling v
behind_it bytes version rest is w v e =
    let same : (version, rest) ≡ (w, (parts w).spelling v) = ok_is (version, rest) (w, (parts w).spelling v) (sym is ∙ ap front.read e ∙ front_of w v) in
    ap (λ (x : Version × List ℕ). x.1) same ∙ ap (λ (x : Version × List ℕ). (parts x.0).spelling v) (sym same)

-- what tells nothing has no parts
pub spells_none : (bytes : List ℕ) (v : PartsView) (s : IsSpelled bytes v) → look_of v ≡ empty → bytes ≡ frame.spelling (s.0, no_parts)
spells_none bytes v s none = s.1.bytes_are ∙ ap (λ (w : PartsView). frame.spelling (s.0, w)) (same_look v no_parts (frame_tidy s.0 v s.1.fits) tidy_empty (none ∙ sym look-empty))

none_len : (version : Version) → length (frame.spelling (version, no_parts)) ≡ 8
unfolding frame
none_len One = ap (λ (l : List ℕ). length (77 ∷ 80 ∷ 88 ∷ 71 ∷ 1 ∷ l)) (three_zeros One)
none_len Two = ap (λ (l : List ℕ). length (77 ∷ 80 ∷ 88 ∷ 71 ∷ 2 ∷ l)) (three_zeros Two)

-- what has more bytes tells something
pub many_tell : (bytes : List ℕ) → 64 ≤ length bytes → (v : PartsView) → IsSpelled bytes v → look_of v ≢ empty
many_tell bytes many v s none =
    let few : length bytes ≡ 8 = ap length (spells_none bytes v s none) ∙ none_len s.0 in
    absurd (omega (arith, few, many))

-- what isn't touched is between
pub left_alone : (old v : PartsView) → IsBetween (look_of old) (look_of v) (look_of old)
left_alone old v = taken_err (Err (tt {0})) old v old (parts_between_laws.old old v)

-- TAKEN ONCE MORE

-- what was joined in part is joined with the rest
pub joins_again : (old v mid : PartsView) → parts_between old v mid → join (look_of mid) (look_of v) ≡ join (look_of old) (look_of v)
joins_again old v mid left =
    let j = parts_joining.join in
    let above : j old mid ≡ mid = parts_between_laws.above old v mid left in
    let below : j mid (j old v) ≡ j old v = parts_between_laws.below old v mid left in
    let same : j mid v ≡ j old v =
    ap (λ (m : PartsView). j m v) (sym above ∙ parts_laws.commutative old mid) ∙ parts_laws.associative mid old v ∙ below in
    sym (look-join mid v) ∙ ap look_of same ∙ look-join old v

-- and what is left of that is between, too
pub between_again : (old v mid new : Look) → join mid v ≡ join old v → IsBetween old v mid → IsBetween mid v new → IsBetween old v new
between_again old v mid new same k l = record {
  joined = ap (join old) (sym l.joined) ∙ sym (joins_associate old mid new) ∙ ap (λ (m : Look). join m new) k.joined ∙ l.joined;
  above = below_through old mid new k.above l.above;
  below = subst (IsBoardBelow new) same l.below;
  known = λ f h. known_of f (l.known f h);
}
  where
    known_of : (f : Fact) → (Has mid f ⊎ (Has v f ⊎ Has (join mid v) f)) → Has old f ⊎ (Has v f ⊎ Has (join old v) f)
    known_of f (inl h) = k.known f h
    known_of f (inr (inl h)) = inr (inl h)
    known_of f (inr (inr h)) = inr (inr (subst (λ (b : Look). Has b f) same h))

-- parts of which some are joined
pub spelled_between : (bytes : List ℕ) (version : Version) (rest : List ℕ) → front.read bytes ≡ Ok (version, rest) → (old new : PartsView) → StopsBetween (parts version) parts_between rest old new → (v : PartsView) → IsSpelled bytes v → parts_between old v new
spelled_between bytes version rest e old new r v s =
    let same : r.value ≡ v = ap (λ (x : PartsView × List ℕ). x.0) (ok_is (r.value, r.rest) (v, []) (sym r.read ∙ spelled_behind bytes v s version rest e)) in
    subst (λ (w : PartsView). parts_between old w new) same r.left

pub front_laws : Exactly front
front_laws = mark_laws BadMagic 77 (mark_laws BadMagic 80 (mark_laws BadMagic 88 (mark_laws BadMagic 71 version_laws)))

pub if_done : {T E P Q : Type 0} (r : Result T E) → (P → Q) → OnOk r P → OnOk r Q
if_done (Ok x) f h = f h
if_done (Err e) f h = tt
