-- The parts of a board joined as they are read: the contexts, and then the acknowledgements.
use Rattle.std.proofs.Common.{◌≡◌, ◌<◌, ℕ, nat_lt, arith, true, List, [], map, None, Result, Ok, Err, IfOk, OnErr, refl, sym, ap, ◌∙◌, subst}
use Rattle.std.proofs.lemmas.Bool.Decides.{nat_tests}
use Rattle.std.proofs.lemmas.Simd.{map-map}
use Rattle.std.specs.Ordering.{nat_cmp}
use Rattle.std.specs.declared.cmp.Ordering.{Ordering}
use Rattle.std.specs.FinMap.{FinMap, entries, from_sorted, is_sorted}
use Rattle.join_core.specs.Joins.{Joining, JoinLaws}
use Rattle.join_nest.specs.Between.{keyed_between}
use Rattle.join_nest.specs.Keyed.{keyed_joining}
use Rattle.join_nest.specs.Seen.{keyed_view, seen}
use Rattle.join_nest.proofs.Views.{entries_of}
use Rattle.mpx_board.specs.Parts.{PartsView, parts_between, parts_joining}
use Rattle.mpx_board.specs.Tidy.{is_tidy}
use Rattle.mpx_board.proofs.Left.{tidy_left}
use Rattle.mpx_board.proofs.Tidiness.{tidy_join}
use Rattle.mpx_format.specs.declared.defects.Defect.{Defect}
use Rattle.mpx_format.specs.Fields.{fronts, numbers, process, some_byte, some_calls}
use Rattle.mpx_format.specs.Format.{Format, ◌>>=◌, byte, many_read}
use Rattle.mpx_format.specs.Rising.{always, entry, keyed}
use Rattle.mpx_format.proofs.FormatLaws.{ok_is}
use Rattle.mpx_decode.specs.Raising.{JoinsFront, StandsInFront, StandsTidy, StopsBetween, rows}

pub if_ok : {T E : Type 0} (r : Result T E) (P Q : T → Type 0) → ((x : T) → P x → Q x) → IfOk r P → IfOk r Q
if_ok (Ok x) P Q f h = f x h
if_ok (Err e) P Q f h = tt

pub if_err : {T E P Q : Type 0} (r : Result T E) → (P → Q) → OnErr r P → OnErr r Q
if_err (Ok x) f h = tt
if_err (Err e) f h = f h

-- WHAT A MAP SAYS BY ANOTHER VIEW, which follows from the first

module _ {K J V W : Type 0} (R : K → K → Ordering) (view : J → V) (other : J → W) (of : V → W) (is : (x : J) → other x ≡ of (view x)) where
  seen_by_other : (es : List (K × J)) → seen other es ≡ map (λ (e : K × V). (e.0, of e.1)) (seen view es)
  seen_by_other es =
      let each : seen other es ≡ map (λ (e : K × J). (e.0, of (view e.1))) es = λ i. map (λ (e : K × J). (e.0, is e.1 i)) es in
      each ∙ sym (map-map (λ (e : K × V). (e.0, of e.1)) (λ (e : K × J). (e.0, view e.1)) es)

  -- maps that are alike by the one are alike by the other
  pub alike_by_other : (a b : List (K × J)) → is_sorted R a ≡ true → is_sorted R b ≡ true → keyed_view R view a ≡ keyed_view R view b → keyed_view R other a ≡ keyed_view R other b
  alike_by_other a b ha hb e =
      let same : seen view a ≡ seen view b = sym (entries_of R view a ha) ∙ ap entries e ∙ entries_of R view b hb in
      ap (λ (es : List (K × W)). from_sorted {R = R} es) (seen_by_other a ∙ ap (map (λ (e : K × V). (e.0, of e.1))) same ∙ sym (seen_by_other b))

-- A MAP BEHIND ITS COUNT

module _ {K V : Type 0} (R : K → K → Ordering) (count : Format ℕ) (key : Format K) (value : Format V) (bytes : List ℕ) (n : ℕ) (after : List ℕ) (is : count.read bytes ≡ Ok (n, after)) where
  abbrev entries_then : Result (List (K × V) × List ℕ) Defect → Result (FinMap R V × List ℕ) Defect
  entries_then r =
      ◌>>=◌ {B = FinMap R V × List ℕ} (◌>>=◌ {B = List (K × V) × List ℕ} (◌>>=◌ {B = (ℕ × List (K × V)) × List ℕ} r (λ b. Ok ((n, b.0), b.1))) (λ x. Ok (x.0.1, x.1))) (λ x. Ok (from_sorted {R = R} x.0, x.1))

  regroup : (r : Result (List (K × V) × List ℕ) Defect) → entries_then r ≡ ◌>>=◌ {B = FinMap R V × List ℕ} r (λ x. Ok (from_sorted {R = R} x.0, x.1))
  regroup (Ok x) = refl
  regroup (Err e) = refl

  -- the map is the rows behind the count
  pub rows_behind : (keyed R count key value always).read bytes ≡ (rows R key value n).read after
  rows_behind = rw is (regroup (many_read (entry R None key value always) n [] after))

  pub rows_stand : StandsInFront (keyed R count key value always) bytes → StandsInFront (rows R key value n) after
  rows_stand s = (s.0, sym rows_behind ∙ s.1)

  -- the map that was taken apart, and what was made of it
  module _ {T E : Type 0} (r : Result T E) (left : T → List ℕ) (old new mine made : FinMap R V) (was : old ≡ mine) (is_made : new ≡ made) where
    pub map_raised : (j : Joining V) → IfOk r (λ x. JoinsFront (rows R key value n) (keyed_joining j) after (left x) mine made) → IfOk r (λ x. JoinsFront (keyed R count key value always) (keyed_joining j) bytes (left x) old new)
    map_raised j h = if_ok r _ _ (λ x g. record { value = g.value; read = rows_behind ∙ g.read; joined = is_made ∙ g.joined ∙ ap (λ m. (keyed_joining j).join m g.value) (sym was) }) h

    pub map_stops : (between : V → V → V → Type 0) → OnErr r (StopsBetween (rows R key value n) (keyed_between between) after mine made) → OnErr r (StopsBetween (keyed R count key value always) (keyed_between between) bytes old new)
    map_stops between h = if_err r (λ g. record { value = g.value; rest = g.rest; read = rows_behind ∙ g.read; left = λ q. subst (λ (m : FinMap R V × FinMap R V). keyed_between between m.0 g.value m.1) (λ i. (sym was i, sym is_made i)) g.left q }) h

positive : (n : ℕ) → 0 < n → nat_lt 0 n ≡ true
positive n lt = grind (arith, nat_tests)

some_read : (bytes : List ℕ) (n : ℕ) (after : List ℕ) → byte.read bytes ≡ Ok (n, after) → 0 < n → some_byte.read bytes ≡ Ok (n, after)
unfolding some_byte
some_read bytes n after is some = rw (is, positive n some) refl

-- where there are some fronts, they are spelled as numbers are
pub fronts_are_numbers : (bytes : List ℕ) (n : ℕ) (after : List ℕ) → byte.read bytes ≡ Ok (n, after) → 0 < n → fronts.read bytes ≡ numbers.read bytes
unfolding fronts numbers
fronts_are_numbers bytes n after is some = rows_behind nat_cmp byte process some_calls bytes n after is ∙ sym (rows_behind nat_cmp some_byte process some_calls bytes n after (some_read bytes n after is some))

-- nothing was joined
pub stops_at_once : {V : Type 0} (f : Format V) (between : V → V → V → Type 0) (bytes : List ℕ) (old : V) → ((b : V) → between old b old) → StandsInFront f bytes → StopsBetween f between bytes old old
stops_at_once f between bytes old keeps s = record { value = s.0.0; rest = s.0.1; read = s.1; left = keeps s.0.0 }

-- ONE VALUE

module _ {V : Type 0} (f : Format V) (bytes rest : List ℕ) (v : V) (read : f.read bytes ≡ Ok (v, rest)) where
  -- just what stands there is known
  pub same_joined : {j : Joining V} → JoinLaws j → JoinsFront f j bytes rest v v
  same_joined p = record { value = v; read = read; joined = sym (p.idempotent v) }

  pub read_joined : {j : Joining V} {old new : V} → new ≡ j.join old v → JoinsFront f j bytes rest old new
  read_joined e = record { value = v; read = read; joined = e }

  pub read_stops : {between : V → V → V → Type 0} {old new : V} → between old v new → StopsBetween f between bytes old new
  read_stops h = record { value = v; rest = rest; read = read; left = h }

-- TIDINESS

-- parts that were joined with tidy ones, in whole or in part, are tidy
pub parts_tidy : {T E : Type 0} (r : Result T E) (left : T → List ℕ) (f : Format PartsView) (bytes : List ℕ) (old new : PartsView) → is_tidy old ≡ true → StandsTidy f is_tidy bytes → IfOk r (λ x. JoinsFront f parts_joining bytes (left x) old new)
    → OnErr r (StopsBetween f parts_between bytes old new) → is_tidy new ≡ true
parts_tidy (Ok x) left f bytes old new tidy s g h =
    let same : s.0.0 ≡ g.value = ap (λ (y : PartsView × List ℕ). y.0) (ok_is s.0 (g.value, left x) (sym s.1 ∙ g.read)) in
    ap is_tidy g.joined ∙ tidy_join old g.value tidy (ap is_tidy (sym same) ∙ s.2)
parts_tidy (Err e) left f bytes old new tidy s g h =
    let same : s.0.0 ≡ h.value = ap (λ (y : PartsView × List ℕ). y.0) (ok_is s.0 (h.value, h.rest) (sym s.1 ∙ h.read)) in
    tidy_left old h.value new tidy (ap is_tidy (sym same) ∙ s.2) h.left
