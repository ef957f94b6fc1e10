-- Values side by side, and values that may be dead, joined as they are read.
use Rattle.std.proofs.Common.{◌≡◌, ◌≢◌, ℕ, zero, suc, true, cond, List, Result, Ok, Err, IfOk, OnErr, refl, sym, ap, ◌∙◌, subst, nat_lt}
use Rattle.join_core.specs.Joins.{Joining, BetweenLaws}
use Rattle.join_core.specs.Pair.{pair_between, pair_joining}
use Rattle.join_nest.specs.Lift.{LiftView, dead, lift_between, lift_joining, live}
use Rattle.mpx_format.specs.declared.versions.Version.{Version}
use Rattle.mpx_format.specs.declared.versions.Version.TheVariants.{One, Two}
use Rattle.mpx_format.specs.Contexts.{code_of_lift, context, lift_form, lifted}
use Rattle.mpx_format.specs.Format.{Format, ◌>>=◌, both, byte, only, out_of_limits, tagged}
use Rattle.mpx_format.proofs.FormatLaws.{bind_ok, guard_ok, ok_is}
use Rattle.mpx_decode.specs.Raising.{JoinsFront, StandsInFront, StopsBetween}
use Rattle.mpx_decode.proofs.OneRow.{row_read, value_stands}
use Rattle.mpx_decode.proofs.Taken.{if_err, if_ok}

-- SIDE BY SIDE

module _ {A B : Type 0} (f : Format A) (g : Format B) (bytes : List ℕ) where
  abbrev side : Format (A × B)
  side = both f (λ a. g)

  -- the first stands at the front
  pub first_stands : StandsInFront side bytes → StandsInFront f bytes
  first_stands s = let a = bind_ok (f.read bytes) (λ (x : A × List ℕ). g.read x.1 >>= λ y. Ok ((x.0, y.0), y.1)) s.0 s.1 in (a.0, a.1)

  -- and where it was joined, the second behind it
  pub second_stands : {j : Joining A} {a now : A} (after : List ℕ) → JoinsFront f j bytes after a now → StandsInFront side bytes → StandsInFront g after
  second_stands after first s = value_stands f g bytes first.value after first.read s

  -- only the first was joined, in part
  pub first_stops : {between : A → A → A → Type 0} {a now : A} {k : Joining B} {others : B → B → B → Type 0} (q : BetweenLaws k others) (b : B) → StandsInFront side bytes → StopsBetween f between bytes a now
      → StopsBetween side (pair_between between others) bytes (a, b) (now, b)
  first_stops q b s h =
      let v = value_stands f g bytes h.value h.rest h.read s in
      record { value = (h.value, v.0.0); rest = v.0.1; read = row_read f g bytes h.value h.rest h.read v.0.0 v.0.1 v.1; left = (h.left, q.old b v.0.0) }

  module _ {T E : Type 0} (r : Result T E) (left : T → List ℕ) (after : List ℕ) where
    pub both_joined : {j : Joining A} {a now : A} (first : JoinsFront f j bytes after a now) (k : Joining B) (b later : B) → IfOk r (λ x. JoinsFront g k after (left x) b later) → IfOk r (λ x. JoinsFront side (pair_joining j k) bytes (left x) (a, b) (now, later))
    both_joined first k b later h = if_ok r _ _ (λ x i. record { value = (first.value, i.value); read = row_read f g bytes first.value after first.read i.value (left x) i.read; joined = λ t. (first.joined t, i.joined t) }) h

    pub second_stops : {j : Joining A} {between : A → A → A → Type 0} {a now : A} (first : JoinsFront f j bytes after a now) (p : BetweenLaws j between) (others : B → B → B → Type 0) (b later : B) → OnErr r (StopsBetween g others after b later)
        → OnErr r (StopsBetween side (pair_between between others) bytes (a, b) (now, later))
    second_stops {between = between} {a = a} first p others b later h =
        if_err r (λ i. record { value = (first.value, i.value); rest = i.rest; read = row_read f g bytes first.value after first.read i.value i.rest i.read; left = (subst (between a first.value) (sym first.joined) (p.whole a first.value), i.left) }) h

-- LIVE OR DEAD

module _ {V : Type 0} (f : Format V) (bytes : List ℕ) where
  abbrev as_live : Format (LiftView V)
  as_live = lift_form f 0

  pub live_stands : StandsInFront as_live bytes → StandsInFront f bytes
  live_stands s = let a = bind_ok (f.read bytes) (λ (x : V × List ℕ). Ok (live x.0, x.1)) s.0 s.1 in (a.0, a.1)

  live_read : (v : V) (rest : List ℕ) → f.read bytes ≡ Ok (v, rest) → as_live.read bytes ≡ Ok (live v, rest)
  live_read v rest e = rw e refl

  module _ {T E : Type 0} (r : Result T E) (left : T → List ℕ) where
    pub live_joined : (j : Joining V) (old new : V) → IfOk r (λ x. JoinsFront f j bytes (left x) old new) → IfOk r (λ x. JoinsFront as_live (lift_joining j) bytes (left x) (live old) (live new))
    live_joined j old new h = if_ok r _ _ (λ x i. record { value = live i.value; read = live_read i.value (left x) i.read; joined = ap live i.joined }) h

    pub live_stops : (between : V → V → V → Type 0) (old new : V) → OnErr r (StopsBetween f between bytes old new) → OnErr r (StopsBetween as_live (lift_between between) bytes (live old) (live new))
    live_stops between old new h = if_err r (λ i. record { value = live i.value; rest = i.rest; read = live_read i.value i.rest i.read; left = i.left }) h

-- what is dead stays so
pub dead_stays : {V : Type 0} (j : Joining V) (v : LiftView V) → dead ≡ (lift_joining j).join dead v
dead_stays j (live v) = refl
dead_stays j dead = refl

-- a byte that tells whether it is dead
module _ {V : Type 0} (f : Format V) (tag : LiftView V → ℕ) (bytes : List ℕ) where
  abbrev either_form : Format (LiftView V)
  either_form = tagged (λ t. nat_lt t 2) tag (lift_form f)

  module _ (t : ℕ) (after : List ℕ) (is : byte.read bytes ≡ Ok (t, after)) where
    abbrev form : Format ℕ
    form = only out_of_limits (λ n. nat_lt n 2) byte

    -- the form is known, and a value in it stands behind the byte
    formed : StandsInFront either_form bytes → (nat_lt t 2 ≡ true) × StandsInFront (lift_form f t) after
    formed s =
        let a = bind_ok ((both form (lift_form f)).read bytes) (λ (x : (ℕ × LiftView V) × List ℕ). Ok (x.0.1, x.1)) s.0 s.1 in
        let b = bind_ok (form.read bytes) (λ (x : ℕ × List ℕ). (lift_form f x.0).read x.1 >>= λ y. Ok ((x.0, y.0), y.1)) a.0 a.1 in
        let c = bind_ok (byte.read bytes) (λ (x : ℕ × List ℕ). cond (nat_lt x.0 2) (Ok x) (Err (out_of_limits bytes))) b.0 b.1 in
        let known = guard_ok (nat_lt c.0.0 2) (out_of_limits bytes) c.0 b.0 c.2 in
        let first : c.0 ≡ (t, after) = ok_is c.0 (t, after) (sym c.1 ∙ is) in
        let same : b.0 ≡ (t, after) = sym known.1 ∙ first in
        let d = bind_ok ((lift_form f b.0.0).read b.0.1) (λ (y : LiftView V × List ℕ). Ok ((b.0.0, y.0), y.1)) a.0 b.2 in
        (ap (λ (x : ℕ × List ℕ). nat_lt x.0 2) (sym first) ∙ known.0, (d.0, ap (λ (x : ℕ × List ℕ). (lift_form f x.0).read x.1) (sym same) ∙ d.1))

    form_read : nat_lt t 2 ≡ true → (v : LiftView V) (rest : List ℕ) → (lift_form f t).read after ≡ Ok (v, rest) → either_form.read bytes ≡ Ok (v, rest)
    form_read small v rest e = rw (is, small, e) refl

    module _ (s : StandsInFront either_form bytes) where
      -- it is live
      pub live_behind : t ≡ 0 → StandsInFront (lift_form f 0) after
      live_behind z = subst (λ (n : ℕ). StandsInFront (lift_form f n) after) z (formed s).1

      read_live : t ≡ 0 → (v : LiftView V) (rest : List ℕ) → (lift_form f 0).read after ≡ Ok (v, rest) → either_form.read bytes ≡ Ok (v, rest)
      read_live z v rest e = form_read (formed s).0 v rest (ap (λ (n : ℕ). (lift_form f n).read after) z ∙ e)

      module _ {T E : Type 0} (r : Result T E) (left : T → List ℕ) (z : t ≡ 0) where
        pub lifted_joined : (j : Joining V) (old new : LiftView V) → IfOk r (λ x. JoinsFront (lift_form f 0) (lift_joining j) after (left x) old new) → IfOk r (λ x. JoinsFront either_form (lift_joining j) bytes (left x) old new)
        lifted_joined j old new h = if_ok r _ _ (λ x i. record { value = i.value; read = read_live z i.value (left x) i.read; joined = i.joined }) h

        pub lifted_stops : (between : V → V → V → Type 0) (old new : LiftView V) → OnErr r (StopsBetween (lift_form f 0) (lift_between between) after old new) → OnErr r (StopsBetween either_form (lift_between between) bytes old new)
        lifted_stops between old new h = if_err r (λ i. record { value = i.value; rest = i.rest; read = read_live z i.value i.rest i.read; left = i.left }) h

      -- it is dead, and so is the join
      pub dies : (j : Joining V) → t ≢ 0 → (old : LiftView V) → JoinsFront either_form (lift_joining j) bytes after old dead
      dies j other old = record { value = dead; read = form_read (formed s).0 dead after (gone t other); joined = all_dead old }
        where
          gone : (n : ℕ) → n ≢ 0 → (lift_form f n).read after ≡ Ok (dead, after)
          gone zero other = absurd (other refl)
          gone (suc n) other = refl

          all_dead : (v : LiftView V) → dead ≡ (lift_joining j).join v dead
          all_dead (live v) = refl
          all_dead dead = refl

-- WHAT EACH VERSION SPELLS

pub one_form : (version : Version) → version ≡ One → lifted version ≡ lift_form (context version) 0
unfolding lifted
one_form version is = subst (λ (v : Version). lifted v ≡ lift_form (context v) 0) (sym is) refl

pub two_form : (version : Version) → version ≡ Two → lifted version ≡ tagged (λ t. nat_lt t 2) code_of_lift (lift_form (context version))
unfolding lifted
two_form version is = subst (λ (v : Version). lifted v ≡ tagged (λ t. nat_lt t 2) code_of_lift (lift_form (context v))) (sym is) refl
