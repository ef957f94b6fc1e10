-- The dropped front and the calls behind it, as they stand in frames.
use Rattle.std.proofs.Common.{◌≡◌, ◌≢◌, ℕ, max, nat_le, Bool, true, false, cond, List, [], Option, Some, None, Result, Ok, Err, IfOk, OnErr, refl, sym, ap, ◌∙◌, subst, inr, arith}
use Rattle.std.proofs.lemmas.Bool.Decides.{nat_tests}
use Rattle.std.specs.Int.{w32}
use Rattle.std.specs.Ordering.{nat_cmp}
use Rattle.std.specs.Cmp.{nat_cmp_total}
use Rattle.std.specs.FinMap.{FinMap, from_sorted, get}
use Rattle.join_core.specs.Joins.{Joining}
use Rattle.join_core.specs.laws.Cases.{answer, yes, no}
use Rattle.join_nest.specs.Between.{option_between, trunc_between}
use Rattle.join_nest.specs.Optional.{option_join}
use Rattle.join_nest.specs.Keyed.{keyed_joining}
use Rattle.join_nest.specs.laws.Keyed.{get_join}
use Rattle.join_nest.specs.Cut.{cut}
use Rattle.join_nest.specs.laws.Cut.{get_cut}
use Rattle.join_nest.specs.Trunc.{TruncView, drop_below, trunc_joining, trunc_of}
use Rattle.join_nest.specs.laws.Trunc.{get_dropped, same_trunc}
use Rattle.mpx_board.specs.Parts.{CallView, call_between, call_joining}
use Rattle.mpx_format.specs.declared.defects.Defect.{Defect}
use Rattle.mpx_format.specs.declared.defects.ReadError.{ReadError}
use Rattle.mpx_format.specs.declared.defects.ReadError.TheVariants as errors
use Rattle.mpx_format.specs.declared.versions.Version.{Version}
use Rattle.mpx_format.specs.Contexts.{call_posts, calls, held, trunc_from}
use Rattle.mpx_format.specs.Fields.{call}
use Rattle.mpx_format.specs.Format.{Format, Fails, ◌>>=◌, many_read, number}
use Rattle.mpx_format.specs.Rising.{always, entry}
use Rattle.mpx_format.proofs.FormatLaws.{bind_ok, ok_is}
use Rattle.mpx_decode.specs.Raising.{JoinsFront, RaisesCalls, StandsInFront, StopsBetween, StopsCalls, rows}
use Rattle.mpx_decode.proofs.Stricter.{rows_asked}
use Rattle.mpx_decode.proofs.Taken.{if_err, if_ok}

-- JOINED ABOVE A FRONT

module _ {V : Type 0} where
  kept_in : (d : ℕ) (m : FinMap nat_cmp V) (q : ℕ) → nat_le d q ≡ true → get (cut d m) q ≡ get m q
  kept_in d m q t = get_cut d m q ∙ ap (λ (b : Bool). cond b (get m q) None) t

  cut_off : (d : ℕ) (m : FinMap nat_cmp V) (q : ℕ) → nat_le d q ≡ false → get (cut d m) q ≡ None
  cut_off d m q n = get_cut d m q ∙ ap (λ (b : Bool). cond b (get m q) None) n

left_of : (a d q : ℕ) → nat_le (max a d) q ≡ true → nat_le a q ≡ true
left_of a d q t = grind (arith, nat_tests)

right_of : (a d q : ℕ) → nat_le (max a d) q ≡ true → nat_le d q ≡ true
right_of a d q t = grind (arith, nat_tests)

module _ {V : Type 0} (old : TruncView V) (d : ℕ) (m : FinMap nat_cmp V) where
  abbrev front : ℕ
  front = max old.dropped d

  -- what is at or above the greater front is joined, once all below it is dropped
  pub dropped_first : (j : Joining V) → trunc_of front ((keyed_joining j).join (cut front old.calls) m) ≡ (trunc_joining j).join old (trunc_of d m)
  dropped_first j = same_trunc _ _ refl (λ q. elim (answer (nat_le front q)) [
    | yes t ↦
        kept_in front ((keyed_joining j).join (cut front old.calls) m) q t
        ∙ get_join nat_cmp_total j (cut front old.calls) m q
        ∙ (λ i. option_join j (kept_in front old.calls q t i) (sym (kept_in d m q (right_of old.dropped d q t)) i))
        ∙ sym (get_join nat_cmp_total j old.calls (cut d m) q)
        ∙ sym (kept_in front ((keyed_joining j).join old.calls (cut d m)) q t)
    | no n ↦ cut_off front ((keyed_joining j).join (cut front old.calls) m) q n ∙ sym (cut_off front ((keyed_joining j).join old.calls (cut d m)) q n)
  ])

  module _ (between : V → V → V → Type 0) (new : TruncView V) (same : new.dropped ≡ front) (left : (q : ℕ) → nat_le front q ≡ true → option_between between (get (cut front old.calls) q) (get m q) (get new.calls q)) where
    at_call : (q : ℕ) → option_between between (get (cut front old.calls) q) (get (cut front (cut d m)) q) (get new.calls q)
    at_call q = elim (answer (nat_le front q)) [
      | yes t ↦
          let there : get m q ≡ get (cut front (cut d m)) q = sym (kept_in d m q (right_of old.dropped d q t)) ∙ sym (kept_in front (cut d m) q t) in
          subst (λ (f : Option V). option_between between (get (cut front old.calls) q) f (get new.calls q)) there (left q t)
      | no n ↦
          let gone : get new.calls q ≡ None = get_dropped new q (ap (λ (x : ℕ). nat_le x q) same ∙ n) in
          subst (λ (t : Option V × Option V). option_between between t.0 t.1 (get new.calls q)) (λ i. (sym (cut_off front old.calls q n) i, sym (cut_off front (cut d m) q n) i)) gone
    ]

    pub left_between : trunc_between between old (trunc_of d m) new
    left_between = (inr same, subst (λ (x : ℕ). (q : ℕ) → option_between between (get (cut x old.calls) q) (get (cut x (cut d m)) q) (get new.calls q)) (sym same) at_call)

-- READ

-- the first number is read
pub front_stands : (version : Version) (bytes : List ℕ) (e : ReadError) → Fails e ((number w32).read bytes) → e ≢ errors.OutOfMemory → StandsInFront (held version) bytes → ⊥
unfolding held
front_stands version bytes errors.OutOfMemory fails other s = other refl
front_stands version bytes (errors.Defect d) fails other s =
    let none : (held version).read bytes ≡ Err d = rw fails refl in
    let clash : Err d ≡ Ok s.0 = sym none ∙ s.1 in
    absurd cc

module _ (version : Version) (bytes after : List ℕ) (d : ℕ) (first : (number w32).read bytes ≡ Ok (d, after)) where
  module _ (behind : List ℕ) (n : ℕ) (second : (number w32).read after ≡ Ok (n, behind)) where
    abbrev each : List (ℕ × CallView) → Format (ℕ × CallView)
    each = entry nat_cmp (Some d) call (call_posts version) always

    abbrev held_then : Result (List (ℕ × CallView) × List ℕ) Defect → Result (TruncView CallView × List ℕ) Defect
    held_then r =
        ◌>>=◌ {B = TruncView CallView × List ℕ}
        (◌>>=◌ {B = (ℕ × List (ℕ × CallView)) × List ℕ} (◌>>=◌ {B = List (ℕ × CallView) × List ℕ} (◌>>=◌ {B = (ℕ × List (ℕ × CallView)) × List ℕ} r (λ b. Ok ((n, b.0), b.1))) (λ x. Ok (x.0.1, x.1))) (λ b. Ok ((d, b.0), b.1)))
        (λ x. Ok (trunc_from x.0, x.1))

    regroup : (r : Result (List (ℕ × CallView) × List ℕ) Defect) → held_then r ≡ ◌>>=◌ {B = TruncView CallView × List ℕ} r (λ x. Ok (trunc_of d (from_sorted x.0), x.1))
    regroup (Ok x) = refl
    regroup (Err e) = refl

    held_behind : (held version).read bytes ≡ ◌>>=◌ {B = TruncView CallView × List ℕ} (many_read each n [] behind) (λ x. Ok (trunc_of d (from_sorted x.0), x.1))
    unfolding held calls
    held_behind = rw (first, second) (regroup (many_read each n [] behind))

    module _ (s : StandsInFront (held version) bytes) where
      read_calls : (x : List (ℕ × CallView) × List ℕ) × (many_read each n [] behind ≡ Ok x)
      read_calls = let a = bind_ok (many_read each n [] behind) (λ (x : List (ℕ × CallView) × List ℕ). Ok (trunc_of d (from_sorted x.0), x.1)) s.0 (sym held_behind ∙ s.1) in (a.0, a.1)

      as_rows : (rows nat_cmp call (call_posts version) n).read behind ≡ Ok (from_sorted read_calls.0.0, read_calls.0.1)
      as_rows = rows_asked nat_cmp (Some d) call (call_posts version) always n behind read_calls.0 read_calls.1

      -- the calls stand behind both
      pub calls_stand : StandsInFront (rows nat_cmp call (call_posts version) n) behind
      calls_stand = ((from_sorted read_calls.0.0, read_calls.0.1), as_rows)

      held_again : (m : FinMap nat_cmp CallView) (rest : List ℕ) → (rows nat_cmp call (call_posts version) n).read behind ≡ Ok (m, rest) → (held version).read bytes ≡ Ok (trunc_of d m, rest)
      held_again m rest e =
          let same : (from_sorted read_calls.0.0, read_calls.0.1) ≡ (m, rest) = ok_is (from_sorted read_calls.0.0, read_calls.0.1) (m, rest) (sym as_rows ∙ e) in
          held_behind ∙ rw read_calls.1 (ap (λ (x : FinMap nat_cmp CallView × List ℕ). Ok (trunc_of d x.0, x.1)) same)

      module _ {T E : Type 0} (r : Result T E) (left : T → List ℕ) (old mid new : TruncView CallView) (drops : mid ≡ drop_below d old) where
        pub held_joined : IfOk r (λ x. RaisesCalls (rows nat_cmp call (call_posts version) n) call_joining behind (left x) mid new) → IfOk r (λ x. JoinsFront (held version) (trunc_joining call_joining) bytes (left x) old new)
        held_joined h = if_ok r _ _ (λ x g. record {
          value = trunc_of d g.calls;
          read = held_again g.calls (left x) g.read;
          joined = g.joined ∙ ap (λ (t : TruncView CallView). trunc_of t.dropped ((keyed_joining call_joining).join t.calls g.calls)) drops ∙ dropped_first old d g.calls call_joining;
        }) h

        pub held_left : OnErr r (StopsCalls (rows nat_cmp call (call_posts version) n) call_between behind mid new) → OnErr r (StopsBetween (held version) (trunc_between call_between) bytes old new)
        held_left h = if_err r (λ g. record {
          value = trunc_of d g.calls;
          rest = g.rest;
          read = held_again g.calls g.rest g.read;
          left = left_between old d g.calls call_between new (g.dropped ∙ ap (λ (t : TruncView CallView). t.dropped) drops)
              (subst (λ (t : TruncView CallView). (q : ℕ) → nat_le t.dropped q ≡ true → option_between call_between (get t.calls q) (get g.calls q) (get new.calls q)) drops g.left);
        }) h
