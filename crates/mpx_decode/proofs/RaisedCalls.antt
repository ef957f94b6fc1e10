-- So many calls joined to those held above a dropped front, one after the other.
use Rattle.std.proofs.Common.{◌≡◌, ℕ, ◌+◌, ◌<◌, ◌≤◌, nat_le, Bool, true, false, cond, List, [], ◌∷◌, ◌++◌, Option, Some, None, Ok, refl, sym, ap, ◌∙◌, subst, arith}
use Rattle.std.proofs.lemmas.Bool.Decides.{nat_tests}
use Rattle.std.specs.Ordering.{eq_by_cmp, nat_cmp}
use Rattle.std.specs.Cmp.{nat_cmp_total}
use Rattle.std.specs.FinMap.{FinMap, find, is_sorted, from_sorted, get, get-from_sorted, insert, nat_cmp-IsAntisymmetric}
use Rattle.join_core.specs.Joins.{Joining, JoinLaws, BetweenLaws}
use Rattle.join_core.specs.laws.Cases.{answer, yes, no, is_tied}
use Rattle.join_nest.specs.Optional.{option_join}
use Rattle.join_nest.specs.Between.{option_between}
use Rattle.join_nest.specs.laws.Between.{option_between_laws}
use Rattle.join_nest.specs.Keyed.{keyed_joining}
use Rattle.join_nest.specs.laws.Keyed.{get_join}
use Rattle.join_nest.specs.laws.Cut.{get_cut}
use Rattle.join_nest.specs.Trunc.{TruncView, trunc_of}
use Rattle.join_nest.specs.laws.Trunc.{get_dropped, same_trunc}
use Rattle.join_nest.proofs.Places.{holds}
use Rattle.mpx_board.proofs.Setting.{IsSet, set_by_insert}
use Rattle.mpx_format.specs.Fields.{call}
use Rattle.mpx_format.specs.Format.{Format}
use Rattle.mpx_format.specs.Rising.{always, entry, last_of, may_come}
use Rattle.mpx_format.proofs.FormatLaws.{ok_is}
use Rattle.mpx_format.proofs.Rows.{sorted_push}
use Rattle.mpx_decode.specs.Raising.{JoinsFront, PutsCall, RaisesCall, RaisesCalls, StandsInFront, StopsBetween, StopsCall, StopsCalls, row, rows}
use Rattle.mpx_decode.proofs.Loop.{ReadSoFar, begins, goes_on, is_done}
use Rattle.mpx_decode.proofs.OneRow.{row_read}
use Rattle.mpx_decode.proofs.RaisedRows.{either, entries_read, entry_row, find_above, find_append, join_none, kept, many_sorted, next_read, rows_read}

-- ONE MORE ENTRY, AT EACH CALL

or_none : {V : Type 0} (f : Option V) → either f None ≡ f
or_none None = refl
or_none (Some v) = refl

module _ {V : Type 0} (k : ℕ) (v : V) (front : List (ℕ × V)) (rise : is_sorted nat_cmp (front ++ (k, v) ∷ []) ≡ true) (q : ℕ) where
  none_before : eq_by_cmp nat_cmp q k ≡ true → find nat_cmp q front ≡ None
  none_before t = ap (λ (x : ℕ). find nat_cmp x front) (nat_cmp-IsAntisymmetric q k (is_tied _ t)) ∙ find_above nat_cmp_total front (k, v) rise

  found_here : (more : List (ℕ × V)) → eq_by_cmp nat_cmp q k ≡ true → find nat_cmp q (front ++ (k, v) ∷ more) ≡ Some v
  found_here more t =
      find_append nat_cmp_total q front ((k, v) ∷ more) ∙ ap (λ (f : Option V). either f (find nat_cmp q ((k, v) ∷ more))) (none_before t) ∙ ap (λ (b : Bool). cond b (Some v) (find nat_cmp q more)) t

  found_else : (more : List (ℕ × V)) → eq_by_cmp nat_cmp q k ≡ false → find nat_cmp q (front ++ (k, v) ∷ more) ≡ either (find nat_cmp q front) (find nat_cmp q more)
  found_else more u = find_append nat_cmp_total q front ((k, v) ∷ more) ∙ ap (λ (b : Bool). either (find nat_cmp q front) (cond b (Some v) (find nat_cmp q more))) u

  module _ (j : Joining V) (old now : Option V) (so_far : now ≡ option_join j old (find nat_cmp q front)) where
    as_before : eq_by_cmp nat_cmp q k ≡ true → now ≡ old
    as_before t = so_far ∙ ap (option_join j old) (none_before t) ∙ join_none j old

    push_joined : (next : Option V) → next ≡ cond (eq_by_cmp nat_cmp q k) (option_join j now (Some v)) now → next ≡ option_join j old (find nat_cmp q (front ++ (k, v) ∷ []))
    push_joined next is = is ∙ elim (answer (eq_by_cmp nat_cmp q k)) [
      | yes t ↦ ap (λ (b : Bool). cond b (option_join j now (Some v)) now) t ∙ ap (λ (f : Option V). option_join j f (Some v)) (as_before t) ∙ sym (ap (option_join j old) (found_here [] t))
      | no u ↦ ap (λ (b : Bool). cond b (option_join j now (Some v)) now) u ∙ so_far ∙ sym (ap (option_join j old) (found_else [] u ∙ or_none (find nat_cmp q front)))
    ]

    module _ (p : JoinLaws j) {between : V → V → V → Type 0} (s : BetweenLaws j between) where
      passed : (a f m : Option V) → option_between between a (either f m) (option_join j a f)
      passed a None m = subst (option_between between a m) (sym (join_none j a)) ((option_between_laws p s).old a m)
      passed a (Some w) m = (option_between_laws p s).whole a (Some w)

      push_left : (more : List (ℕ × V)) (next : Option V) → option_between between now (cond (eq_by_cmp nat_cmp q k) (Some v) None) next → option_between between old (find nat_cmp q (front ++ (k, v) ∷ more)) next
      push_left more next l = elim (answer (eq_by_cmp nat_cmp q k)) [
        | yes t ↦
            let given : option_between between now (Some v) next = subst (λ (b : Bool). option_between between now (cond b (Some v) None) next) t l in
            subst (λ (f : Option V). option_between between old f next) (sym (found_here more t)) (subst (λ (f : Option V). option_between between f (Some v) next) (as_before t) given)
        | no u ↦
            let given : option_between between now None next = subst (λ (b : Bool). option_between between now (cond b (Some v) None) next) u l in
            let stays : next ≡ option_join j old (find nat_cmp q front) = kept between now next given ∙ so_far in
            subst (λ (f : Option V). option_between between old f next) (sym (found_else more u))
            (subst (λ (f : Option V). option_between between old (either (find nat_cmp q front) (find nat_cmp q more)) f) (sym stays) (passed old (find nat_cmp q front) (find nat_cmp q more)))
      ]

-- THE LOOP

-- so many calls are read, and those at or above the dropped front joined in
pub record CallsSoFar {V : Type 0} (value : Format V) (j : Joining V) (count i : ℕ) (left bytes : List ℕ) (old now : TruncView V) : Type 0 where
  pub front : List (ℕ × V)
  pub read : ReadSoFar (entry nat_cmp None call value always) count i front left bytes
  pub rise : is_sorted nat_cmp front ≡ true
  pub dropped : now.dropped ≡ old.dropped
  pub joined : (q : ℕ) → nat_le old.dropped q ≡ true → get now.calls q ≡ option_join j (get old.calls q) (find nat_cmp q front)

module _ {V : Type 0} (value : Format V) (count : ℕ) (bytes : List ℕ) (old : TruncView V) where
  abbrev each : List (ℕ × V) → Format (ℕ × V)
  each = entry nat_cmp None call value always

  pub no_call_yet : {j : Joining V} → CallsSoFar value j count 0 bytes bytes old old
  no_call_yet {j} = record { front = []; read = begins each count bytes; rise = refl; dropped = refl; joined = λ q le. sym (join_none j (get old.calls q)) }

  module _ (i : ℕ) (left : List ℕ) (now : TruncView V) where
    -- a call stands at the front of what is left
    pub call_stands : {j : Joining V} → i < count → CallsSoFar value j count i left bytes old now → StandsInFront (rows nat_cmp call value count) bytes → StandsInFront (row call value) left
    call_stands {j} lt so_far s =
        let y = entries_read nat_cmp call value count bytes s.0 s.1 in
        let n = next_read each so_far.front count i left bytes y.0 lt so_far.read y.1 in
        ((n.here, n.after), (entry_row nat_cmp call value so_far.front left (n.here, n.after) n.read).0)

    -- one call more
    pub one_call_more : {j : Joining V} (after : List ℕ) (next : TruncView V) → i < count → CallsSoFar value j count i left bytes old now → StandsInFront (rows nat_cmp call value count) bytes → RaisesCall (row call value) j left after now next → CallsSoFar value j count (i + 1) after bytes old next
    one_call_more {j} after next lt so_far s r =
        let y = entries_read nat_cmp call value count bytes s.0 s.1 in
        let n = next_read each so_far.front count i left bytes y.0 lt so_far.read y.1 in
        let e = entry_row nat_cmp call value so_far.front left (n.here, n.after) n.read in
        let same : (n.here, n.after) ≡ ((r.key, r.value), after) = ok_is (n.here, n.after) ((r.key, r.value), after) (sym e.0 ∙ r.read) in
        let may : may_come nat_cmp None (last_of so_far.front) r.key ≡ true = ap (λ (x : (ℕ × V) × List ℕ). may_come nat_cmp None (last_of so_far.front) x.0.0) (sym same) ∙ e.1 in
        let rise = sorted_push nat_cmp_total None so_far.front (r.key, r.value) so_far.rise may in
        record {
          front = so_far.front ++ (r.key, r.value) ∷ [];
          read = goes_on each so_far.front count i left bytes (r.key, r.value) after lt (n.read ∙ ap Ok same) so_far.read;
          rise = rise;
          dropped = r.dropped ∙ so_far.dropped;
          joined = λ q le.
              push_joined r.key r.value so_far.front rise q j (get old.calls q) (get now.calls q) (so_far.joined q le) (get next.calls q) (r.joined q (ap (λ (d : ℕ). nat_le d q) so_far.dropped ∙ le));
        }

    cut_in : (m : FinMap nat_cmp V) (q : ℕ) (b : Bool) → nat_le old.dropped q ≡ b → get (trunc_of old.dropped m).calls q ≡ cond b (get m q) None
    cut_in m q b t = get_cut old.dropped m q ∙ ap (λ (x : Bool). cond x (get m q) None) t

    -- all calls are joined in
    pub all_calls_raised : {j : Joining V} → count ≤ i → CallsSoFar value j count i left bytes old now → RaisesCalls (rows nat_cmp call value count) j bytes left old now
    all_calls_raised {j} le so_far =
        let front = so_far.front in
        let whole : FinMap nat_cmp V = (keyed_joining j).join old.calls (from_sorted front) in
        record {
          calls = from_sorted front;
          read = rows_read nat_cmp call value count bytes (front, left) (is_done each front count i left bytes le so_far.read);
          joined = same_trunc now (trunc_of old.dropped whole) so_far.dropped (λ q. elim (answer (nat_le old.dropped q)) [
            | yes t ↦
                so_far.joined q t
                ∙ ap (option_join j (get old.calls q)) (sym (get-from_sorted nat_cmp front q (holds _ so_far.rise)))
                ∙ sym (get_join nat_cmp_total j old.calls (from_sorted front) q)
                ∙ sym (cut_in whole q true t)
            | no n ↦ get_dropped now q (ap (λ (d : ℕ). nat_le d q) so_far.dropped ∙ n) ∙ sym (cut_in whole q false n)
          ]);
        }

    -- a call was joined in in part, and those behind it not at all
    pub stops_at_call : {j : Joining V} (p : JoinLaws j) {between : V → V → V → Type 0} (s : BetweenLaws j between) (next : TruncView V) → i < count → CallsSoFar value j count i left bytes old now → StandsInFront (rows nat_cmp call value count) bytes → StopsCall (row call value) between left now next
        → StopsCalls (rows nat_cmp call value count) between bytes old next
    stops_at_call {j} p {between} s next lt so_far stands r =
        let y = entries_read nat_cmp call value count bytes stands.0 stands.1 in
        let n = next_read each so_far.front count i left bytes y.0 lt so_far.read y.1 in
        let e = entry_row nat_cmp call value so_far.front left (n.here, n.after) n.read in
        let same : (n.here, n.after) ≡ ((r.key, r.value), r.rest) = ok_is (n.here, n.after) ((r.key, r.value), r.rest) (sym e.0 ∙ r.read) in
        let here : n.here ≡ (r.key, r.value) = ap (λ (x : (ℕ × V) × List ℕ). x.0) same in
        let may : may_come nat_cmp None (last_of so_far.front) r.key ≡ true = ap (λ (x : ℕ × V). may_come nat_cmp None (last_of so_far.front) x.0) (sym here) ∙ e.1 in
        let rise = sorted_push nat_cmp_total None so_far.front (r.key, r.value) so_far.rise may in
        let whole : y.0.0 ≡ so_far.front ++ (r.key, r.value) ∷ n.more = n.whole ∙ ap (λ (x : ℕ × V). so_far.front ++ x ∷ n.more) here in
        let sorted : is_sorted nat_cmp y.0.0 ≡ true = many_sorted nat_cmp_total call value count [] bytes y.0 refl y.1 in
        record {
          calls = from_sorted y.0.0;
          rest = y.0.1;
          read = rows_read nat_cmp call value count bytes y.0 y.1;
          dropped = r.dropped ∙ so_far.dropped;
          left = λ q le.
              subst (λ (f : Option V). option_between between (get old.calls q) f (get next.calls q)) (ap (find nat_cmp q) (sym whole) ∙ sym (get-from_sorted nat_cmp y.0.0 q (holds _ sorted)))
              (push_left r.key r.value so_far.front rise q j (get old.calls q) (get now.calls q) (so_far.joined q le) p s n.more (get next.calls q) (r.left q (ap (λ (d : ℕ). nat_le d q) so_far.dropped ∙ le)));
        }

-- ONE CALL

chosen_both : {A : Type 0} (b : Bool) (x y z : A) → (b ≡ true → x ≡ y) → cond b x z ≡ cond b y z
chosen_both true x y z h = h refl
chosen_both false x y z h = refl

not_chosen : {A : Type 0} (b : Bool) (y z : A) → (b ≡ true → ⊥) → z ≡ cond b y z
not_chosen true y z h = absurd (h refl)
not_chosen false y z h = refl

at_or_kept : {V : Type 0} (between : V → V → V → Type 0) (b : Bool) (old : Option V) (v u : V) → (b ≡ true → option_between between old (Some v) (Some u)) → option_between between old None old → option_between between old (cond b (Some v) None) (cond b (Some u) old)
at_or_kept between true old v u h kept = h refl
at_or_kept between false old v u h kept = kept

module _ {V : Type 0} (value : Format V) (bytes after : List ℕ) (k : ℕ) (is : call.read bytes ≡ Ok (k, after)) (old new : TruncView V) (same : new.dropped ≡ old.dropped) where
  -- it is held
  module _ (w u : V) (held : Some w ≡ get old.calls k) (set : IsSet nat_cmp old.calls new.calls k u) where
    there : (q : ℕ) → eq_by_cmp nat_cmp q k ≡ true → get old.calls q ≡ Some w
    there q t = ap (get old.calls) (nat_cmp-IsAntisymmetric q k (is_tied _ t)) ∙ sym held

    pub held_raised : (j : Joining V) (rest : List ℕ) → JoinsFront value j after rest w u → RaisesCall (row call value) j bytes rest old new
    held_raised j rest r = record {
      key = k;
      value = r.value;
      read = row_read call value bytes k after is r.value rest r.read;
      dropped = same;
      joined = λ q le.
          set.gets q ∙ chosen_both (eq_by_cmp nat_cmp q k) (Some u) (option_join j (get old.calls q) (Some r.value)) (get old.calls q) (λ t. ap Some r.joined ∙ sym (ap (λ (f : Option V). option_join j f (Some r.value)) (there q t)));
    }

    pub held_stops : {j : Joining V} (p : JoinLaws j) {between : V → V → V → Type 0} (s : BetweenLaws j between) → StopsBetween value between after w u → StopsCall (row call value) between bytes old new
    held_stops p {between} s r = record {
      key = k;
      value = r.value;
      rest = r.rest;
      read = row_read call value bytes k after is r.value r.rest r.read;
      dropped = same;
      left = λ q le.
          subst (option_between between (get old.calls q) (cond (eq_by_cmp nat_cmp q k) (Some r.value) None)) (sym (set.gets q))
          (at_or_kept between (eq_by_cmp nat_cmp q k) (get old.calls q) r.value u (λ t. subst (λ (f : Option V). option_between between f (Some r.value) (Some u)) (sym (there q t)) r.left) ((option_between_laws p s).old (get old.calls q) None));
    }

  -- it is new, and is put in
  new_raised : (j : Joining V) (v : V) (rest : List ℕ) → value.read after ≡ Ok (v, rest) → None ≡ get old.calls k → IsSet nat_cmp old.calls new.calls k v → RaisesCall (row call value) j bytes rest old new
  new_raised j v rest read none set = record {
    key = k;
    value = v;
    read = row_read call value bytes k after is v rest read;
    dropped = same;
    joined = λ q le.
        set.gets q ∙ chosen_both (eq_by_cmp nat_cmp q k) (Some v) (option_join j (get old.calls q) (Some v)) (get old.calls q) (λ t. sym (ap (λ (f : Option V). option_join j f (Some v)) (absent q t)));
  } where
    absent : (q : ℕ) → eq_by_cmp nat_cmp q k ≡ true → get old.calls q ≡ None
    absent q t = ap (get old.calls) (nat_cmp-IsAntisymmetric q k (is_tied _ t)) ∙ sym none

  -- it is below the dropped front, and passed over
  passed_over : (j : Joining V) (v : V) (rest : List ℕ) → value.read after ≡ Ok (v, rest) → nat_le old.dropped k ≡ false → ((q : ℕ) → get new.calls q ≡ get old.calls q) → RaisesCall (row call value) j bytes rest old new
  passed_over j v rest read below stays = record {
    key = k;
    value = v;
    read = row_read call value bytes k after is v rest read;
    dropped = same;
    joined = λ q le.
        stays q ∙ not_chosen (eq_by_cmp nat_cmp q k) (option_join j (get old.calls q) (Some v)) (get old.calls q)
        (λ t. let clash : true ≡ false = sym le ∙ ap (nat_le old.dropped) (nat_cmp-IsAntisymmetric q k (is_tied _ t)) ∙ below in absurd cc);
  }

  -- one of both
  pub put_raised : (j : Joining V) (mid : TruncView V) → mid.dropped ≡ old.dropped → mid.calls ≡ old.calls → None ≡ get old.calls k → (rest : List ℕ) → PutsCall value k after rest mid new → RaisesCall (row call value) j bytes rest old new
  put_raised j mid front calls none rest r =
      let put : new.calls ≡ cond (nat_le old.dropped k) (insert old.calls k r.value) old.calls = r.put ∙ λ i. cond (nat_le (front i) k) (insert (calls i) k r.value) (calls i) in
      elim (answer (nat_le old.dropped k)) [
        | yes t ↦ new_raised j r.value rest r.read none (set_by_insert nat_cmp_total old.calls new.calls k r.value (put ∙ ap (λ (b : Bool). cond b (insert old.calls k r.value) old.calls) t))
        | no n ↦ passed_over j r.value rest r.read n (λ q. ap (λ (m : FinMap nat_cmp V). get m q) (put ∙ ap (λ (b : Bool). cond b (insert old.calls k r.value) old.calls) n))
      ]

-- nothing is done
pub call_stays : {V : Type 0} (value : Format V) (bytes : List ℕ) {j : Joining V} (p : JoinLaws j) {between : V → V → V → Type 0} (s : BetweenLaws j between) (old new : TruncView V) → StandsInFront (row call value) bytes → new.dropped ≡ old.dropped → ((q : ℕ) → get new.calls q ≡ get old.calls q)
    → StopsCall (row call value) between bytes old new
call_stays value bytes p {between} s old new stands same stays = record {
  key = stands.0.0.0;
  value = stands.0.0.1;
  rest = stands.0.1;
  read = stands.1;
  dropped = same;
  left = λ q le. subst (option_between between (get old.calls q) (cond (eq_by_cmp nat_cmp q stands.0.0.0) (Some stands.0.0.1) None)) (sym (stays q)) ((option_between_laws p s).old (get old.calls q) (cond (eq_by_cmp nat_cmp q stands.0.0.0) (Some stands.0.0.1) None));
}

-- PUT IN OR LEFT OUT

pub below_front : (d k : ℕ) → k < d → nat_le d k ≡ false
below_front d k lt = grind (arith, nat_tests)

pub from_front : (d k : ℕ) → d ≤ k → nat_le d k ≡ true
from_front d k le = grind (arith, nat_tests)

module _ {V : Type 0} (value : Format V) (k : ℕ) (bytes rest : List ℕ) (v : V) (read : value.read bytes ≡ Ok (v, rest)) (old new : TruncView V) where
  pub left_out : k < old.dropped → new.calls ≡ old.calls → PutsCall value k bytes rest old new
  left_out lt stays = record { value = v; read = read; put = stays ∙ sym (ap (λ (b : Bool). cond b (insert old.calls k v) old.calls) (below_front old.dropped k lt)) }

  pub put_in : old.dropped ≤ k → new.calls ≡ insert old.calls k v → PutsCall value k bytes rest old new
  put_in le put = record { value = v; read = read; put = put ∙ sym (ap (λ (b : Bool). cond b (insert old.calls k v) old.calls) (from_front old.dropped k le)) }
