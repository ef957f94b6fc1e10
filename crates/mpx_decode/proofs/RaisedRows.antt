-- So many rows joined in, one after the other.
use Rattle.std.proofs.Common.{◌≡◌, ℕ, zero, suc, ◌-◌, ◌+◌, ◌<◌, ◌≤◌, Bool, true, cond, List, [], ◌∷◌, ◌++◌, Option, Some, None, Ok, Err, refl, sym, ap, ◌∙◌, subst, append_assoc, arith}
use Rattle.std.proofs.lemmas.Bool.{and_parts}
use Rattle.std.proofs.lemmas.List.{append-nil}
use Rattle.std.specs.declared.cmp.Ordering.{Ordering}
use Rattle.std.specs.declared.cmp.Ordering.TheVariants.{Less, Greater}
use Rattle.std.specs.Ordering.{eq_by_cmp, is_lt, ordering_reverse}
use Rattle.std.specs.Cmp.{IsTotalOrder}
use Rattle.std.specs.FinMap.{FinMap, find, is_sorted, from_sorted, get-from_sorted, same_map, IsAntisymmetric}
use Rattle.std.specs.FinMap.Entries.{below_all}
use Rattle.join_core.specs.Joins.{Joining, JoinLaws, BetweenLaws}
use Rattle.join_core.specs.laws.Cases.{answer, yes, no, is_tied}
use Rattle.join_nest.specs.Optional.{option_join}
use Rattle.join_nest.specs.Between.{option_between, keyed_between}
use Rattle.join_nest.specs.laws.Between.{option_between_laws}
use Rattle.join_nest.specs.Keyed.{keyed_joining}
use Rattle.join_nest.specs.laws.Keyed.{get_join}
use Rattle.join_nest.specs.Seen.{seen, keyed_view}
use Rattle.join_nest.proofs.Places.{holds}
use Rattle.join_nest.proofs.Steps.{find_seen}
use Rattle.join_nest.proofs.Views.{get_view}
use Rattle.mpx_format.specs.Format.{Format, ◌>>=◌, both, many_read, not_canonical, only}
use Rattle.mpx_format.specs.Rising.{always, entry, last_of, may_come}
use Rattle.mpx_format.proofs.FormatLaws.{bind_ok, guard_ok, ok_is}
use Rattle.mpx_format.proofs.Rows.{is_less, sorted_push}
use Rattle.mpx_decode.specs.Raising.{JoinsFront, RaisesRow, StandsInFront, StopsBetween, StopsRow, row, rows}
use Rattle.mpx_decode.proofs.OneRow.{row_read}
use Rattle.mpx_decode.proofs.Loop.{ReadSoFar, begins, goes_on, is_done}

-- ENTRIES THAT ARE READ

abbrev pub either : {V : Type 0} → Option V → Option V → Option V
either None b = b
either (Some a) b = Some a

module _ {K V : Type 0} {R : K → K → Ordering} (o : IsTotalOrder R) where
  pub find_append : (q : K) (front more : List (K × V)) → find R q (front ++ more) ≡ either (find R q front) (find R q more)
  find_append q [] more = refl
  find_append q (e ∷ front) more = elim (answer (eq_by_cmp R q e.0)) [ yes t ↦ rw t refl | no n ↦ rw n (find_append q front more) ]

  below_end : (x : K) (front : List (K × V)) (e : K × V) → below_all R x (front ++ e ∷ []) ≡ true → R x e.0 ≡ Less
  below_end x [] e h = is_less _ (and_parts (is_lt (R x e.0)) true h).0
  below_end x (y ∷ front) e h = below_end x front e (and_parts (is_lt (R x y.0)) (below_all R x (front ++ e ∷ [])) h).1

  -- a key above all is none of them
  pub find_above : (front : List (K × V)) (e : K × V) → is_sorted R (front ++ e ∷ []) ≡ true → find R e.0 front ≡ None
  find_above [] e h = refl
  find_above (x ∷ front) e h =
      let parts = and_parts (below_all R x.0 (front ++ e ∷ [])) (is_sorted R (front ++ e ∷ [])) h in
      let over : R e.0 x.0 ≡ Greater = o.antisymm e.0 x.0 ∙ ap ordering_reverse (below_end x.0 front e parts.0) in
      rw over (find_above front e parts.1)

module _ {K V : Type 0} (R : K → K → Ordering) (key : Format K) (value : Format V) (before : List (K × V)) (left : List ℕ) where
  -- an entry is a row whose key may come next
  pub entry_row : (x : (K × V) × List ℕ) → (entry R None key value always before).read left ≡ Ok x → ((row key value).read left ≡ Ok x) × (may_come R None (last_of before) x.0.0 ≡ true)
  entry_row x e =
      let keyed = only not_canonical (may_come R None (last_of before)) key in
      let a = bind_ok ((both keyed (λ k. value)).read left) (λ (y : (K × V) × List ℕ). Ok y) x e in
      let b = bind_ok (keyed.read left) (λ (y : K × List ℕ). value.read y.1 >>= λ z. Ok ((y.0, z.0), z.1)) a.0 a.1 in
      let c = bind_ok (key.read left) (λ (y : K × List ℕ). cond (may_come R None (last_of before) y.0) (Ok y) (Err (not_canonical left))) b.0 b.1 in
      let g = guard_ok (may_come R None (last_of before) c.0.0) (not_canonical left) c.0 b.0 c.2 in
      let d = bind_ok (value.read b.0.1) (λ (z : V × List ℕ). Ok ((b.0.0, z.0), z.1)) a.0 b.2 in
      let same : ((b.0.0, d.0.0), d.0.1) ≡ x = ok_is ((b.0.0, d.0.0), d.0.1) x (d.2 ∙ a.2) in
      let is : key.read left ≡ Ok b.0 = c.1 ∙ ap Ok g.1 in
      let read : (row key value).read left ≡ Ok ((b.0.0, d.0.0), d.0.1) = row_read key value left b.0.0 b.0.1 is d.0.0 d.0.1 d.1 in
      let may : may_come R None (last_of before) b.0.0 ≡ true = ap (λ (y : K × List ℕ). may_come R None (last_of before) y.0) (sym g.1) ∙ g.0 in
      (read ∙ ap Ok same, ap (λ (y : (K × V) × List ℕ). may_come R None (last_of before) y.0.0) (sym same) ∙ may)

module _ {K V : Type 0} {R : K → K → Ordering} (o : IsTotalOrder R) (key : Format K) (value : Format V) where
  abbrev each : List (K × V) → Format (K × V)
  each = entry R None key value always

  -- entries that are read rise
  pub many_sorted : (n : ℕ) (before : List (K × V)) (bytes : List ℕ) (x : List (K × V) × List ℕ) → is_sorted R before ≡ true → many_read each n before bytes ≡ Ok x → is_sorted R (before ++ x.0) ≡ true
  unfolding many_read
  many_sorted zero before bytes x h e =
      let same : ([], bytes) ≡ x = ok_is ([], bytes) x e in
      subst (λ (y : List (K × V) × List ℕ). is_sorted R (before ++ y.0) ≡ true) same (ap (is_sorted R) (append-nil before) ∙ h)
  many_sorted (suc n) before bytes x h e =
      let a = bind_ok ((each before).read bytes) (λ (v : (K × V) × List ℕ). many_read each n (before ++ v.0 ∷ []) v.1 >>= λ vs. Ok (v.0 ∷ vs.0, vs.1)) x e in
      let b = bind_ok (many_read each n (before ++ a.0.0 ∷ []) a.0.1) (λ (vs : List (K × V) × List ℕ). Ok (a.0.0 ∷ vs.0, vs.1)) x a.2 in
      let same : (a.0.0 ∷ b.0.0, b.0.1) ≡ x = ok_is (a.0.0 ∷ b.0.0, b.0.1) x b.2 in
      let may = (entry_row R key value before bytes a.0 a.1).1 in
      let rest = many_sorted n (before ++ a.0.0 ∷ []) a.0.1 b.0 (sorted_push o None before a.0.0 h may) b.1 in
      subst (λ (y : List (K × V) × List ℕ). is_sorted R (before ++ y.0) ≡ true) same (subst (λ (l : List (K × V)). is_sorted R l ≡ true) (append_assoc before (a.0.0 ∷ []) b.0.0) rest)

-- the entry that is read next, and those after it
pub record Next {V : Type 0} (f : List V → Format V) (front : List V) (left : List ℕ) (all : List V) : Type 0 where
  pub here : V
  pub after : List ℕ
  pub more : List V
  pub read : (f front).read left ≡ Ok (here, after)
  pub whole : all ≡ front ++ here ∷ more

pub next_read : {V : Type 0} (f : List V → Format V) (front : List V) (count i : ℕ) (left bytes : List ℕ) (x : List V × List ℕ) → i < count → ReadSoFar f count i front left bytes → many_read f count [] bytes ≡ Ok x → Next f front left x.0
unfolding many_read
next_read {V} f front count i left bytes x lt so_far e =
    let k : count - i ≡ suc (count - (i + 1)) = omega arith in
    let a = bind_ok (many_read f (count - i) front left) (λ (y : List V × List ℕ). Ok (front ++ y.0, y.1)) x (so_far ∙ e) in
    let one : many_read f (suc (count - (i + 1))) front left ≡ Ok a.0 = ap (λ n. many_read f n front left) (sym k) ∙ a.1 in
    let b = bind_ok ((f front).read left) (λ (v : V × List ℕ). many_read f (count - (i + 1)) (front ++ v.0 ∷ []) v.1 >>= λ vs. Ok (v.0 ∷ vs.0, vs.1)) a.0 one in
    let c = bind_ok (many_read f (count - (i + 1)) (front ++ b.0.0 ∷ []) b.0.1) (λ (vs : List V × List ℕ). Ok (b.0.0 ∷ vs.0, vs.1)) a.0 b.2 in
    let whole : (front ++ a.0.0, a.0.1) ≡ x = ok_is (front ++ a.0.0, a.0.1) x a.2 in
    let split : (b.0.0 ∷ c.0.0, c.0.1) ≡ a.0 = ok_is (b.0.0 ∷ c.0.0, c.0.1) a.0 c.2 in
    record {
      here = b.0.0;
      after = b.0.1;
      more = c.0.0;
      read = b.1;
      whole = ap (λ (y : List V × List ℕ). y.0) (sym whole) ∙ ap (λ (y : List V × List ℕ). front ++ y.0) (sym split);
    }

-- THE LOOP

-- so many rows are read, and joined into the entries
pub record SoFar {K J V : Type 0} (R : K → K → Ordering) (key : Format K) (value : Format V) (view : J → V) (j : Joining V) (count i : ℕ) (left bytes : List ℕ) (old now : List (K × J)) : Type 0 where
  pub front : List (K × V)
  pub read : ReadSoFar (entry R None key value always) count i front left bytes
  pub rise : is_sorted R front ≡ true
  pub joined : (q : K) → find R q (seen view now) ≡ option_join j (find R q (seen view old)) (find R q front)

pub join_none : {V : Type 0} (j : Joining V) (a : Option V) → option_join j a None ≡ a
join_none j None = refl
join_none j (Some a) = refl

pub kept : {V : Type 0} (between : V → V → V → Type 0) (a m : Option V) → option_between between a None m → m ≡ a
kept between None m h = h
kept between (Some a) m h = h

module _ {K V : Type 0} (R : K → K → Ordering) (key : Format K) (value : Format V) (count : ℕ) (bytes : List ℕ) where
  abbrev all_rows : Format (FinMap R V)
  all_rows = rows R key value count

  -- entries are read where rows are
  pub entries_read : (x : FinMap R V × List ℕ) → all_rows.read bytes ≡ Ok x → (y : List (K × V) × List ℕ) × (many_read (entry R None key value always) count [] bytes ≡ Ok y)
  entries_read x e =
      let a = bind_ok (many_read (entry R None key value always) count [] bytes) (λ (y : List (K × V) × List ℕ). Ok (from_sorted {R = R} y.0, y.1)) x e in
      (a.0, a.1)

  pub rows_read : (y : List (K × V) × List ℕ) → many_read (entry R None key value always) count [] bytes ≡ Ok y → all_rows.read bytes ≡ Ok (from_sorted {R = R} y.0, y.1)
  rows_read y e = rw e refl

module _ {K J V : Type 0} {R : K → K → Ordering} (o : IsTotalOrder R) (exact : IsAntisymmetric R) (key : Format K) (value : Format V) (view : J → V) {j : Joining V} (count : ℕ) (bytes : List ℕ) (old : List (K × J)) where
  pub none_yet : SoFar R key value view j count 0 bytes bytes old old
  none_yet = record {
    front = [];
    read = begins (entry R None key value always) count bytes;
    rise = refl;
    joined = λ q. sym (join_none j (find R q (seen view old)));
  }

  -- a row stands at the front of what is left
  pub row_stands : (i : ℕ) (left : List ℕ) (now : List (K × J)) → i < count → SoFar R key value view j count i left bytes old now → StandsInFront (rows R key value count) bytes → StandsInFront (row key value) left
  row_stands i left now lt so_far s =
      let y = entries_read R key value count bytes s.0 s.1 in
      let n = next_read (entry R None key value always) so_far.front count i left bytes y.0 lt so_far.read y.1 in
      ((n.here, n.after), (entry_row R key value so_far.front left (n.here, n.after) n.read).0)

  -- one row more
  pub one_more : (i : ℕ) (left after : List ℕ) (now next : List (K × J)) → i < count → SoFar R key value view j count i left bytes old now → StandsInFront (rows R key value count) bytes → RaisesRow R view (row key value) j left after now next → SoFar R key value view j count (i + 1) after bytes old next
  one_more i left after now next lt so_far s r =
      let y = entries_read R key value count bytes s.0 s.1 in
      let n = next_read (entry R None key value always) so_far.front count i left bytes y.0 lt so_far.read y.1 in
      let e = entry_row R key value so_far.front left (n.here, n.after) n.read in
      let same : (n.here, n.after) ≡ ((r.key, r.value), after) = ok_is (n.here, n.after) ((r.key, r.value), after) (sym e.0 ∙ r.read) in
      let may : may_come R None (last_of so_far.front) r.key ≡ true = ap (λ (x : (K × V) × List ℕ). may_come R None (last_of so_far.front) x.0.0) (sym same) ∙ e.1 in
      let rise = sorted_push o None so_far.front (r.key, r.value) so_far.rise may in
      let front = so_far.front in
      record {
        front = front ++ (r.key, r.value) ∷ [];
        read = goes_on (entry R None key value always) front count i left bytes (r.key, r.value) after lt (n.read ∙ ap Ok same) so_far.read;
        rise = rise;
        joined = λ q. r.joined q ∙ elim (answer (eq_by_cmp R q r.key)) [
          | yes t ↦
              let tied : q ≡ r.key = exact q r.key (is_tied _ t) in
              let none : find R r.key front ≡ None = find_above o front (r.key, r.value) rise in
              let before : find R r.key (seen view now) ≡ find R r.key (seen view old) = so_far.joined r.key ∙ ap (option_join j (find R r.key (seen view old))) none ∙ join_none j (find R r.key (seen view old)) in
              let there : find R q (front ++ (r.key, r.value) ∷ []) ≡ Some r.value =
              find_append o q front ((r.key, r.value) ∷ []) ∙ ap (λ (f : Option V). either f (find R q ((r.key, r.value) ∷ []))) (ap (λ (k : K). find R k front) tied ∙ none) ∙ ap (λ (b : Bool). cond b (Some r.value) None) t in
              ap (λ (b : Bool). cond b (option_join j (find R r.key (seen view now)) (Some r.value)) (find R q (seen view now))) t
              ∙ ap (λ (f : Option V). option_join j f (Some r.value)) (before ∙ ap (λ (k : K). find R k (seen view old)) (sym tied))
              ∙ sym (ap (option_join j (find R q (seen view old))) there)
          | no u ↦
              let there : find R q (front ++ (r.key, r.value) ∷ []) ≡ find R q front =
              find_append o q front ((r.key, r.value) ∷ []) ∙ ap (λ (b : Bool). either (find R q front) (cond b (Some r.value) None)) u ∙ or_none (find R q front) in
              ap (λ (b : Bool). cond b (option_join j (find R r.key (seen view now)) (Some r.value)) (find R q (seen view now))) u
              ∙ so_far.joined q
              ∙ sym (ap (option_join j (find R q (seen view old))) there)
        ];
      }
    where
      or_none : (f : Option V) → either f None ≡ f
      or_none None = refl
      or_none (Some v) = refl

  -- all rows are joined in
  pub all_raised : (i : ℕ) (left : List ℕ) (now : List (K × J)) → count ≤ i → is_sorted R old ≡ true → is_sorted R now ≡ true → SoFar R key value view j count i left bytes old now → JoinsFront (rows R key value count) (keyed_joining j) bytes left (keyed_view R view old) (keyed_view R view now)
  all_raised i left now le hold hnow so_far =
      let front = so_far.front in
      record {
        value = from_sorted front;
        read = rows_read R key value count bytes (front, left) (is_done (entry R None key value always) front count i left bytes le so_far.read);
        joined = same_map o exact _ _ (λ q.
            get_view R view now q hnow ∙ sym (find_seen R view q now)
            ∙ so_far.joined q
            ∙ (λ t. option_join j ((find_seen R view q old ∙ sym (get_view R view old q hold)) t) (sym (get-from_sorted R front q (holds _ so_far.rise)) t))
            ∙ sym (get_join o j (keyed_view R view old) (from_sorted front) q));
      }

  module _ (p : JoinLaws j) {between : V → V → V → Type 0} (s : BetweenLaws j between) where
    -- a row was joined in in part, and those behind it not at all
    pub stops_there : (i : ℕ) (left : List ℕ) (now next : List (K × J)) → i < count → is_sorted R old ≡ true → is_sorted R next ≡ true → SoFar R key value view j count i left bytes old now → StandsInFront (rows R key value count) bytes → StopsRow R view (row key value) between left now next
        → StopsBetween (rows R key value count) (keyed_between between) bytes (keyed_view R view old) (keyed_view R view next)
    stops_there i left now next lt hold hnext so_far stands r =
        let y = entries_read R key value count bytes stands.0 stands.1 in
        let n = next_read (entry R None key value always) so_far.front count i left bytes y.0 lt so_far.read y.1 in
        let e = entry_row R key value so_far.front left (n.here, n.after) n.read in
        let same : (n.here, n.after) ≡ ((r.key, r.value), r.rest) = ok_is (n.here, n.after) ((r.key, r.value), r.rest) (sym e.0 ∙ r.read) in
        let here : n.here ≡ (r.key, r.value) = ap (λ (x : (K × V) × List ℕ). x.0) same in
        let may : may_come R None (last_of so_far.front) r.key ≡ true = ap (λ (x : K × V). may_come R None (last_of so_far.front) x.0) (sym here) ∙ e.1 in
        let rise = sorted_push o None so_far.front (r.key, r.value) so_far.rise may in
        let front = so_far.front in
        let all = y.0.0 in
        let whole : all ≡ front ++ (r.key, r.value) ∷ n.more = n.whole ∙ ap (λ (x : K × V). front ++ x ∷ n.more) here in
        let sorted : is_sorted R all ≡ true = many_sorted o key value count [] bytes y.0 refl y.1 in
        record {
          value = from_sorted all;
          rest = y.0.1;
          read = rows_read R key value count bytes y.0 y.1;
          left = λ q.
              subst (λ (t : Option V × Option V × Option V). option_between between t.0 t.1 t.2)
              (λ t. ((find_seen R view q old ∙ sym (get_view R view old q hold)) t, sym (get-from_sorted R all q (holds _ sorted)) t, (find_seen R view q next ∙ sym (get_view R view next q hnext)) t))
              (subst (λ (l : List (K × V)). option_between between (find R q (seen view old)) (find R q l) (find R q (seen view next))) (sym whole) (at r.key r.value front n.more rise r.left so_far.joined q));
        }
      where
        at : (k : K) (v : V) (front more : List (K × V)) → is_sorted R (front ++ (k, v) ∷ []) ≡ true
            → ((q : K) → option_between between (find R q (seen view now)) (cond (eq_by_cmp R q k) (Some v) None) (find R q (seen view next)))
            → ((q : K) → find R q (seen view now) ≡ option_join j (find R q (seen view old)) (find R q front))
            → (q : K) → option_between between (find R q (seen view old)) (find R q (front ++ (k, v) ∷ more)) (find R q (seen view next))
        at k v front more rise l joined q = elim (answer (eq_by_cmp R q k)) [
          | yes t ↦
              let tied : q ≡ k = exact q k (is_tied _ t) in
              let none : find R q front ≡ None = ap (λ (x : K). find R x front) tied ∙ find_above o front (k, v) rise in
              let before : find R q (seen view now) ≡ find R q (seen view old) = joined q ∙ ap (option_join j (find R q (seen view old))) none ∙ join_none j (find R q (seen view old)) in
              let there : find R q (front ++ (k, v) ∷ more) ≡ Some v = find_append o q front ((k, v) ∷ more) ∙ ap (λ (f : Option V). either f (find R q ((k, v) ∷ more))) none ∙ ap (λ (b : Bool). cond b (Some v) (find R q more)) t in
              let given : option_between between (find R q (seen view now)) (Some v) (find R q (seen view next)) = subst (λ (b : Bool). option_between between (find R q (seen view now)) (cond b (Some v) None) (find R q (seen view next))) t (l q) in
              subst (λ (f : Option V). option_between between (find R q (seen view old)) f (find R q (seen view next))) (sym there) (subst (λ (f : Option V). option_between between f (Some v) (find R q (seen view next))) before given)
          | no u ↦
              let given : option_between between (find R q (seen view now)) None (find R q (seen view next)) = subst (λ (b : Bool). option_between between (find R q (seen view now)) (cond b (Some v) None) (find R q (seen view next))) u (l q) in
              let stays : find R q (seen view next) ≡ option_join j (find R q (seen view old)) (find R q front) = kept between (find R q (seen view now)) (find R q (seen view next)) given ∙ joined q in
              let there : find R q (front ++ (k, v) ∷ more) ≡ either (find R q front) (find R q more) = find_append o q front ((k, v) ∷ more) ∙ ap (λ (b : Bool). either (find R q front) (cond b (Some v) (find R q more))) u in
              subst (λ (f : Option V). option_between between (find R q (seen view old)) f (find R q (seen view next))) (sym there)
              (subst (λ (f : Option V). option_between between (find R q (seen view old)) (either (find R q front) (find R q more)) f) (sym stays) (passed (find R q (seen view old)) (find R q front) (find R q more)))
        ]
          where
            passed : (a f m : Option V) → option_between between a (either f m) (option_join j a f)
            passed a None m = subst (option_between between a m) (sym (join_none j a)) ((option_between_laws p s).old a m)
            passed a (Some w) m = (option_between_laws p s).whole a (Some w)
