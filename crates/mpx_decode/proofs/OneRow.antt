-- Rows joined in one after the other.
use Rattle.std.proofs.Common.{◌≡◌, ℕ, ◌<◌, Bool, true, false, cond, List, length, get_or, set, Option, Some, None, Ok, refl, sym, ap, ◌∙◌}
use Rattle.std.proofs.lemmas.List.{get_or_default}
use Rattle.std.specs.List.{insert}
use Rattle.std.specs.Option.{option_map}
use Rattle.std.specs.declared.cmp.Ordering.{Ordering}
use Rattle.std.specs.Ordering.{eq_by_cmp}
use Rattle.std.specs.Cmp.{IsTotalOrder, tied_itself}
use Rattle.std.specs.FinMap.{find, put, is_sorted, IsAntisymmetric}
use Rattle.std.specs.FinMap.Entries.{find-put}
use Rattle.join_core.specs.Joins.{Joining, JoinLaws, BetweenLaws}
use Rattle.join_core.specs.laws.Cases.{answer, yes, no, is_tied}
use Rattle.join_nest.specs.Optional.{option_join}
use Rattle.join_nest.specs.laws.Between.{option_between_laws}
use Rattle.join_nest.specs.Place.{IsAt, IsGap}
use Rattle.join_nest.specs.Seen.{seen}
use Rattle.join_nest.proofs.JoinsIn.{put_keeps_order}
use Rattle.join_nest.proofs.Places.{holds, find_at, find_in_gap, insert_is_put, set_is_put}
use Rattle.join_nest.proofs.Steps.{find_seen}
use Rattle.mpx_format.specs.Format.{Format, ◌>>=◌}
use Rattle.mpx_format.proofs.FormatLaws.{bind_ok, ok_is}
use Rattle.mpx_decode.specs.Raising.{IsJoinedAt, IsLeftAt, JoinsFront, RaisesRow, StandsInFront, StopsBetween, StopsRow, row}

-- ONE ROW

module _ {K J V : Type 0} {R : K → K → Ordering} (o : IsTotalOrder R) (exact : IsAntisymmetric R) (view : J → V) where
  chosen : (b : Bool) (w : J) (f : Option J) → option_map view (cond b (Some w) f) ≡ cond b (Some (view w)) (option_map view f)
  chosen true w f = refl
  chosen false w f = refl

  find_put_seen : (q k : K) (w : J) (es : List (K × J)) → find R q (seen view (put R k w es)) ≡ cond (eq_by_cmp R q k) (Some (view w)) (find R q (seen view es))
  find_put_seen q k w es =
      find_seen R view q (put R k w es)
      ∙ ap (option_map view) (find-put R o q k w es)
      ∙ chosen (eq_by_cmp R q k) w (find R q es)
      ∙ ap (λ f. cond (eq_by_cmp R q k) (Some (view w)) f) (sym (find_seen R view q es))

  -- the place of an entry is that of its key
  pub is_at : (es : List (K × J)) (i : ℕ) (e : K × J) → i < length es → e ≡ get_or es i e → IsAt R es e.0 i
  is_at es i e lt is = record { in_range = lt; has_key = λ d. ap (λ (x : K × J). R x.0 e.0) (get_or_default es i d e lt ∙ sym is) ∙ tied_itself o e.0 }

  -- the entry at the place of a key has that key
  pub key_at : (k : K) (es : List (K × J)) (i : ℕ) (e : K × J) → IsAt R es k i → e ≡ get_or es i e → e.0 ≡ k
  key_at k es i e there is = exact e.0 k (ap (λ (x : K × J). R x.0 k) is ∙ there.has_key e)

  module _ (es : List (K × J)) (h : is_sorted R es ≡ true) where
    module _ (i : ℕ) (e : K × J) (w : J) (lt : i < length es) (is : e ≡ get_or es i e) where
      is_put : set es i (e.0, w) ≡ put R e.0 w es
      is_put = set_is_put o exact e.0 w es i (holds _ h) (is_at es i e lt is)

      pub found : find R e.0 (seen view es) ≡ Some (view e.1)
      found = find_seen R view e.0 es ∙ ap (option_map view) (find_at o e.0 es i e (holds _ h) lt ((is_at es i e lt is).has_key e) ∙ ap (λ (x : K × J). Some x.1) (sym is))

      pub sorted_at : is_sorted R (set es i (e.0, w)) ≡ true
      sorted_at = ap (is_sorted R) is_put ∙ put_keeps_order o e.0 w es h

      pub now_found : (q : K) → find R q (seen view (set es i (e.0, w))) ≡ cond (eq_by_cmp R q e.0) (Some (view w)) (find R q (seen view es))
      now_found q = ap (λ (l : List (K × J)). find R q (seen view l)) is_put ∙ find_put_seen q e.0 w es

      pub joined_at : (j : Joining V) (v : V) → view w ≡ j.join (view e.1) v → IsJoinedAt R view es (set es i (e.0, w)) j e.0 v
      joined_at j v value q = now_found q ∙ ap (λ (f : Option V). cond (eq_by_cmp R q e.0) f (find R q (seen view es))) (ap Some value ∙ sym (ap (λ (f : Option V). option_join j f (Some v)) found))

      pub left_at : {j : Joining V} (p : JoinLaws j) {between : V → V → V → Type 0} (s : BetweenLaws j between) (v : V) → between (view e.1) v (view w) → IsLeftAt R view es (set es i (e.0, w)) between e.0 v
      left_at {j} p {between} s v value q = elim (answer (eq_by_cmp R q e.0)) [
        | yes t ↦
            let same : q ≡ e.0 = exact q e.0 (is_tied _ t) in
            let old : find R q (seen view es) ≡ Some (view e.1) = ap (λ (k : K). find R k (seen view es)) same ∙ found in
            let new : find R q (seen view (set es i (e.0, w))) ≡ Some (view w) = now_found q ∙ ap (λ (b : Bool). cond b (Some (view w)) (find R q (seen view es))) t in
            rw (t, old, new) value
        | no n ↦
            let new : find R q (seen view (set es i (e.0, w))) ≡ find R q (seen view es) = now_found q ∙ ap (λ (b : Bool). cond b (Some (view w)) (find R q (seen view es))) n in
            rw (n, new) ((option_between_laws p s).old (find R q (seen view es)) None)
      ]

    module _ (i : ℕ) (k : K) (w : J) (gap : IsGap R es k i) where
      pub sorted_in : is_sorted R (insert es i (k, w)) ≡ true
      sorted_in = ap (is_sorted R) (insert_is_put o k w es i gap) ∙ put_keeps_order o k w es h

      pub joined_in : (j : Joining V) → IsJoinedAt R view es (insert es i (k, w)) j k (view w)
      joined_in j q =
          let none : find R k (seen view es) ≡ None = find_seen R view k es ∙ ap (option_map view) (find_in_gap o k es i gap) in
          ap (λ (l : List (K × J)). find R q (seen view l)) (insert_is_put o k w es i gap)
          ∙ find_put_seen q k w es
          ∙ ap (λ (f : Option V). cond (eq_by_cmp R q k) f (find R q (seen view es))) (sym (ap (λ (f : Option V). option_join j f (Some (view w))) none))

  pub nothing_changed : {j : Joining V} (p : JoinLaws j) {between : V → V → V → Type 0} (s : BetweenLaws j between) (es : List (K × J)) (k : K) (v : V) → IsLeftAt R view es es between k v
  nothing_changed p s es k v q = (option_between_laws p s).old (find R q (seen view es)) (cond (eq_by_cmp R q k) (Some v) None)

module _ {K V : Type 0} (key : Format K) (value : Format V) (bytes : List ℕ) (k : K) (after : List ℕ) (is : key.read bytes ≡ Ok (k, after)) where
  -- behind the key stands its value
  pub value_stands : StandsInFront (row key value) bytes → StandsInFront value after
  value_stands s =
      let a = bind_ok (key.read bytes) (λ (x : K × List ℕ). value.read x.1 >>= λ y. Ok ((x.0, y.0), y.1)) s.0 s.1 in
      let same : a.0 ≡ (k, after) = ok_is a.0 (k, after) (sym a.1 ∙ is) in
      let b = bind_ok (value.read a.0.1) (λ (y : V × List ℕ). Ok ((a.0.0, y.0), y.1)) s.0 a.2 in
      (b.0, ap (λ (x : K × List ℕ). value.read x.1) (sym same) ∙ b.1)

  pub row_read : (v : V) (rest : List ℕ) → value.read after ≡ Ok (v, rest) → (row key value).read bytes ≡ Ok ((k, v), rest)
  row_read v rest e = rw (is, e) refl

-- what stands at the place of the key, under another value
module _ {K J V : Type 0} {R : K → K → Ordering} (o : IsTotalOrder R) (exact : IsAntisymmetric R) (view : J → V) (key : Format K) (value : Format V) (bytes : List ℕ) (k : K) (after : List ℕ) (is : key.read bytes ≡ Ok (k, after)) (es : List (K × J)) (h : is_sorted R es ≡ true) where
  module _ (i : ℕ) (e : K × J) (w : J) (lt : i < length es) (there : e ≡ get_or es i e) (same : e.0 ≡ k) where
    read_there : (v : V) (rest : List ℕ) → value.read after ≡ Ok (v, rest) → (row key value).read bytes ≡ Ok ((e.0, v), rest)
    read_there v rest r = row_read key value bytes k after is v rest r ∙ ap (λ (x : K). Ok ((x, v), rest)) (sym same)

    pub raises_at : (j : Joining V) (rest : List ℕ) → JoinsFront value j after rest (view e.1) (view w) → RaisesRow R view (row key value) j bytes rest es (set es i (e.0, w))
    raises_at j rest r = record { key = e.0; value = r.value; read = read_there r.value rest r.read; joined = joined_at o exact view es h i e w lt there j r.value r.joined }

    pub stops_at : {j : Joining V} (p : JoinLaws j) {between : V → V → V → Type 0} (s : BetweenLaws j between) → StopsBetween value between after (view e.1) (view w) → StopsRow R view (row key value) between bytes es (set es i (e.0, w))
    stops_at p s r = record { key = e.0; value = r.value; rest = r.rest; read = read_there r.value r.rest r.read; left = left_at o exact view es h i e w lt there p s r.value r.left }

  module _ (i : ℕ) (gap : IsGap R es k i) (w : J) (rest : List ℕ) (r : value.read after ≡ Ok (view w, rest)) where
    pub raises_in : (j : Joining V) → RaisesRow R view (row key value) j bytes rest es (insert es i (k, w))
    raises_in j = record { key = k; value = view w; read = row_read key value bytes k after is (view w) rest r; joined = joined_in o exact view es h i k w gap j }

-- the row is passed over
pub stops_before : {K J V : Type 0} {R : K → K → Ordering} (o : IsTotalOrder R) (exact : IsAntisymmetric R) (view : J → V) (f : Format (K × V)) {j : Joining V} (p : JoinLaws j) {between : V → V → V → Type 0} (s : BetweenLaws j between) (bytes : List ℕ) (es : List (K × J)) → StandsInFront f bytes → StopsRow R view f between bytes es es
stops_before o exact view f p s bytes es stands = record { key = stands.0.0.0; value = stands.0.0.1; rest = stands.0.1; read = stands.1; left = nothing_changed o exact view p s es stands.0.0.0 stands.0.0.1 }
