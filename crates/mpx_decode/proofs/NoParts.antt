-- Bytes that tell of nothing.
use Rattle.std.proofs.Common.{◌≡◌, ◌≢◌, ℕ, ◌<◌, List, [], ◌∷◌, Result, Ok, Err, IfErr, IfOk, refl, sym, ap, ◌∙◌, arith}
use Rattle.std.specs.declared.cmp.Ordering.{Ordering}
use Rattle.std.specs.Cmp.{IsTotalOrder}
use Rattle.std.specs.FinMap.{FinMap, IsAntisymmetric, empty, entries, entries-from_sorted, from_sorted, get, get-from_sorted, len-empty, len-entries, same_entries_map, same_map}
use Rattle.std.specs.Ordering.{nat_cmp}
use Rattle.std.proofs.lemmas.List.{nil_from_length}
use Rattle.join_core.specs.Joins.{Joining}
use Rattle.join_nest.specs.Keyed.{keyed_joining}
use Rattle.join_nest.specs.Optional.{option_join}
use Rattle.join_nest.specs.laws.Keyed.{get_join}
use Rattle.mpx_name.specs.Order.{name_cmp}
use Rattle.mpx_board.specs.Parts.{LiftedView, OfNames}
use Rattle.mpx_format.specs.declared.versions.Version.{Version}
use Rattle.mpx_format.specs.Contexts.{parts}
use Rattle.mpx_format.specs.Fields.{all_acks, name_count}
use Rattle.mpx_format.specs.declared.defects.ReadError.{ReadError}
use Rattle.mpx_format.specs.declared.defects.ReadError.TheVariants as errors
use Rattle.mpx_format.specs.Format.{Fails, Format, byte, many_read}
use Rattle.mpx_format.proofs.FormatLaws.{ok_is}
use Rattle.mpx_decode.specs.Raising.{JoinsFront, contexts, no_parts, rows}
use Rattle.mpx_decode.proofs.RaisedRows.{join_none}

pub on_each : {T E : Type 0} (r : Result T E) (P : T → Type 0) → ((x : T) → P x) → IfOk r P
on_each (Ok x) P h = h x
on_each (Err e) P h = tt

pub on_any : {T E P : Type 0} (r : Result T E) → P → IfErr r (λ e. P)
on_any (Ok x) p = tt
on_any (Err e) p = p

-- COUNTS

module _ (count : Format ℕ) (bytes : List ℕ) where
  -- a count above 0 isn't 0
  pub not_none : (n : ℕ) (after : List ℕ) → count.read bytes ≡ Ok (n, after) → 0 < n → (rest : List ℕ) → count.read bytes ≢ Ok (0, rest)
  not_none n after read some rest is =
      let same : n ≡ 0 = ap (λ (x : ℕ × List ℕ). x.0) (ok_is (n, after) (0, rest) (sym read ∙ is)) in
      absurd (omega (arith, same, some))

  -- what fails isn't a count of 0
  pub fails_not : (e : ReadError) → Fails e (count.read bytes) → e ≢ errors.OutOfMemory → (rest : List ℕ) → count.read bytes ≢ Ok (0, rest)
  fails_not errors.OutOfMemory fails other rest is = other refl
  fails_not (errors.Defect d) fails other rest is =
      let none : (ℕ × List ℕ) = (0, rest) in
      let clash : Err d ≡ Ok none = sym fails ∙ is in
      absurd cc

  -- there is one count
  pub count_is : (n : ℕ) (after : List ℕ) → count.read bytes ≡ Ok (n, after) → (m : ℕ) (rest : List ℕ) → count.read bytes ≡ Ok (m, rest) → (n ≡ m) × (after ≡ rest)
  count_is n after read m rest is =
      let same : (n, after) ≡ (m, rest) = ok_is (n, after) (m, rest) (sym read ∙ is) in
      (ap (λ (x : ℕ × List ℕ). x.0) same, ap (λ (x : ℕ × List ℕ). x.1) same)

-- nothing is joined by no rows
module _ {K V : Type 0} {R : K → K → Ordering} (o : IsTotalOrder R) (exact : IsAntisymmetric R) (key : Format K) (value : Format V) (j : Joining V) where
  pub no_rows : (n : ℕ) (bytes : List ℕ) (old : FinMap R V) → n ≡ 0 → JoinsFront (rows R key value n) (keyed_joining j) bytes bytes old old
  unfolding many_read
  no_rows n bytes old none = record {
    value = from_sorted [];
    read = ap (λ (k : ℕ). (rows R key value k).read bytes) none;
    joined = same_map o exact _ _ (λ q. sym (get_join o j old (from_sorted []) q ∙ ap (option_join j (get old q)) (get-from_sorted R [] q tt) ∙ join_none j (get old q)));
  }

-- PARTS

entries_none : {K V : Type 0} (R : K → K → Ordering) → entries (empty {X = V} {R = R}) ≡ []
entries_none R = nil_from_length _ (sym (len-entries (empty {R = R})) ∙ len-empty R _)

pub map_none : {K V : Type 0} (R : K → K → Ordering) → from_sorted {X = V} {R = R} [] ≡ empty
map_none R = same_entries_map _ _ (entries-from_sorted R [] tt ∙ sym (entries_none R))

pub three_zeros : (version : Version) → (parts version).spelling no_parts ≡ 0 ∷ 0 ∷ 0 ∷ []
unfolding parts name_count all_acks
three_zeros version = rw (entries_none name_cmp, entries_none nat_cmp) refl

module _ (version : Version) (bytes : List ℕ) (none : bytes ≡ (parts version).spelling no_parts) where
  zeros : bytes ≡ 0 ∷ 0 ∷ 0 ∷ []
  zeros = none ∙ three_zeros version

  pub no_names : name_count.read bytes ≡ Ok (0, 0 ∷ [])
  unfolding name_count
  no_names = ap name_count.read zeros

  pub no_contexts : (c : OfNames LiftedView) (after : List ℕ) → (contexts version).read bytes ≡ Ok (c, after) → (c ≡ empty) × (after ≡ 0 ∷ [])
  unfolding name_count many_read
  no_contexts c after is =
      let read : (contexts version).read bytes ≡ Ok (empty, 0 ∷ []) = ap (contexts version).read zeros ∙ ap (λ (m : OfNames LiftedView). Ok (m, 0 ∷ [])) (map_none name_cmp) in
      let same : (c, after) ≡ (empty, 0 ∷ []) = ok_is (c, after) (empty, 0 ∷ []) (sym is ∙ read) in
      (ap (λ (x : OfNames LiftedView × List ℕ). x.0) same, ap (λ (x : OfNames LiftedView × List ℕ). x.1) same)

  -- the count of acknowledgements behind them
  pub no_acks : (c : OfNames LiftedView) (after : List ℕ) → (contexts version).read bytes ≡ Ok (c, after) → byte.read after ≡ Ok (0, [])
  no_acks c after is = ap byte.read (no_contexts c after is).1
