-- Rows that tell nothing new: joined in, they change nothing.
use Rattle.std.proofs.Common.{◌≡◌, ℕ, ◌+◌, ◌≤◌, ◌<◌, Bool, true, cond, List, [], ◌++◌, Option, Some, Ok, length, get_or, refl, sym, ap, ◌∙◌, subst, arith}
use Rattle.std.proofs.Math.Nat.{max-eq_left}
use Rattle.std.specs.declared.cmp.Ordering.{Ordering}
use Rattle.std.specs.Ordering.{eq_by_cmp, nat_cmp}
use Rattle.std.specs.Cmp.{IsTotalOrder, nat_cmp_total}
use Rattle.std.specs.FinMap.{IsAntisymmetric, find, is_sorted, nat_cmp-IsAntisymmetric}
use Rattle.join_core.specs.Joins.{Joining}
use Rattle.join_core.specs.Max.{max_joining}
use Rattle.join_core.specs.declared.max.Max.{Max}
use Rattle.join_core.specs.laws.Cases.{answer, yes, no, is_tied}
use Rattle.join_nest.specs.Keyed.{keyed_joining}
use Rattle.join_nest.specs.Optional.{option_join}
use Rattle.join_nest.specs.Seen.{keyed_view, seen}
use Rattle.mpx_name.specs.Name.{Name}
use Rattle.mpx_name.specs.Order.{name_cmp, name_exact, name_total}
use Rattle.mpx_board.specs.Parts.{OfProcesses, numbers_joining}
use Rattle.mpx_format.specs.Format.{Format}
use Rattle.mpx_format.specs.Fields.{name, numbers, process, some_byte, some_calls}
use Rattle.mpx_format.proofs.FieldLaws.{process_laws, some_byte_laws, some_calls_laws}
use Rattle.mpx_format.proofs.FormatLaws.{both_laws}
use Rattle.mpx_num.proofs.Spellings.{IsBytes}
use Rattle.mpx_decode.specs.Raising.{IsJoinedAt, JoinsFront, RaisesRow, RaisesRows, StandsInFront, row, rows}
use Rattle.mpx_decode.proofs.Fours.{ReadsRow, number_of, rows_so_far}
use Rattle.mpx_decode.proofs.NearBytes.{left_bytes, read_on, rows_on}
use Rattle.mpx_decode.proofs.OneRow.{found, row_read, value_stands}
use Rattle.mpx_decode.proofs.RaisedRows.{SoFar, all_raised, entry_row, none_yet}
use Rattle.mpx_decode.proofs.RightRows.{row_is_entry}
use Rattle.mpx_decode.proofs.Taken.{rows_behind, rows_stand}

-- a value that is below the one at its key changes nothing
pub joined_below : {K J V : Type 0} {R : K → K → Ordering} (o : IsTotalOrder R) (exact : IsAntisymmetric R) (view : J → V) (es : List (K × J)) → is_sorted R es ≡ true → (i : ℕ) (e : K × J) → i < length es → e ≡ get_or es i e
    → (j : Joining V) (v : V) → view e.1 ≡ j.join (view e.1) v → IsJoinedAt R view es es j e.0 v
joined_below {K} {J} {V} {R} o exact view es h i e lt is j v below q =
    let there = found o exact view es h i e e.1 lt is in
    let else_there : Bool → Option V = λ b. cond b (option_join j (find R e.0 (seen view es)) (Some v)) (find R q (seen view es)) in
    elim (answer (eq_by_cmp R q e.0)) [
      | yes t ↦
          let same : q ≡ e.0 = exact q e.0 (is_tied _ t) in
          ap (λ k. find R k (seen view es)) same ∙ there ∙ ap Some below
          ∙ sym (ap (λ (f : Option V). option_join j f (Some v)) there)
          ∙ sym (ap else_there t)
      | no n ↦ sym (ap else_there n)
    ]

-- a number that isn't greater than that of its process
pub told_row : (es : List (ℕ × Max)) → is_sorted nat_cmp es ≡ true → (at : ℕ) → at < length es → (e : ℕ × Max) → e ≡ get_or es at e → (p n : ℕ) → p ≡ e.0 → p < 64 → 0 < n → n ≤ e.1.0
    → (bytes after : List ℕ) → ReadsRow bytes after p n → RaisesRow nat_cmp number_of (row process some_calls) max_joining bytes after es es
told_row es h at lt e is p n key small some le bytes after reads = record {
  key = e.0;
  value = n;
  read = (entry_row nat_cmp process some_calls [] bytes ((p, n), after) (row_is_entry [] bytes after p n reads small some refl)).0 ∙ ap (λ (k : ℕ). Ok ((k, n), after)) key;
  joined = joined_below nat_cmp_total nat_cmp-IsAntisymmetric number_of es h at e lt is max_joining n (sym (max-eq_left le));
}

-- rows of which none changes anything are all of a map
pub told_rows : (es : List (ℕ × Max)) → is_sorted nat_cmp es ≡ true → (bytes rest more : List ℕ) → IsBytes bytes → RaisesRows nat_cmp number_of (row process some_calls) max_joining (length es) bytes rest es es
    → StandsInFront (rows nat_cmp process some_calls (length es)) (bytes ++ more)
    → JoinsFront (rows nat_cmp process some_calls (length es)) (keyed_joining max_joining) (bytes ++ more) (rest ++ more) (keyed_view nat_cmp number_of es) (keyed_view nat_cmp number_of es)
told_rows es h bytes rest more are r stands =
    let n = length es in
    let from_start : 0 + n ≡ n = omega arith in
    let on = rows_on nat_cmp number_of (both_laws process_laws (λ a fits. some_calls_laws)) max_joining n bytes rest more es es are r in
    let so_far = rows_so_far nat_cmp_total nat_cmp-IsAntisymmetric process some_calls number_of n (bytes ++ more) es n 0 (bytes ++ more) (rest ++ more) es es (omega arith)
    (none_yet nat_cmp_total nat_cmp-IsAntisymmetric process some_calls number_of n (bytes ++ more) es) stands on in
    all_raised nat_cmp_total nat_cmp-IsAntisymmetric process some_calls number_of n (bytes ++ more) es n (rest ++ more) es (omega arith) h h
    (subst (λ (i : ℕ). SoFar nat_cmp process some_calls number_of max_joining n i (rest ++ more) (bytes ++ more) es es) from_start so_far)

-- numbers of which none is new
pub told_numbers : (m : OfProcesses ℕ) (es : List (ℕ × Max)) → is_sorted nat_cmp es ≡ true → m ≡ keyed_view nat_cmp number_of es → (bytes rest after more : List ℕ) → IsBytes bytes → some_byte.read bytes ≡ Ok (length es, rest)
    → RaisesRows nat_cmp number_of (row process some_calls) max_joining (length es) rest after es es → StandsInFront numbers (bytes ++ more) → JoinsFront numbers numbers_joining (bytes ++ more) (after ++ more) m m
unfolding numbers
told_numbers m es h is bytes rest after more are count r stands =
    let n = length es in
    let on = read_on some_byte_laws bytes rest n are count more in
    let g = told_rows es h rest after more (left_bytes some_byte_laws bytes rest n are count) r (rows_stand nat_cmp some_byte process some_calls (bytes ++ more) n (rest ++ more) on stands) in
    record {
      value = g.value;
      read = rows_behind nat_cmp some_byte process some_calls (bytes ++ more) n (rest ++ more) on ∙ g.read;
      joined = is ∙ g.joined ∙ ap (λ (o : OfProcesses ℕ). numbers_joining.join o g.value) (sym is);
    }

-- a row that changes nothing at its key
pub told_at : {K J V : Type 0} {R : K → K → Ordering} (o : IsTotalOrder R) (exact : IsAntisymmetric R) (view : J → V) (key : Format K) (value : Format V) (j : Joining V) (es : List (K × J)) → is_sorted R es ≡ true → (at : ℕ) → at < length es → (e : K × J) → e ≡ get_or es at e
    → (bytes after rest : List ℕ) → key.read bytes ≡ Ok (e.0, after) → JoinsFront value j after rest (view e.1) (view e.1) → RaisesRow R view (row key value) j bytes rest es es
told_at o exact view key value j es h at lt e is bytes after rest read g = record {
  key = e.0;
  value = g.value;
  read = row_read key value bytes e.0 after read g.value rest g.read;
  joined = joined_below o exact view es h at e lt is j g.value g.joined;
}

-- a row whose numbers change nothing at its name
pub told_entry : {J : Type 0} (view : J → OfProcesses ℕ) (es : List (Name × J)) → is_sorted name_cmp es ≡ true → (at : ℕ) → at < length es → (e : Name × J) → e ≡ get_or es at e → (bytes after rest : List ℕ) → name.read bytes ≡ Ok (e.0, after)
    → StandsInFront (row name numbers) bytes → (StandsInFront numbers after → JoinsFront numbers numbers_joining after rest (view e.1) (view e.1)) → RaisesRow name_cmp view (row name numbers) numbers_joining bytes rest es es
told_entry view es h at lt e is bytes after rest read stands told =
    told_at name_total name_exact view name numbers numbers_joining es h at lt e is bytes after rest read (told (value_stands name numbers bytes e.0 after read stands))
