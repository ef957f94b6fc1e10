-- The board of a run says just what the entries of the run say.
use Rattle.std.proofs.Common.{◌≡◌, ◌≤◌, ◌<◌, ℕ, Bool, true, List, [], ◌∷◌, length, Option, Some, None, refl, sym, ap, ◌∙◌, subst, arith}
use Rattle.std.specs.Prelude.{All, not, IfSome}
use Rattle.std.specs.List.{list_all}
use Rattle.std.proofs.lemmas.Bool.Decides.{nat_tests}
use Rattle.std.specs.declared.cmp.Ordering.{Ordering}
use Rattle.std.specs.Ordering.{nat_cmp}
use Rattle.std.specs.FinMap.{FinMap, empty, entries, from_sorted, len, len-entries}
use Rattle.std.proofs.lemmas.List.Elements.{All-nil, All-cons, All-head}
use Rattle.join_core.specs.laws.Cases.{both_true}
use Rattle.join_nest.specs.Seen.{seen}
use Rattle.join_nest.proofs.Views.{entries_of}
use Rattle.join_nest.proofs.Steps.{length_seen}
use Rattle.mpx_name.specs.Name.{Name}
use Rattle.mpx_name.specs.Order.{name_cmp}
use Rattle.mpx_board.specs.Boards.{Fact}
use Rattle.mpx_board.specs.Looks.{parts_of}
use Rattle.mpx_board.specs.declared.board.Board.{Board}
use Rattle.mpx_board.specs.Parts.{OfProcesses, LiftedView, AcksView, PartsView}
use Rattle.mpx_board.specs.Tidy.{is_bare, is_tidy_lifted, are_tidy_entries, is_tidy_numbers, are_tidy_numbers, is_tidy_acks, are_tidy_acks, is_tidy}
use Rattle.mpx_format.specs.Encoding.{length_told}
use Rattle.mpx_delta.specs.Facts.{SaysLifted, SaysNumbers, SaysAcks, SaysParts}
use Rattle.mpx_delta.specs.Pieces.{IsPiece, IsEntryRun, most_of_piece}
use Rattle.mpx_delta.proofs.Made.{no_entry, All-none, all_none, is_piece}

-- the map of a run has its entries
run_entries : {K J V : Type 0} (R : K → K → Ordering) (view : J → V) (test : K × V → Bool) (es : List (K × J)) (m : FinMap R V) → IsEntryRun R view test es → m ≡ from_sorted (seen view es) → entries m ≡ seen view es
run_entries R view test es m run is = ap entries is ∙ entries_of R view es run.rising

-- CONTEXTS

module _ {J : Type 0} (view : J → LiftedView) (es : List (Name × J)) (run : IsEntryRun name_cmp view (λ e. is_tidy_lifted e.1) es) (v : PartsView) (is : v ≡ (from_sorted (seen view es), empty)) where
  context_entries : entries v.0 ≡ seen view es
  context_entries = run_entries name_cmp view (λ e. is_tidy_lifted e.1) es v.0 run (ap (λ x. x.0) is)

  no_acks : entries v.1 ≡ []
  no_acks = no_entry nat_cmp v.1 (ap (λ x. x.1) is)

  pub contexts_tidy : is_tidy v ≡ true
  contexts_tidy = both_true (are_tidy_entries v.0) (are_tidy_acks v.1) (ap (list_all (λ e. is_tidy_lifted e.1)) context_entries ∙ run.pass) (all_none (λ e. is_tidy_acks e.1) (entries v.1) no_acks)

  contexts_say : (P : Fact → Type 0) → All (SaysLifted P) (seen view es) → SaysParts P v
  contexts_say P all = record { contexts = subst (All (SaysLifted P)) (sym context_entries) all; acks = All-none (SaysAcks P) (entries v.1) no_acks }

  say_contexts : (P : Fact → Type 0) → SaysParts P v → All (SaysLifted P) (seen view es)
  say_contexts P says = subst (All (SaysLifted P)) context_entries says.contexts

pub contexts_piece : {J : Type 0} (view : J → LiftedView) (es : List (Name × J)) (b : Board) → IsEntryRun name_cmp view (λ e. is_tidy_lifted e.1) es → parts_of b ≡ (from_sorted (seen view es), empty) → length_told (parts_of b) ≤ most_of_piece
    → IsPiece (λ P. All (SaysLifted P) (seen view es)) b
contexts_piece view es b run is fits = is_piece (λ P. All (SaysLifted P) (seen view es)) b (say_contexts view es run (parts_of b) is) (contexts_say view es run (parts_of b) is) fits

-- WHAT PROCESSES ACKNOWLEDGE

module _ {J : Type 0} (view : J → AcksView) (es : List (ℕ × J)) (run : IsEntryRun nat_cmp view (λ e. is_tidy_acks e.1) es) (v : PartsView) (is : v ≡ (empty, from_sorted (seen view es))) where
  acks_entries : entries v.1 ≡ seen view es
  acks_entries = run_entries nat_cmp view (λ e. is_tidy_acks e.1) es v.1 run (ap (λ x. x.1) is)

  no_contexts : entries v.0 ≡ []
  no_contexts = no_entry name_cmp v.0 (ap (λ x. x.0) is)

  pub acks_tidy : is_tidy v ≡ true
  acks_tidy = both_true (are_tidy_entries v.0) (are_tidy_acks v.1) (all_none (λ e. is_tidy_lifted e.1) (entries v.0) no_contexts) (ap (list_all (λ e. is_tidy_acks e.1)) acks_entries ∙ run.pass)

  acks_say : (P : Fact → Type 0) → All (SaysAcks P) (seen view es) → SaysParts P v
  acks_say P all = record { contexts = All-none (SaysLifted P) (entries v.0) no_contexts; acks = subst (All (SaysAcks P)) (sym acks_entries) all }

  say_acks : (P : Fact → Type 0) → SaysParts P v → All (SaysAcks P) (seen view es)
  say_acks P says = subst (All (SaysAcks P)) acks_entries says.acks

pub acks_piece : {J : Type 0} (view : J → AcksView) (es : List (ℕ × J)) (b : Board) → IsEntryRun nat_cmp view (λ e. is_tidy_acks e.1) es → parts_of b ≡ (empty, from_sorted (seen view es)) → length_told (parts_of b) ≤ most_of_piece
    → IsPiece (λ P. All (SaysAcks P) (seen view es)) b
acks_piece view es b run is fits = is_piece (λ P. All (SaysAcks P) (seen view es)) b (say_acks view es run (parts_of b) is) (acks_say view es run (parts_of b) is) fits

-- WHAT ONE PROCESS DOES

-- the one process and its contexts, as a run of processes
module _ {J : Type 0} (view : J → OfProcesses ℕ) (es : List (Name × J)) (run : IsEntryRun name_cmp view (λ e. is_tidy_numbers e.1) es) (q : ℕ) (a : AcksView) (of : a ≡ from_sorted (seen view es)) where
  name_entries : entries a ≡ seen view es
  name_entries = run_entries name_cmp view (λ e. is_tidy_numbers e.1) es a run of

  some_names : 0 < length es → not (is_bare a) ≡ true
  some_names some = let long : len a ≡ length es = len-entries a ∙ ap length name_entries ∙ length_seen view es in grind (arith, nat_tests)

  process_run : 0 < length es → IsEntryRun nat_cmp (λ x. x) (λ e. is_tidy_acks e.1) ((q, a) ∷ [])
  process_run some = record {
    rising = refl;
    pass = both_true (is_tidy_acks a) true (both_true (not (is_bare a)) (are_tidy_numbers a) (some_names some) (ap (list_all (λ e. is_tidy_numbers e.1)) name_entries ∙ run.pass)) refl;
  }

  pub names_tidy : 0 < length es → (v : PartsView) → v ≡ (empty, from_sorted ((q, a) ∷ [])) → is_tidy v ≡ true
  names_tidy some v is = acks_tidy (λ x. x) ((q, a) ∷ []) (process_run some) v is

  pub names_piece : 0 < length es → (b : Board) → parts_of b ≡ (empty, from_sorted ((q, a) ∷ [])) → length_told (parts_of b) ≤ most_of_piece → IsPiece (λ P. All (SaysNumbers P q) (seen view es)) b
  names_piece some b is fits = is_piece (λ P. All (SaysNumbers P q) (seen view es)) b
      (λ P says. subst (All (SaysNumbers P q)) name_entries (All-head (SaysAcks P) (q, a) [] (say_acks (λ x. x) ((q, a) ∷ []) (process_run some) (parts_of b) is P says)))
      (λ P all. acks_say (λ x. x) ((q, a) ∷ []) (process_run some) (parts_of b) is P (All-cons (SaysAcks P) (q, a) [] (subst (All (SaysNumbers P q)) (sym name_entries) all) (All-nil (SaysAcks P))))
      fits

-- what holds of a board that is short
pub found : {X : Type 0} (o : Option X) (Q R S : X → Type 0) → ((x : X) → Q x → R x → S x) → IfSome o Q → IfSome o R → IfSome o S
found None Q R S f q r = tt
found (Some x) Q R S f q r = f x q r
