-- What one process says that it has, joined to a board.
use Rattle.std.proofs.Common.{arith, ◌≡◌, ℕ, zero, suc, ◌<◌, ◌==◌, ◌&&◌, max, Bool, true, false, not, cond, List, Option, Some, None, is_some, refl, sym, ap, ◌∙◌, subst}
use Rattle.std.specs.Prelude.{Result, Ok, Err, OnOk, OnErr}
use Rattle.std.proofs.lemmas.Option.{same_Some}
use Rattle.std.specs.declared.cmp.Ordering.{Ordering}
use Rattle.std.specs.Ordering.{eq_by_cmp, nat_cmp}
use Rattle.std.specs.Cmp.{IsTotalOrder, unsigned_tied, nat_cmp_total}
use Rattle.std.specs.FinMap.{empty as no_entry, get, get-empty, get-insert, get_tied, insert, nat_cmp-IsAntisymmetric}
use Rattle.join_core.specs.laws.Cases.{answer, yes, no, is_tied, both_true, first_true, second_true}
use Rattle.join_nest.specs.Keyed.{replaced}
use Rattle.join_nest.specs.Placed.{values_in, with_values, with_values_under}
use Rattle.join_nest.specs.Optional.{option_join}
use Rattle.mpx_name.specs.Name.{Name, same_name}
use Rattle.mpx_name.specs.Order.{name_cmp, name_total, name_exact}
use Rattle.mpx_board.specs.Boards.{IsBoardBelow, Look, empty, join, only, own_acks, Acknowledged}
use Rattle.mpx_board.specs.Raised.{Raises, Nothing, stored, view_of_raised}
use Rattle.mpx_board.specs.declared.acks.Raised.{Raised}
use Rattle.mpx_board.proofs.Facts.{join_is_least}
use Rattle.mpx_board.proofs.Order.{same_look}
use Rattle.mpx_board.specs.Parts.{OfNames, OfProcesses, AcksView, LiftedView, PartsView, acks_joining}
use Rattle.mpx_board.specs.Contexts.{or_zero, or_nothing, number_acked, numbers_acked, ack_in, look_of}
use Rattle.mpx_board.specs.Tidy.{is_bare, is_tidy_numbers, are_tidy_numbers, is_tidy_acks, are_tidy_acks, are_tidy_entries, is_tidy_lifted, is_tidy}
use Rattle.mpx_board.proofs.Entries.{all_empty, bare_gets, entries_get, get_entries}
use Rattle.mpx_board.proofs.Looking.{ack_join}
use Rattle.mpx_board.proofs.Setting.{set_by_insert}
use Rattle.mpx_board.proofs.Telling.{both_tests, nothing_told, raised_tidy}
use Rattle.mpx_board.proofs.Tidiness.{joined_at, tidy_acks_keep}

pub positive : (n : ℕ) → (n ≡ 0 → ⊥) → 0 < n
positive zero f = absurd (f refl)
positive (suc n) f = omega arith

-- whatever a call answers
pub by_result : {A E : Type 0} {P Q R : Type 0} (r : Result A E) → OnOk r P → OnErr r Q → (P → R) → (Q → R) → R
by_result (Ok x) p q f g = f p
by_result (Err e) p q f g = g q

-- ONE NUMBER

one_get : {K V : Type 0} {R : K → K → Ordering} → IsTotalOrder R → (k q : K) (v : V) → get (insert (no_entry {R = R}) k v) q ≡ cond (eq_by_cmp R q k) (Some v) None
one_get {R = R} o k q v = get-insert o no_entry k v q ∙ ap (cond (eq_by_cmp R q k) (Some v)) (get-empty R q)

zero_where : (b : Bool) (n : ℕ) → or_zero (cond b (Some n) None) ≡ cond b n 0
zero_where true n = refl
zero_where false n = refl

number_where : (b : Bool) (p : ℕ) (m : OfProcesses ℕ) (c : Bool) (n : ℕ) → or_zero (get m p) ≡ cond c n 0 → number_acked p (cond b (Some m) None) ≡ cond (b && c) n 0
number_where true p m c n e = e
number_where false p m c n e = refl

-- what stands in a map of one entry
only_there : {A : Type 0} (b : Bool) (v x : A) → cond b (Some v) None ≡ Some x → v ≡ x
only_there true v x e = same_Some v x e
only_there false v x e = cc e

module _ (process : ℕ) (name : Name) (member number : ℕ) where
  abbrev numbers : OfProcesses ℕ
  numbers = insert no_entry member number

  abbrev acks : AcksView
  acks = insert no_entry name numbers

  number_at : (p : ℕ) → or_zero (get numbers p) ≡ cond (p == member) number 0
  number_at p = ap or_zero (one_get nat_cmp_total member p number) ∙ zero_where (eq_by_cmp nat_cmp p member) number ∙ ap (λ b. cond b number 0) (unsigned_tied p member)

  said_at : (n : Name) (p : ℕ) → numbers_acked acks n p ≡ cond (same_name n name && (p == member)) number 0
  said_at n p = ap (number_acked p) (one_get name_total name n numbers) ∙ number_where (same_name n name) p numbers (p == member) number (number_at p)

  pub one_said : (said : AcksView) → said ≡ acks → own_acks process (numbers_acked said) ≡ only (Acknowledged process name member number)
  one_said said is i = record empty { acks = λ q n p. (ap (λ a. cond (q == process) (numbers_acked a n p) 0) is ∙ ap (λ m. cond (q == process) m 0) (said_at n p) ∙ both_tests (q == process) (same_name n name && (p == member)) number 0) i }

  pub one_tidy : (said : AcksView) → said ≡ acks → 0 < number → are_tidy_numbers said ≡ true
  one_tidy said is some = ap are_tidy_numbers is
      ∙ get_entries name_total name_exact (λ n m. is_tidy_numbers m) acks (λ n m e. subst (λ x. is_tidy_numbers x ≡ true) (only_there (same_name n name) numbers m (sym (one_get name_total name n numbers) ∙ e))
      (raised_tidy no_entry numbers member number some refl (all_empty nat_cmp_total nat_cmp-IsAntisymmetric (λ p n. _))))

nothing_more : (b : Bool) (x n : ℕ) → n ≡ 0 → x ≡ max x (cond b n 0)
nothing_more true x n is = omega (arith, is)
nothing_more false x n is = omega arith

-- a 0 says nothing
pub look_unacked : (a : PartsView) (process : ℕ) (name : Name) (member number : ℕ) → number ≡ 0 → look_of a ≡ join (look_of a) (only (Acknowledged process name member number))
unfolding look_of
look_unacked a process name member number none i = record {
  contexts = λ n. nothing_told (get a.0 n) i;
  acks = λ q n p. nothing_more ((q == process) && (same_name n name && (p == member))) (ack_in n p (get a.1 q)) number none i;
}

-- ALL NUMBERS OF A PROCESS

module _ (process : ℕ) (said : AcksView) where
  -- all that is said of the process
  abbrev part : (q : ℕ) → Option AcksView
  part q = cond (q == process) (Some said) None

  part_at : (b : Bool) (n : Name) (p : ℕ) → ack_in n p (cond b (Some said) None) ≡ cond b (numbers_acked said n p) 0
  part_at true n p = refl
  part_at false n p = refl

  nothing_joined : (o : Option AcksView) → o ≡ option_join acks_joining o None
  nothing_joined None = refl
  nothing_joined (Some x) = refl

  pub joined_by_put : (old new : OfProcesses AcksView) (joined : AcksView) → Some joined ≡ option_join acks_joining (get old process) (Some said) → new ≡ insert old process joined → (q : ℕ) → get new q ≡ option_join acks_joining (get old q) (part q)
  joined_by_put old new joined is e q = (set_by_insert nat_cmp_total old new process joined e).gets q ∙ elim (answer (eq_by_cmp nat_cmp q process)) [
    | yes t ↦ rw (t, sym (unsigned_tied q process) ∙ t) (is ∙ ap (λ o. option_join acks_joining o (Some said)) (get_tied nat_cmp_total old q process (is_tied _ t)))
    | no n ↦ rw (n, sym (unsigned_tied q process) ∙ n) (nothing_joined (get old q))
  ]

  -- a row that is put in the old one's place
  pub row_stored : (old new : OfProcesses AcksView) (before row : AcksView) → Some before ≡ get old process → row ≡ acks_joining.join before said → new ≡ replaced old process row → (q : ℕ) → get new q ≡ option_join acks_joining (get old q) (part q)
  row_stored old new before row there is e = joined_by_put old new row (ap Some is ∙ ap (λ o. option_join acks_joining o (Some said)) there) (e ∙ ap (λ o. cond (is_some o) (insert old process row) old) (sym there))

  -- values that are put in at their places
  pub places_stored : (old : OfProcesses AcksView) (before : AcksView) (values : List (ℕ × OfProcesses ℕ)) → Some before ≡ get old process → with_values before values ≡ acks_joining.join before said
      → (q : ℕ) → get (with_values_under old process values) q ≡ option_join acks_joining (get old q) (part q)
  places_stored old before values there is =
      joined_by_put old (with_values_under old process values) (acks_joining.join before said) (ap (λ o. option_join acks_joining o (Some said)) there) (ap (values_in old process values) (sym there) ∙ ap (insert old process) is)

  -- a row where there was none, put in a copy
  pub all_stored : (old copied new : OfProcesses AcksView) (row : AcksView) → None ≡ get old process → copied ≡ old → row ≡ said → new ≡ insert copied process row → (q : ℕ) → get new q ≡ option_join acks_joining (get old q) (part q)
  all_stored old copied new row none copy is e = joined_by_put old new row (ap Some is ∙ ap (λ o. option_join acks_joining o (Some said)) none) (e ∙ ap (λ m. insert m process row) copy)

  module _ (a : PartsView) where
    -- no number says nothing
    pub look_unsaid : is_bare said ≡ true → look_of a ≡ join (look_of a) (own_acks process (numbers_acked said))
    unfolding look_of
    look_unsaid bare i = record {
      contexts = λ n. nothing_told (get a.0 n) i;
      acks = λ q n p. nothing_more (q == process) (ack_in n p (get a.1 q)) (numbers_acked said n p) (ap (number_acked p) (bare_gets name_total name_exact said bare n)) i;
    }

    module _ (second : OfProcesses AcksView) (new : (q : ℕ) → get second q ≡ option_join acks_joining (get a.1 q) (part q)) where
      pub look_said : look_of (a.0, second) ≡ join (look_of a) (own_acks process (numbers_acked said))
      unfolding look_of
      look_said i = record {
        contexts = λ n. nothing_told (get a.0 n) i;
        acks = λ q n p. (ap (ack_in n p) (new q) ∙ ack_join n p (get a.1 q) (part q) ∙ ap (max (ack_in n p (get a.1 q))) (part_at (q == process) n p)) i;
      }

      pub said_tidy : is_tidy a ≡ true → is_bare said ≡ false → are_tidy_numbers said ≡ true → is_tidy (a.0, second) ≡ true
      said_tidy tidy some neat =
          let before : are_tidy_acks a.1 ≡ true = second_true (are_tidy_entries a.0) (are_tidy_acks a.1) tidy in
          let said_neat : is_tidy_acks said ≡ true = both_true (not (is_bare said)) (are_tidy_numbers said) (ap not some) neat in
          both_true (are_tidy_entries a.0) (are_tidy_acks second) (first_true (are_tidy_entries a.0) (are_tidy_acks a.1) tidy)
          (get_entries nat_cmp_total nat_cmp-IsAntisymmetric (λ p x. is_tidy_acks x) second (λ q x e. joined_at acks_joining tidy_acks_keep (get a.1 q) (part q) x (sym (new q) ∙ e)
          (entries_get nat_cmp_total nat_cmp-IsAntisymmetric (λ p x. is_tidy_acks x) a.1 before q)
          (λ w is. subst (λ y. is_tidy_acks y ≡ true) (only_there (q == process) said w is) said_neat)))

-- ACKNOWLEDGEMENTS ALONE, AND IN PLACE OF OTHERS

pub look_alone : (first : OfNames LiftedView) (second : OfProcesses AcksView) (a : PartsView) → first ≡ no_entry → second ≡ a.1 → look_of (first, second) ≡ record empty { acks = (look_of a).acks }
unfolding look_of
look_alone first second a none is i = record {
  contexts = λ n. (ap (λ m. or_nothing (get m n)) none ∙ ap or_nothing (get-empty name_cmp n)) i;
  acks = λ q n p. ack_in n p (get (is i) q);
}

pub alone_tidy : (first : OfNames LiftedView) (second : OfProcesses AcksView) (a : PartsView) → first ≡ no_entry → second ≡ a.1 → is_tidy a ≡ true → is_tidy (first, second) ≡ true
alone_tidy first second a none is tidy = both_true (are_tidy_entries first) (are_tidy_acks second)
    (ap are_tidy_entries none ∙ all_empty name_total name_exact (λ n e. is_tidy_lifted e))
    (ap are_tidy_acks is ∙ second_true (are_tidy_entries a.0) (are_tidy_acks a.1) tidy)

pub look_replaced : (a b : PartsView) → look_of (a.0, b.1) ≡ record (look_of a) { acks = (look_of b).acks }
unfolding look_of
look_replaced a b = refl

pub replaced_tidy : (a b : PartsView) → is_tidy a ≡ true → is_tidy b ≡ true → is_tidy (a.0, b.1) ≡ true
replaced_tidy a b s t = both_true (are_tidy_entries a.0) (are_tidy_acks b.1) (first_true (are_tidy_entries a.0) (are_tidy_acks a.1) s) (second_true (are_tidy_entries b.0) (are_tidy_acks b.1) t)

-- MADE BEFORE IT IS STORED

module _ (process : ℕ) (said : AcksView) (raised : Raised) (a : PartsView) (tidy : is_tidy a ≡ true) where
  pub raises_nothing : view_of_raised raised ≡ Nothing → is_bare said ≡ true → Raises raised (look_of a) (join (look_of a) (own_acks process (numbers_acked said)))
  raises_nothing is bare =
      let same : stored (view_of_raised raised) a.1 ≡ a.1 = ap (λ r. stored r a.1) is in
      record { parts = a; tidy = tidy; made_of = refl; gives = ap (λ m. look_of (a.0, m)) same ∙ look_unsaid process said a bare; neat = ap (λ m. is_tidy (a.0, m)) same ∙ tidy; above = (join_is_least (look_of a) (own_acks process (numbers_acked said))).left }

  pub raises_more : ((q : ℕ) → get (stored (view_of_raised raised) a.1) q ≡ option_join acks_joining (get a.1 q) (part process said q)) → is_bare said ≡ false → are_tidy_numbers said ≡ true → Raises raised (look_of a) (join (look_of a) (own_acks process (numbers_acked said)))
  raises_more gets some neat = record {
    parts = a;
    tidy = tidy;
    made_of = refl;
    gives = look_said process said a (stored (view_of_raised raised) a.1) gets;
    neat = said_tidy process said a (stored (view_of_raised raised) a.1) gets tidy some neat;
    above = (join_is_least (look_of a) (own_acks process (numbers_acked said))).left;
  }

module _ (raised : Raised) (a : PartsView) (tidy : is_tidy a ≡ true) (new : Look) (r : Raises raised (look_of a) new) where
  -- the board that it was made of is this one
  made_of_it : r.parts ≡ a
  made_of_it = same_look r.parts a r.tidy tidy r.made_of

  pub stored_gives : (parts : PartsView) → parts ≡ (a.0, stored (view_of_raised raised) a.1) → look_of parts ≡ new
  stored_gives parts is = ap look_of is ∙ sym (ap (λ (p : PartsView). look_of (p.0, stored (view_of_raised raised) p.1)) made_of_it) ∙ r.gives

  pub stored_tidy : (parts : PartsView) → parts ≡ (a.0, stored (view_of_raised raised) a.1) → is_tidy parts ≡ true
  stored_tidy parts is = ap is_tidy is ∙ sym (ap (λ (p : PartsView). is_tidy (p.0, stored (view_of_raised raised) p.1)) made_of_it) ∙ r.neat

  pub stored_above : (parts : PartsView) → parts ≡ (a.0, stored (view_of_raised raised) a.1) → IsBoardBelow (look_of a) (look_of parts)
  stored_above parts is = subst (IsBoardBelow (look_of a)) (sym (stored_gives parts is)) r.above
