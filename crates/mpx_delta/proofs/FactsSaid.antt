-- What the parts of a board say, fact by fact, is what the board has.
use Rattle.std.proofs.Common.{◌≡◌, ◌≢◌, ◌<◌, ℕ, true, false, T, List, [], ◌∷◌, Option, Some, None, refl, sym, ap, ◌∙◌, subst, nat_lt, arith}
use Rattle.std.specs.Prelude.{All, not}
use Rattle.std.proofs.lemmas.Bool.Decides.{nat_tests}
use Rattle.std.proofs.lemmas.List.Elements.{All-nil, All-cons, All-head, All-tail}
use Rattle.std.specs.declared.cmp.Ordering.{Ordering}
use Rattle.std.specs.Ordering.{eq_by_cmp}
use Rattle.std.specs.Cmp.{IsTotalOrder, nat_cmp_total}
use Rattle.std.specs.FinMap.{FinMap, find, is_sorted, entries, entries_sorted, get, get-entries, nat_cmp-IsAntisymmetric, IsAntisymmetric}
use Rattle.join_core.specs.Flat.{FlatView, unknown}
use Rattle.join_core.specs.laws.Cases.{answer, yes, no, is_tied, first, second, first_true, second_true}
use Rattle.join_nest.specs.laws.Entries.{find_first, find_below, below_tied}
use Rattle.join_nest.specs.Lift.{live, dead}
use Rattle.mpx_name.specs.Name.{Name}
use Rattle.mpx_name.specs.Order.{name_total, name_exact}
use Rattle.mpx_post.specs.Posts.{Given}
use Rattle.mpx_board.specs.Boards.{Fact, Born, Held, Front, Dropped, Dead, Acknowledged, Has}
use Rattle.mpx_board.specs.Parts.{OfProcesses, CallView, EntryView, LiftedView, AcksView, PartsView}
use Rattle.mpx_board.specs.Contexts.{or_zero, or_unknown, post_in, or_nothing, number_acked, ack_in, look_of}
use Rattle.mpx_board.specs.Tidy.{is_unknown, is_bare, all_entries, has_no_zero, are_tidy_posts, is_tidy_call, says_nothing, is_neat_entry, is_tidy_lifted, are_tidy_entries, is_tidy_numbers, is_tidy_acks, are_tidy_acks, is_tidy}
use Rattle.mpx_board.proofs.Entries.{entries_get}
use Rattle.mpx_delta.specs.Facts.{SaysPost, SaysCall, SaysEntry, SaysLifted, SaysNumbers, SaysAcks, SaysParts}

-- LOOK-UPS AND ENTRIES

module _ {K V : Type 0} {R : K → K → Ordering} (o : IsTotalOrder R) (exact : IsAntisymmetric R) (Q : K × V → Type 0) where
  found_in : (es : List (K × V)) → All Q es → (q : K) (v : V) → find R q es ≡ Some v → Q (q, v)
  found_in [] all q v is = cc
  found_in (e ∷ es) all q v is = elim (answer (eq_by_cmp R q e.0)) [
    | yes t ↦
        let key : q ≡ e.0 = exact q e.0 (is_tied _ t) in
        let found : Some e.1 ≡ Some v = rw t at is in
        let value : e.1 ≡ v = cc in
        subst Q (λ i. (sym key i, value i)) (All-head Q e es all)
    | no n ↦ found_in es (All-tail Q e es all) q v (rw n at is)
  ]

  in_found : (es : List (K × V)) → T (is_sorted R es) → ((q : K) (v : V) → find R q es ≡ Some v → Q (q, v)) → All Q es
  in_found [] h each = All-nil Q
  in_found (e ∷ es) h each = All-cons Q e es (each e.0 e.1 (find_first o e es)) (in_found es (second _ _ h) later) where
    later : (q : K) (v : V) → find R q es ≡ Some v → Q (q, v)
    later q v is = elim (answer (eq_by_cmp R q e.0)) [
      | yes t ↦
          let none : find R q es ≡ None = find_below o q es (below_tied o q e.0 es (is_tied _ t) (first _ _ h)) in
          absurd cc
      | no n ↦ each q v (rw n is)
    ]

  -- what holds of all entries holds of the value at each key
  pub all_get : (m : FinMap R V) → All Q (entries m) → (q : K) (v : V) → get m q ≡ Some v → Q (q, v)
  all_get m all q v is = found_in (entries m) all q v (sym (get-entries m q) ∙ is)

  -- and the other way round
  pub get_all : (m : FinMap R V) → ((q : K) (v : V) → get m q ≡ Some v → Q (q, v)) → All Q (entries m)
  get_all m each = in_found (entries m) (entries_sorted m) (λ q v is. each q v (get-entries m q ∙ is))

-- EACH FACT IS SAID

module _ (P : Fact → Type 0) where
  number_said : (F : ℕ → Fact) (o : Option ℕ) → ((n : ℕ) → o ≡ Some n → P (F n)) → (n : ℕ) → 0 < n → or_zero o ≡ n → P (F n)
  number_said F None said n some is = absurd (omega (arith, is, some))
  number_said F (Some m) said n some is = subst (λ x. P (F x)) is (said m refl)

  module _ (name : Name) where
    born_said : (o : Option LiftedView) → ((l : LiftedView) → o ≡ Some l → SaysLifted P (name, l)) → (v : FlatView _) → v ≢ unknown → (or_nothing o).birth ≡ v → P (Born name v)
    born_said None said v told is = absurd (told (sym is))
    born_said (Some (live e)) said v told is = let of : SaysEntry P (name, e) = said (live e) refl in subst (λ x. P (Born name x)) is (of.head.birth (λ none. told (sym is ∙ none)))
    born_said (Some dead) said v told is = absurd (told (sym is))

    front_said : (o : Option LiftedView) → ((l : LiftedView) → o ≡ Some l → SaysLifted P (name, l)) → (p n : ℕ) → 0 < n → (or_nothing o).fronts p ≡ n → P (Front name p n)
    front_said None said p n some is = absurd (omega (arith, is, some))
    front_said (Some (live e)) said p n some is = let of : SaysEntry P (name, e) = said (live e) refl in number_said (Front name p) (get e.1.0 p) (all_get nat_cmp_total nat_cmp-IsAntisymmetric (λ x. P (Front name x.0 x.1)) e.1.0 of.head.fronts p) n some is
    front_said (Some dead) said p n some is = absurd (omega (arith, is, some))

    dropped_said : (o : Option LiftedView) → ((l : LiftedView) → o ≡ Some l → SaysLifted P (name, l)) → (n : ℕ) → 0 < n → (or_nothing o).dropped ≡ n → P (Dropped name n)
    dropped_said None said n some is = absurd (omega (arith, is, some))
    dropped_said (Some (live e)) said n some is = let of : SaysEntry P (name, e) = said (live e) refl in subst (λ x. P (Dropped name x)) is (of.head.dropped (subst (λ x. 0 < x) (sym is) some))
    dropped_said (Some dead) said n some is = absurd (omega (arith, is, some))

    dead_said : (o : Option LiftedView) → ((l : LiftedView) → o ≡ Some l → SaysLifted P (name, l)) → (or_nothing o).dead ≡ true → P (Dead name)
    dead_said None said is = let no : false ≡ true = is in cc
    dead_said (Some (live e)) said is = let no : false ≡ true = is in cc
    dead_said (Some dead) said is = said dead refl

    post_said : (k p : ℕ) (o : Option (FlatView Given)) → ((w : FlatView Given) → o ≡ Some w → P (Held name k p w)) → (v : FlatView Given) → v ≢ unknown → or_unknown o ≡ v → P (Held name k p v)
    post_said k p None said v told is = absurd (told (sym is))
    post_said k p (Some w) said v told is = subst (λ x. P (Held name k p x)) is (said w refl)

    call_said : (k p : ℕ) (o : Option CallView) → ((c : CallView) → o ≡ Some c → SaysCall P name (k, c)) → (v : FlatView Given) → v ≢ unknown → post_in p o ≡ v → P (Held name k p v)
    call_said k p None said v told is = absurd (told (sym is))
    call_said k p (Some c) said v told is = post_said k p (get c p) (all_get nat_cmp_total nat_cmp-IsAntisymmetric (SaysPost P name k) c (said c refl) p) v told is

    held_said : (o : Option LiftedView) → ((l : LiftedView) → o ≡ Some l → SaysLifted P (name, l)) → (k p : ℕ) (v : FlatView Given) → v ≢ unknown → (or_nothing o).posts k p ≡ v → P (Held name k p v)
    held_said None said k p v told is = absurd (told (sym is))
    held_said (Some (live e)) said k p v told is = let of : SaysEntry P (name, e) = said (live e) refl in call_said k p (get e.1.1.calls k) (all_get nat_cmp_total nat_cmp-IsAntisymmetric (SaysCall P name) e.1.1.calls of.calls k) v told is
    held_said (Some dead) said k p v told is = absurd (told (sym is))

  numbers_said : (q : ℕ) (name : Name) (o : Option (OfProcesses ℕ)) → ((m : OfProcesses ℕ) → o ≡ Some m → SaysNumbers P q (name, m)) → (p n : ℕ) → 0 < n → number_acked p o ≡ n → P (Acknowledged q name p n)
  numbers_said q name None said p n some is = absurd (omega (arith, is, some))
  numbers_said q name (Some m) said p n some is = number_said (Acknowledged q name p) (get m p) (all_get nat_cmp_total nat_cmp-IsAntisymmetric (λ y. P (Acknowledged q name y.0 y.1)) m (said m refl) p) n some is

  ack_said : (q : ℕ) (name : Name) (o : Option AcksView) → ((a : AcksView) → o ≡ Some a → SaysAcks P (q, a)) → (p n : ℕ) → 0 < n → ack_in name p o ≡ n → P (Acknowledged q name p n)
  ack_said q name None said p n some is = absurd (omega (arith, is, some))
  ack_said q name (Some a) said p n some is = numbers_said q name (get a name) (all_get name_total name_exact (SaysNumbers P q) a (said a refl) name) p n some is

  lifted_at : (v : PartsView) → SaysParts P v → (name : Name) (l : LiftedView) → get v.0 name ≡ Some l → SaysLifted P (name, l)
  lifted_at v said name l is = all_get name_total name_exact (SaysLifted P) v.0 said.contexts name l is

  acks_at : (v : PartsView) → SaysParts P v → (q : ℕ) (a : AcksView) → get v.1 q ≡ Some a → SaysAcks P (q, a)
  acks_at v said q a is = all_get nat_cmp_total nat_cmp-IsAntisymmetric (SaysAcks P) v.1 said.acks q a is

  -- what the parts say is all that is known
  pub all_said : (v : PartsView) → SaysParts P v → (f : Fact) → Has (look_of v) f → P f
  unfolding look_of
  all_said v said (Born name x) has = born_said name (get v.0 name) (lifted_at v said name) x has.0 has.1
  all_said v said (Held name k p x) has = held_said name (get v.0 name) (lifted_at v said name) k p x has.0 has.1
  all_said v said (Front name p n) has = front_said name (get v.0 name) (lifted_at v said name) p n has.0 has.1
  all_said v said (Dropped name n) has = dropped_said name (get v.0 name) (lifted_at v said name) n has.0 has.1
  all_said v said (Dead name) has = dead_said name (get v.0 name) (lifted_at v said name) has
  all_said v said (Acknowledged q name p n) has = ack_said q name (get v.1 q) (acks_at v said q) p n has.0 has.1

-- AND ONLY THAT

positive : (n : ℕ) → nat_lt 0 n ≡ true → 0 < n
positive n h = grind (arith, nat_tests)

is_told : {A : Type 0} (v : FlatView A) → not (is_unknown v) ≡ true → v ≢ unknown
is_told v h none = cc (ap is_unknown none, h)

module _ (P : Fact → Type 0) (v : PartsView) (tidy : is_tidy v ≡ true) (has : (f : Fact) → Has (look_of v) f → P f) where
  say_call : (name : Name) (e : EntryView) → get v.0 name ≡ Some (live e) → (k : ℕ) (c : CallView) → get e.1.1.calls k ≡ Some c → is_tidy_call k c ≡ true → SaysCall P name (k, c)
  unfolding look_of
  say_call name e at k c of neat = get_all nat_cmp_total nat_cmp-IsAntisymmetric (SaysPost P name k) c (λ p w is.
      has (Held name k p w) (
        is_told w (entries_get nat_cmp_total nat_cmp-IsAntisymmetric (λ p w. not (is_unknown w)) c (second_true (not (is_bare c)) _ (second_true _ (are_tidy_posts c) neat)) p w is),
        ap (λ o. (or_nothing o).posts k p) at ∙ ap (post_in p) of ∙ ap or_unknown is,
      ))

  say_entry : (name : Name) (e : EntryView) → get v.0 name ≡ Some (live e) → SaysEntry P (name, e)
  unfolding look_of
  say_entry name e at =
      let neat : is_neat_entry e ≡ true = second_true (not (says_nothing e)) (is_neat_entry e) (entries_get name_total name_exact (λ name l. is_tidy_lifted l) v.0 (first_true (are_tidy_entries v.0) (are_tidy_acks v.1) tidy) name (live e) at) in
      record {
        head = record {
          birth = λ told. has (Born name e.0) (told, ap (λ o. (or_nothing o).birth) at);
          fronts = get_all nat_cmp_total nat_cmp-IsAntisymmetric (λ x. P (Front name x.0 x.1)) e.1.0 (λ p n is.
              has (Front name p n) (
                positive n (entries_get nat_cmp_total nat_cmp-IsAntisymmetric (λ p n. nat_lt 0 n) e.1.0 (first_true (has_no_zero e.1.0) (all_entries is_tidy_call e.1.1.calls) neat) p n is),
                ap (λ o. (or_nothing o).fronts p) at ∙ ap or_zero is,
              ));
          dropped = λ some. has (Dropped name e.1.1.dropped) (some, ap (λ o. (or_nothing o).dropped) at);
        };
        calls = get_all nat_cmp_total nat_cmp-IsAntisymmetric (SaysCall P name) e.1.1.calls (λ k c is.
            say_call name e at k c is (entries_get nat_cmp_total nat_cmp-IsAntisymmetric is_tidy_call e.1.1.calls (second_true (has_no_zero e.1.0) (all_entries is_tidy_call e.1.1.calls) neat) k c is));
      }

  say_lifted : (name : Name) (l : LiftedView) → get v.0 name ≡ Some l → SaysLifted P (name, l)
  unfolding look_of
  say_lifted name (live e) at = say_entry name e at
  say_lifted name dead at = has (Dead name) (ap (λ o. (or_nothing o).dead) at)

  say_numbers : (q : ℕ) (a : AcksView) → get v.1 q ≡ Some a → (name : Name) (m : OfProcesses ℕ) → get a name ≡ Some m → is_tidy_numbers m ≡ true → SaysNumbers P q (name, m)
  unfolding look_of
  say_numbers q a at name m of neat = get_all nat_cmp_total nat_cmp-IsAntisymmetric (λ y. P (Acknowledged q name y.0 y.1)) m (λ p n is.
      has (Acknowledged q name p n) (
        positive n (entries_get nat_cmp_total nat_cmp-IsAntisymmetric (λ p n. nat_lt 0 n) m (second_true (not (is_bare m)) (has_no_zero m) neat) p n is),
        ap (ack_in name p) at ∙ ap (number_acked p) of ∙ ap or_zero is,
      ))

  say_acks : (q : ℕ) (a : AcksView) → get v.1 q ≡ Some a → SaysAcks P (q, a)
  say_acks q a at =
      let neat : is_tidy_acks a ≡ true = entries_get nat_cmp_total nat_cmp-IsAntisymmetric (λ p a. is_tidy_acks a) v.1 (second_true (are_tidy_entries v.0) (are_tidy_acks v.1) tidy) q a at in
      get_all name_total name_exact (SaysNumbers P q) a (λ name m is.
      say_numbers q a at name m is (entries_get name_total name_exact (λ name m. is_tidy_numbers m) a (second_true (not (is_bare a)) _ neat) name m is))

  pub said_all : SaysParts P v
  said_all = record {
    contexts = get_all name_total name_exact (SaysLifted P) v.0 say_lifted;
    acks = get_all nat_cmp_total nat_cmp-IsAntisymmetric (SaysAcks P) v.1 say_acks;
  }
