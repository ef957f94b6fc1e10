-- The lean board, by look-ups, is the board without the posts below the digest.
use Rattle.std.proofs.lemmas.Option.{same_Some}
use Rattle.std.proofs.lemmas.Bool.Decides.{nat_tests}
use Rattle.std.proofs.Common.{arith, ◌≤◌, ◌<◌, ◌≡◌, ◌≢◌, ℕ, ◌&&◌, Bool, true, false, cond, not, Option, Some, None, T, List, [], ◌∷◌, refl, sym, ap, ◌∙◌, subst}
use Rattle.std.specs.Prelude.{nat_le, nat_lt, option_and_then}
use Rattle.std.specs.Ordering.{nat_cmp}
use Rattle.std.specs.Cmp.{nat_cmp_total}
use Rattle.std.specs.FinMap.{FinMap, get, get-empty, empty as no_entry, nat_cmp-IsAntisymmetric}
use Rattle.join_core.specs.Flat.{FlatView, unknown, known, clash}
use Rattle.join_core.specs.laws.Cases.{yes, no, answer, both, first, second, both_true, first_true, second_true}
use Rattle.join_nest.specs.Entries.{with_key}
use Rattle.join_nest.specs.Cut.{is_from}
use Rattle.join_nest.specs.laws.Cut.{get_cut}
use Rattle.join_nest.specs.Lift.{live, dead}
use Rattle.join_nest.specs.laws.Trunc.{get_dropped, same_trunc}
use Rattle.join_nest.specs.Trunc.{TruncView, trunc_of}
use Rattle.mpx_name.specs.Name.{Name}
use Rattle.mpx_name.specs.Order.{name_cmp, name_total, name_exact}
use Rattle.mpx_post.specs.Posts.{Given}
use Rattle.mpx_board.specs.Boards.{Look, nothing, gone, Fact, Born, Held, Front, Dropped, Dead, Acknowledged, Has}
use Rattle.mpx_board.specs.Contexts.{or_zero, or_unknown, post_in, context_of, or_nothing, number_acked, look_of}
use Rattle.mpx_post.specs.Drafts.{most_calls}
use Rattle.mpx_board.specs.Parts.{OfNames, OfProcesses, CallView, EntryView, LiftedView, AcksView, PartsView}
use Rattle.mpx_board.specs.Tidy.{is_bare, is_unknown, all_entries, has_no_zero, are_tidy_posts, is_tidy_call, says_nothing, is_silent, is_neat_entry, is_tidy_lifted, are_tidy_entries, is_tidy_acks, are_tidy_acks, is_tidy}
use Rattle.mpx_board.proofs.Entries.{all_empty, bare_gets, entries_get, get_entries}
use Rattle.mpx_digest.specs.Keep.{kept, keep, unless_bare}
use Rattle.mpx_digest.specs.Digest.{Numbers, number_at, numbers_acked}
use Rattle.mpx_digest.proofs.Kept.{get_keep}
use Rattle.mpx_delta.specs.Digests.{without, without_posts}
use Rattle.mpx_delta.specs.Lean.{lean_post, lean_call, lean_calls, lean_entry, unless_silent, lean_context}

either : (b : Bool) → ◌≡◌ {A = FlatView Given} unknown (cond b unknown unknown)
either true = refl
either false = refl

told : (b : Bool) (v : FlatView Given) → or_unknown (cond b None (Some v)) ≡ cond b unknown v
told true v = refl
told false v = refl

module _ (numbers : ℕ → ℕ) where
  one_post : (k p : ℕ) (o : Option (FlatView Given)) → or_unknown (option_and_then (lean_post numbers k p) o) ≡ cond (nat_lt k (numbers p)) unknown (or_unknown o)
  one_post k p None = either (nat_lt k (numbers p))
  one_post k p (Some v) = told (nat_lt k (numbers p)) v

  bare_post : (p : ℕ) (m : CallView) → post_in p (unless_bare m) ≡ or_unknown (get m p)
  bare_post p m = elim (answer (is_bare m)) [
    | yes t ↦ ap (λ b. post_in p (cond b None (Some m))) t ∙ ap or_unknown (sym (bare_gets nat_cmp_total nat_cmp-IsAntisymmetric m t p))
    | no f ↦ ap (λ b. post_in p (cond b None (Some m))) f
  ]

  one_call : (k p : ℕ) (o : Option CallView) → post_in p (option_and_then (lean_call numbers k) o) ≡ cond (nat_lt k (numbers p)) unknown (post_in p o)
  one_call k p None = one_post k p None
  one_call k p (Some m) = bare_post p (keep (lean_post numbers k) m) ∙ ap or_unknown (get_keep nat_cmp (lean_post numbers k) nat_cmp_total nat_cmp-IsAntisymmetric m p) ∙ one_post k p (get m p)

  -- nothing below the front is kept
  not_below : (b : Bool) (o : Option CallView) (k : ℕ) → (b ≡ false → o ≡ None) → cond b (option_and_then (lean_call numbers k) o) None ≡ option_and_then (lean_call numbers k) o
  not_below true o k h = refl
  not_below false o k h = ap (option_and_then (lean_call numbers k)) (sym (h refl))

  pub get_lean_calls : (t : TruncView CallView) (k : ℕ) → get (lean_calls numbers t).calls k ≡ option_and_then (lean_call numbers k) (get t.calls k)
  get_lean_calls t k =
      get_cut t.dropped (keep (lean_call numbers) t.calls) k
      ∙ ap (λ o. cond (nat_le t.dropped k) o None) (get_keep nat_cmp (lean_call numbers) nat_cmp_total nat_cmp-IsAntisymmetric t.calls k)
      ∙ not_below (nat_le t.dropped k) (get t.calls k) k (get_dropped t k)

  lean_posts : (e : EntryView) (k p : ℕ) → post_in p (get (lean_calls numbers e.1.1).calls k) ≡ cond (nat_lt k (numbers p)) unknown (post_in p (get e.1.1.calls k))
  lean_posts e k p = ap (post_in p) (get_lean_calls e.1.1 k) ∙ one_call k p (get e.1.1.calls k)

  lean_is : (e : EntryView) → context_of (lean_entry numbers e) ≡ without_posts numbers (context_of e)
  lean_is e i = record { birth = e.0; fronts = (context_of e).fronts; dropped = e.1.1.dropped; posts = λ k p. lean_posts e k p i; dead = false }

  nothing_is : nothing ≡ without_posts numbers nothing
  nothing_is i = record { birth = unknown; fronts = λ p. 0; dropped = 0; posts = λ k p. one_post k p None i; dead = false }

  gone_is : gone ≡ without_posts numbers gone
  gone_is i = record { birth = unknown; fronts = λ p. 0; dropped = 0; posts = λ k p. one_post k p None i; dead = true }

-- CONTEXTS

unknown_is : {A : Type 0} (v : FlatView A) → is_unknown v ≡ true → v ≡ unknown
unknown_is unknown h = refl
unknown_is (known x) h = cc
unknown_is clash h = cc

zero_is : (n : ℕ) → not (nat_lt 0 n) ≡ true → n ≡ 0
zero_is n h = grind (arith, nat_tests)

-- an entry that says nothing
silent_is : (e : EntryView) → says_nothing e ≡ true → nothing ≡ context_of e
silent_is e h =
    let birth = first_true (is_unknown e.0) (is_bare e.1.0 && (not (nat_lt 0 e.1.1.dropped) && is_bare e.1.1.calls)) h in
    let rest = second_true (is_unknown e.0) (is_bare e.1.0 && (not (nat_lt 0 e.1.1.dropped) && is_bare e.1.1.calls)) h in
    let fronts = first_true (is_bare e.1.0) (not (nat_lt 0 e.1.1.dropped) && is_bare e.1.1.calls) rest in
    let last = second_true (is_bare e.1.0) (not (nat_lt 0 e.1.1.dropped) && is_bare e.1.1.calls) rest in
    let dropped = first_true (not (nat_lt 0 e.1.1.dropped)) (is_bare e.1.1.calls) last in
    let calls = second_true (not (nat_lt 0 e.1.1.dropped)) (is_bare e.1.1.calls) last in
    λ i. record {
      birth = sym (unknown_is e.0 birth) i;
      fronts = λ p. or_zero (sym (bare_gets nat_cmp_total nat_cmp-IsAntisymmetric e.1.0 fronts p) i);
      dropped = sym (zero_is e.1.1.dropped dropped) i;
      posts = λ k p. post_in p (sym (bare_gets nat_cmp_total nat_cmp-IsAntisymmetric e.1.1.calls calls k) i);
      dead = false;
    }

silent : (e : EntryView) → or_nothing (unless_silent (live e)) ≡ context_of e
silent e = elim (answer (says_nothing e)) [
  | yes t ↦ ap (λ b. or_nothing (cond b None (Some (live e)))) t ∙ silent_is e t
  | no f ↦ ap (λ b. or_nothing (cond b None (Some (live e)))) f
]

module _ (d : AcksView) where
  one_context : (name : Name) (o : Option LiftedView) → or_nothing (option_and_then (lean_context d name) o) ≡ without_posts (numbers_acked d name) (or_nothing o)
  one_context name None = nothing_is (numbers_acked d name)
  one_context name (Some (live e)) = silent (lean_entry (numbers_acked d name) e) ∙ lean_is (numbers_acked d name) e
  one_context name (Some dead) = gone_is (numbers_acked d name)

  -- with the acknowledgements of another
  pub lean_said : (v : PartsView) (first : OfNames LiftedView) (none : OfProcesses AcksView) (said : Look) → first ≡ keep (lean_context d) v.0 → record (look_of (first, none)) { acks = said.acks } ≡ without (numbers_acked d) (record (look_of v) { acks = said.acks })
  unfolding look_of
  lean_said v first none said is i = record {
    contexts = λ name. (ap (λ m. or_nothing (get m name)) is ∙ ap or_nothing (get_keep name_cmp (lean_context d) name_total name_exact v.0 name) ∙ one_context name (get v.0 name)) i;
    acks = said.acks;
  }

-- TIDINESS

module _ (numbers : ℕ → ℕ) where
  post_from : (k p : ℕ) (o : Option (FlatView Given)) (v : FlatView Given) → option_and_then (lean_post numbers k p) o ≡ Some v → o ≡ Some v
  post_from k p None v h = cc
  post_from k p (Some w) v h = either_way (nat_lt k (numbers p)) h where
    either_way : (b : Bool) → cond b None (Some w) ≡ Some v → Some w ≡ Some v
    either_way true e = cc
    either_way false e = e

  call_tidy : (k : ℕ) (o : Option CallView) (m : CallView) → option_and_then (lean_call numbers k) o ≡ Some m → ((c : CallView) → o ≡ Some c → is_tidy_call k c ≡ true) → is_tidy_call k m ≡ true
  call_tidy k None m h tidy = cc
  call_tidy k (Some c) m h tidy =
      let was : is_tidy_call k c ≡ true = tidy c refl in
      let lean : CallView = keep (lean_post numbers k) c in
      let told : all_entries (λ p v. not (is_unknown v)) lean ≡ true = get_entries nat_cmp_total nat_cmp-IsAntisymmetric (λ p v. not (is_unknown v)) lean (λ p v is.
      entries_get nat_cmp_total nat_cmp-IsAntisymmetric (λ p v. not (is_unknown v)) c (second_true (not (is_bare c)) (all_entries (λ p v. not (is_unknown v)) c) (second_true (nat_lt k most_calls) (are_tidy_posts c) was)) p v
      (post_from k p (get c p) v (sym (get_keep nat_cmp (lean_post numbers k) nat_cmp_total nat_cmp-IsAntisymmetric c p) ∙ is))) in
      elim (answer (is_bare lean)) [
        | yes t ↦ let none : None ≡ Some m = sym (ap (λ b. cond b None (Some lean)) t) ∙ h in cc
        | no f ↦
            let same : Some lean ≡ Some m = sym (ap (λ b. cond b None (Some lean)) f) ∙ h in
            subst (λ x. is_tidy_call k x ≡ true) (same_Some lean m same)
            (both_true (nat_lt k most_calls) (are_tidy_posts lean) (first_true (nat_lt k most_calls) (are_tidy_posts c) was)
            (both_true (not (is_bare lean)) (all_entries (λ p v. not (is_unknown v)) lean) (ap not f) told))
      ]

  calls_tidy : (t : TruncView CallView) → all_entries is_tidy_call t.calls ≡ true → all_entries is_tidy_call (lean_calls numbers t).calls ≡ true
  calls_tidy t h = get_entries nat_cmp_total nat_cmp-IsAntisymmetric is_tidy_call (lean_calls numbers t).calls (λ k m is.
      call_tidy k (get t.calls k) m (sym (get_lean_calls numbers t k) ∙ is) (λ c at. entries_get nat_cmp_total nat_cmp-IsAntisymmetric is_tidy_call t.calls h k c at))

module _ (d : AcksView) where
  lifted_tidy : (name : Name) (o : Option LiftedView) (l : LiftedView) → option_and_then (lean_context d name) o ≡ Some l → ((x : LiftedView) → o ≡ Some x → is_tidy_lifted x ≡ true) → is_tidy_lifted l ≡ true
  lifted_tidy name None l h tidy = cc
  lifted_tidy name (Some dead) l h tidy = subst (λ y. is_tidy_lifted y ≡ true) (same_Some dead l h) refl
  lifted_tidy name (Some (live x)) l h tidy =
      let neat : is_neat_entry x ≡ true = second_true (not (says_nothing x)) (is_neat_entry x) (tidy (live x) refl) in
      let lean : EntryView = lean_entry (numbers_acked d name) x in
      elim (answer (says_nothing lean)) [
        | yes t ↦ let none : None ≡ Some l = sym (ap (λ b. cond b None (Some (live lean))) t) ∙ h in cc
        | no f ↦
            let same : Some (live lean) ≡ Some l = sym (ap (λ b. cond b None (Some (live lean))) f) ∙ h in
            subst (λ y. is_tidy_lifted y ≡ true) (same_Some (live lean) l same)
            (both_true (not (says_nothing lean)) (is_neat_entry lean) (ap not f)
            (both_true (has_no_zero x.1.0) (all_entries is_tidy_call lean.1.1.calls) (first_true (has_no_zero x.1.0) (all_entries is_tidy_call x.1.1.calls) neat) (calls_tidy (numbers_acked d name) x.1.1 (second_true (has_no_zero x.1.0) (all_entries is_tidy_call x.1.1.calls) neat))))
      ]

  pub lean_tidy : (v : PartsView) (first : OfNames LiftedView) (none : OfProcesses AcksView) → is_tidy v ≡ true → first ≡ keep (lean_context d) v.0 → none ≡ no_entry → is_tidy (first, none) ≡ true
  lean_tidy v first none tidy is bare =
      both_true (are_tidy_entries first) (are_tidy_acks none)
      (ap are_tidy_entries is ∙ get_entries name_total name_exact (λ name l. is_tidy_lifted l) (keep (lean_context d) v.0) (λ name l at.
      lifted_tidy name (get v.0 name) l (sym (get_keep name_cmp (lean_context d) name_total name_exact v.0 name) ∙ at)
      (λ x was. entries_get name_total name_exact (λ name l. is_tidy_lifted l) v.0 (first_true (are_tidy_entries v.0) (are_tidy_acks v.1) tidy) name x was)))
      (ap are_tidy_acks bare ∙ all_empty nat_cmp_total nat_cmp-IsAntisymmetric (λ p a. is_tidy_acks a))

-- FACTS

lean_post_has : (b : Bool) (v w : FlatView Given) → v ≢ unknown → cond b unknown w ≡ v → w ≡ v
lean_post_has true v w some e = absurd (some (sym e))
lean_post_has false v w some e = e

-- a fact of the board without posts is one of the board
pub without_only : (d : Numbers) (b : Look) (f : Fact) → Has (without d b) f → Has b f
without_only d b (Born name v) h = h
without_only d b (Held name k p v) h = (h.0, lean_post_has (nat_lt k (d name p)) v ((b.contexts name).posts k p) h.0 h.1)
without_only d b (Front name p n) h = h
without_only d b (Dropped name n) h = h
without_only d b (Dead name) h = h
without_only d b (Acknowledged q name p n) h = h

-- ENTRIES OF LOOPS

pub says_some : (l made : LiftedView) → made ≡ l → true ≡ not (is_silent made) → unless_silent l ≡ Some made
says_some l made is t = ap (λ x. unless_silent x) (sym is) ∙ said (is_silent made) t where
  said : (b : Bool) → true ≡ not b → cond b None (Some made) ≡ Some made
  said true t = cc
  said false t = refl

pub says_none : (l made : LiftedView) → made ≡ l → false ≡ not (is_silent made) → unless_silent l ≡ None
says_none l made is t = ap (λ x. unless_silent x) (sym is) ∙ said (is_silent made) t where
  said : (b : Bool) → false ≡ not b → cond b None (Some made) ≡ None
  said true t = refl
  said false t = cc

-- calls with this front and these values
pub trunc_is : (r : TruncView CallView) (d : ℕ) (m : FinMap nat_cmp CallView) → r.dropped ≡ d → r.calls ≡ m → r ≡ trunc_of d m
trunc_is r d m front is = same_trunc r (trunc_of d m) front (λ q. elim (answer (nat_le r.dropped q)) [
  | yes t ↦ ap (λ x. get x q) is ∙ sym (get_cut d m q ∙ ap (λ b. cond b (get m q) None) (ap (λ n. nat_le n q) (sym front) ∙ t))
  | no f ↦ get_dropped r q f ∙ sym (get_cut d m q ∙ ap (λ b. cond b (get m q) None) (ap (λ n. nat_le n q) (sym front) ∙ f))
])

-- what is kept stands where all did
pub from_kept : (f : ℕ → CallView → Option CallView) (d : ℕ) (es : List (ℕ × CallView)) → T (is_from d es) → T (is_from d (kept f es))
from_kept f d [] h = tt
from_kept f d (e ∷ es) h =
    elim (f e.0 e.1) as (λ o. T (is_from d (with_key e.0 o (kept f es)))) [
      | None ↦ from_kept f d es (second _ _ h)
      | Some w ↦ both _ _ (first _ _ h) (from_kept f d es (second _ _ h))
    ]

pub post_kept : (k n : ℕ) (v w : FlatView Given) → n ≤ k → w ≡ v → cond (nat_lt k n) None (Some v) ≡ Some w
post_kept k n v w le is = ap (λ b. cond b None (Some v)) (at_least k n le) ∙ ap Some (sym is) where
  at_least : (k n : ℕ) → n ≤ k → nat_lt k n ≡ false
  at_least k n le = grind (arith, nat_tests)

pub post_cut : (k n : ℕ) (v : FlatView Given) → k < n → cond (nat_lt k n) None (Some v) ≡ None
post_cut k n v lt = ap (λ b. cond b None (Some v)) (lower k n lt) where
  lower : (k n : ℕ) → k < n → nat_lt k n ≡ true
  lower k n lt = grind (arith, nat_tests)

-- THE NUMBERS OF ONE CONTEXT

pub none_numbers : (d : AcksView) (name : Name) (m : OfProcesses ℕ) → get d name ≡ None → m ≡ no_entry → number_at m ≡ numbers_acked d name
none_numbers d name m none is i p = (ap (λ x. or_zero (get x p)) is ∙ ap or_zero (get-empty nat_cmp p) ∙ sym (ap (number_acked p) none)) i

pub some_numbers : (d : AcksView) (name : Name) (m : OfProcesses ℕ) → get d name ≡ Some m → number_at m ≡ numbers_acked d name
some_numbers d name m some i p = sym (ap (number_acked p) some) i
