-- Contexts without posts, set at their places, and what stays as it is.
use Rattle.std.proofs.Common.{arith, ◌≡◌, ℕ, zero, suc, ◌<◌, ◌≤◌, ◌+◌, ◌&&◌, Bool, true, false, not, cond, List, [], ◌∷◌, ◌++◌, length, take, get_or, Option, Some, None, refl, sym, ap, ◌∙◌, subst, nat_lt, nat_le}
use Rattle.std.specs.Prelude.{option_and_then}
use Rattle.std.proofs.lemmas.Bool.Decides.{nat_tests}
use Rattle.std.proofs.lemmas.List.{take_more, take_all}
use Rattle.std.specs.Ordering.{nat_cmp}
use Rattle.std.specs.Cmp.{nat_cmp_total}
use Rattle.std.specs.FinMap.{empty as no_entry, from_sorted, get, is_sorted, same_map, nat_cmp-IsAntisymmetric}
use Rattle.join_core.specs.Flat.{FlatView}
use Rattle.join_core.specs.laws.Cases.{both_true, first_true, second_true}
use Rattle.join_nest.specs.Entries.{with_key}
use Rattle.join_nest.specs.Lift.{live, dead}
use Rattle.join_nest.specs.Placed.{rise_from, set_value, set_values, taken, with_values}
use Rattle.join_nest.specs.Seen.{seen}
use Rattle.join_nest.specs.Trunc.{TruncView}
use Rattle.join_nest.proofs.Exchanges.{map_back, map_with}
use Rattle.join_nest.proofs.RaisedPlaces.{set_more}
use Rattle.join_nest.proofs.Steps.{length_seen}
use Rattle.mpx_name.specs.Name.{Name}
use Rattle.mpx_name.specs.Order.{name_cmp}
use Rattle.mpx_post.specs.Posts.{Given}
use Rattle.mpx_post.specs.Drafts.{most_calls}
use Rattle.mpx_board.specs.Contexts.{number_acked, numbers_acked}
use Rattle.mpx_board.specs.Parts.{AcksView, CallView, EntryView, LiftedView, OfNames, OfProcesses, PartsView}
use Rattle.mpx_board.specs.Tidy.{all_entries, are_tidy_acks, are_tidy_entries, are_tidy_posts, has_no_zero, is_bare, is_neat_entry, is_tidy, is_tidy_call, is_tidy_lifted, is_unknown, says_nothing}
use Rattle.mpx_board.proofs.Entries.{entries_get}
use Rattle.mpx_digest.specs.Keep.{keep, kept, unless_bare}
use Rattle.mpx_delta.specs.Lean.{lean_call, lean_calls, lean_context, lean_post, unless_silent, with_contexts}
use Rattle.mpx_digest.proofs.Kept.{get_keep}
use Rattle.mpx_delta.proofs.Leaning.{lean_tidy, trunc_is}
use Rattle.mpx_digest.proofs.Steps.{one_more}

-- WITHOUT POSTS BELOW 0

unless_not : {A : Type 0} (b : Bool) (x : A) → b ≡ false → cond b None (Some x) ≡ Some x
unless_not b x f = ap (λ t. cond t None (Some x)) f

is_false : (b : Bool) → not b ≡ true → b ≡ false
is_false true h = cc
is_false false h = refl

module _ (numbers : ℕ → ℕ) (none : (p : ℕ) → numbers p ≡ 0) where
  post_stays : (k p : ℕ) (o : Option (FlatView Given)) → option_and_then (lean_post numbers k p) o ≡ o
  post_stays k p None = refl
  post_stays k p (Some v) = unless_not (nat_lt k (numbers p)) v (not_below k (numbers p) (none p)) where
    not_below : (k n : ℕ) → n ≡ 0 → nat_lt k n ≡ false
    not_below k n is = grind (arith, nat_tests)

  posts_stay : (k : ℕ) (m : CallView) → keep (lean_post numbers k) m ≡ m
  posts_stay k m = same_map nat_cmp_total nat_cmp-IsAntisymmetric (keep (lean_post numbers k) m) m (λ p.
      get_keep nat_cmp (lean_post numbers k) nat_cmp_total nat_cmp-IsAntisymmetric m p ∙ post_stays k p (get m p))

  call_stays : (k : ℕ) (m : CallView) → is_tidy_call k m ≡ true → lean_call numbers k m ≡ Some m
  call_stays k m tidy =
      ap unless_bare (posts_stay k m)
      ∙ unless_not (is_bare m) m (is_false (is_bare m) (first_true (not (is_bare m)) (all_entries (λ p v. not (is_unknown v)) m) (second_true (nat_lt k most_calls) (are_tidy_posts m) tidy)))

  calls_stay : (t : TruncView CallView) → all_entries is_tidy_call t.calls ≡ true → t ≡ lean_calls numbers t
  calls_stay t tidy = trunc_is t t.dropped (keep (lean_call numbers) t.calls) refl (same_map nat_cmp_total nat_cmp-IsAntisymmetric t.calls (keep (lean_call numbers) t.calls) (λ k.
      sym (get_keep nat_cmp (lean_call numbers) nat_cmp_total nat_cmp-IsAntisymmetric t.calls k
      ∙ stays k (get t.calls k) (λ c at. entries_get nat_cmp_total nat_cmp-IsAntisymmetric is_tidy_call t.calls tidy k c at)))) where
        stays : (k : ℕ) (o : Option CallView) → ((c : CallView) → o ≡ Some c → is_tidy_call k c ≡ true) → option_and_then (lean_call numbers k) o ≡ o
        stays k None h = refl
        stays k (Some c) h = call_stays k c (h c refl)

-- a context of which the digest says nothing
pub stays_live : (d : AcksView) (name : Name) (e : EntryView) → get d name ≡ None → is_tidy_lifted (live e) ≡ true → lean_context d name (live e) ≡ Some (live e)
stays_live d name e none tidy =
    let neat : is_neat_entry e ≡ true = second_true (not (says_nothing e)) (is_neat_entry e) tidy in
    let calls = calls_stay (numbers_acked d name) (λ p. ap (number_acked p) none) e.1.1 (second_true (has_no_zero e.1.0) (all_entries is_tidy_call e.1.1.calls) neat) in
    ap (λ t. unless_silent (live (e.0, (e.1.0, t)))) (sym calls)
    ∙ unless_not (says_nothing e) (live e) (is_false (says_nothing e) (first_true (not (says_nothing e)) (is_neat_entry e) tidy))

pub stays_dead : (d : AcksView) (name : Name) → lean_context d name dead ≡ Some dead
stays_dead d name = refl

-- PLACES BELOW A NUMBER

-- each place is below
abbrev pub are_before : {V : Type 0} → ℕ → List (ℕ × V) → Bool
are_before n [] = true
are_before n (c ∷ cs) = nat_lt c.0 n && are_before n cs

is_less : (k n : ℕ) → k < n → nat_lt k n ≡ true
is_less k n lt = grind (arith, nat_tests)

module _ {V : Type 0} where
  before_less : (n : ℕ) (c : ℕ × V) (cs : List (ℕ × V)) → are_before n (c ∷ cs) ≡ true → c.0 < n
  before_less n c cs h = let t : nat_lt c.0 n ≡ true = first_true (nat_lt c.0 n) (are_before n cs) h in grind (arith, nat_tests)

  before_rest : (n : ℕ) (c : ℕ × V) (cs : List (ℕ × V)) → are_before n (c ∷ cs) ≡ true → are_before n cs ≡ true
  before_rest n c cs h = second_true (nat_lt c.0 n) (are_before n cs) h

  before_more : (n m : ℕ) (cs : List (ℕ × V)) → n ≤ m → are_before n cs ≡ true → are_before m cs ≡ true
  before_more n m [] le h = refl
  before_more n m (c ∷ cs) le h =
      let lt : c.0 < n = before_less n c cs h in
      both_true (nat_lt c.0 m) (are_before m cs) (is_less c.0 m (omega arith)) (before_more n m cs le (before_rest n c cs h))

  before_last : (n : ℕ) (v : V) (cs : List (ℕ × V)) → are_before n cs ≡ true → are_before (n + 1) (cs ++ (n, v) ∷ []) ≡ true
  before_last n v [] h = both_true (nat_lt n (n + 1)) true (is_less n (n + 1) (omega arith)) refl
  before_last n v (c ∷ cs) h =
      let lt : c.0 < n = before_less n c cs h in
      both_true (nat_lt c.0 (n + 1)) (are_before (n + 1) (cs ++ (n, v) ∷ [])) (is_less c.0 (n + 1) (omega arith)) (before_last n v cs (before_rest n c cs h))

  rise_last : (m n : ℕ) (v : V) (cs : List (ℕ × V)) → m ≤ n → are_before n cs ≡ true → rise_from m cs ≡ true → rise_from m (cs ++ (n, v) ∷ []) ≡ true
  rise_last m n v [] le h r = both_true (nat_le m n) true (at_most m n le) refl where
    at_most : (m n : ℕ) → m ≤ n → nat_le m n ≡ true
    at_most m n le = grind (arith, nat_tests)
  rise_last m n v (c ∷ cs) le h r =
      let lt : c.0 < n = before_less n c cs h in
      both_true (nat_le m c.0) (rise_from (suc c.0) (cs ++ (n, v) ∷ [])) (first_true (nat_le m c.0) (rise_from (suc c.0) cs) r)
      (rise_last (suc c.0) n v cs (omega arith) (before_rest n c cs h) (second_true (nat_le m c.0) (rise_from (suc c.0) cs) r))

-- VALUES SET BEFORE THE LAST

module _ {K V : Type 0} where
  set_front : (xs ys : List (K × V)) (at : ℕ) (v : V) → at < length xs → set_value (xs ++ ys) at v ≡ set_value xs at v ++ ys
  set_front [] ys at v lt = absurd (omega arith)
  set_front (x ∷ xs) ys zero v lt = refl
  set_front (x ∷ xs) ys (suc at) v lt = ap (λ l. x ∷ l) (set_front xs ys at v (omega arith))

  length_set : (xs : List (K × V)) (at : ℕ) (v : V) → length (set_value xs at v) ≡ length xs
  length_set [] at v = refl
  length_set (x ∷ xs) zero v = refl
  length_set (x ∷ xs) (suc at) v = ap suc (length_set xs at v)

  length_values : (xs : List (K × V)) (cs : List (ℕ × V)) → length (set_values xs cs) ≡ length xs
  length_values xs [] = refl
  length_values xs (c ∷ cs) = length_values (set_value xs c.0 c.1) cs ∙ length_set xs c.0 c.1

  values_front : (n : ℕ) (xs ys : List (K × V)) (cs : List (ℕ × V)) → n ≡ length xs → are_before n cs ≡ true → set_values (xs ++ ys) cs ≡ set_values xs cs ++ ys
  values_front n xs ys [] is h = refl
  values_front n xs ys (c ∷ cs) is h =
      let lt : c.0 < n = before_less n c cs h in
      ap (λ l. set_values l cs) (set_front xs ys c.0 c.1 (omega (arith, lt, is)))
      ∙ values_front n (set_value xs c.0 c.1) ys cs (is ∙ sym (length_set xs c.0 c.1)) (before_rest n c cs h)

  set_last : (n : ℕ) (xs : List (K × V)) (e : K × V) (v : V) → n ≡ length xs → set_value (xs ++ e ∷ []) n v ≡ xs ++ (e.0, v) ∷ []
  set_last zero [] e v is = refl
  set_last (suc n) [] e v is = absurd (omega (arith, is))
  set_last zero (x ∷ xs) e v is = absurd (omega (arith, is))
  set_last (suc n) (x ∷ xs) e v is = ap (λ l. x ∷ l) (set_last n xs e v (omega (arith, is)))

-- A TURN OF THE LOOP

module _ {K V J : Type 0} (f : K → V → Option V) (view : J → V) (es : List (K × J)) where
  -- the first so many entries with what was made at its places are what is kept of them
  abbrev pub PlacedSoFar : List (ℕ × J) → ℕ → Type 0
  PlacedSoFar made i = record {
    set : set_values (seen view (take i es)) (seen view made) ≡ kept f (seen view (take i es));
    rising : rise_from 0 made ≡ true;
    before : are_before i made ≡ true;
  }

  seen_both : {A : Type 0} (xs ys : List (A × J)) → seen view (xs ++ ys) ≡ seen view xs ++ seen view ys
  seen_both [] ys = refl
  seen_both (x ∷ xs) ys = ap (λ l. (x.0, view x.1) ∷ l) (seen_both xs ys)

  seen_before : (n : ℕ) (cs : List (ℕ × J)) → are_before n (seen view cs) ≡ are_before n cs
  seen_before n [] = refl
  seen_before n (c ∷ cs) = ap (λ b. nat_lt c.0 n && b) (seen_before n cs)

  seen_next : (i : ℕ) (e : K × J) → i < length es → e ≡ get_or es i e → seen view (take (i + 1) es) ≡ seen view (take i es) ++ (e.0, view e.1) ∷ []
  seen_next i e lt is = ap (seen view) (take_more es i e lt ∙ ap (λ x. take i es ++ x ∷ []) (sym is)) ∙ seen_both (take i es) (e ∷ [])

  so_long : (i : ℕ) → i < length es → i ≡ length (seen view (take i es))
  so_long i lt = sym (length_seen view (take i es) ∙ long i es lt) where
    long : (i : ℕ) (es : List (K × J)) → i < length es → length (take i es) ≡ i
    long zero es lt = refl
    long (suc i) [] lt = absurd (omega arith)
    long (suc i) (e ∷ es) lt = ap suc (long i es (omega arith))

  -- an entry stays
  pub place_none : (made : List (ℕ × J)) (i : ℕ) (e : K × J) → i < length es → e ≡ get_or es i e → f e.0 (view e.1) ≡ Some (view e.1) → PlacedSoFar made i → PlacedSoFar made (i + 1)
  place_none made i e lt is same h = record {
    set =
        ap (λ l. set_values l (seen view made)) (seen_next i e lt is)
        ∙ values_front i (seen view (take i es)) ((e.0, view e.1) ∷ []) (seen view made) (so_long i lt) (seen_before i made ∙ h.before)
        ∙ ap (λ l. l ++ (e.0, view e.1) ∷ []) h.set
        ∙ ap (λ o. kept f (seen view (take i es)) ++ with_key e.0 o []) (sym same)
        ∙ sym (one_more f view view es i e lt is);
    rising = h.rising;
    before = before_more i (i + 1) made (omega arith) h.before;
  }

  -- another takes its place
  pub place_one : (made : List (ℕ × J)) (i : ℕ) (e : K × J) (v : J) → i < length es → e ≡ get_or es i e → f e.0 (view e.1) ≡ Some (view v) → PlacedSoFar made i → PlacedSoFar (made ++ (i, v) ∷ []) (i + 1)
  place_one made i e v lt is some h = record {
    set =
        (λ t. set_values (seen_next i e lt is t) (seen_both made ((i, v) ∷ []) t))
        ∙ set_more (seen view (take i es) ++ (e.0, view e.1) ∷ []) (seen view made) ((i, view v) ∷ [])
        ∙ ap (λ l. set_value l i (view v)) (values_front i (seen view (take i es)) ((e.0, view e.1) ∷ []) (seen view made) (so_long i lt) (seen_before i made ∙ h.before))
        ∙ set_last i (set_values (seen view (take i es)) (seen view made)) (e.0, view e.1) (view v) (so_long i lt ∙ sym (length_values (seen view (take i es)) (seen view made)))
        ∙ ap (λ l. l ++ (e.0, view v) ∷ []) h.set
        ∙ ap (λ o. kept f (seen view (take i es)) ++ with_key e.0 o []) (sym some)
        ∙ sym (one_more f view view es i e lt is);
    rising = rise_last 0 i v made (omega arith) h.before h.rising;
    before = before_last i v made h.before;
  }

  pub all_placed : (made : List (ℕ × J)) (i : ℕ) → length es ≤ i → PlacedSoFar made i → set_values (seen view es) (seen view made) ≡ kept f (seen view es)
  all_placed made i le h = (λ t. set_values (seen view (sym (take_all i es le) t)) (seen view made)) ∙ h.set ∙ ap (λ l. kept f (seen view l)) (take_all i es le)

-- THE BOARD WITH OTHER CONTEXTS

module _ {J : Type 0} (view : J → LiftedView) (v : PartsView) (es made : List (Name × J)) (cs : List (ℕ × J)) (first : OfNames LiftedView) (second : OfProcesses AcksView)
    (was : v.0 ≡ from_sorted (seen view es)) (said : second ≡ v.1) (sorted : is_sorted name_cmp es ≡ true) (set : made ≡ set_values es cs) (now : first ≡ from_sorted (seen view made)) where
  -- with these at their places
  pub contexts_set : (first, second) ≡ with_contexts v (seen view cs)
  contexts_set i = ((now ∙ map_with name_cmp view es made cs set sorted ∙ ap (λ m. with_values m (seen view cs)) (sym was)) i, said i)

  -- and with those that stood there
  pub contexts_back : (old : List (ℕ × J)) → old ≡ taken es cs → rise_from 0 cs ≡ true → with_contexts (first, second) (seen view old) ≡ v
  contexts_back old o rising i = ((ap (λ m. with_values m (seen view old)) now ∙ sym (map_back name_cmp view es made cs set sorted old o rising) ∙ sym was) i, said i)

-- it is tidy, as far as it is a lean one
pub placed_tidy : (d : AcksView) (v : PartsView) (cs : List (ℕ × LiftedView)) → is_tidy v ≡ true → with_values v.0 cs ≡ keep (lean_context d) v.0 → is_tidy (with_contexts v cs) ≡ true
placed_tidy d v cs tidy is =
    both_true (are_tidy_entries (with_values v.0 cs)) (are_tidy_acks v.1)
    (first_true (are_tidy_entries (with_values v.0 cs)) (are_tidy_acks no_entry) (lean_tidy d v (with_values v.0 cs) no_entry tidy is refl))
    (second_true (are_tidy_entries v.0) (are_tidy_acks v.1) tidy)

pub placed_on : (d : AcksView) (m n : OfNames LiftedView) (cs : List (ℕ × LiftedView)) → m ≡ n → with_values m cs ≡ keep (lean_context d) m → with_values n cs ≡ keep (lean_context d) n
placed_on d m n cs = subst (λ x. with_values x cs ≡ keep (lean_context d) x)
