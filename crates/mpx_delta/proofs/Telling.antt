-- The least numbers above the first call with posts take the same posts out as the least numbers themselves.
use Rattle.std.proofs.Common.{arith, ◌≡◌, ℕ, zero, suc, ◌<◌, ◌≤◌, ◌+◌, ◌-◌, ◌==◌, min, Bool, true, false, cond, List, [], ◌∷◌, T, nat_lt, Option, Some, None, refl, sym, ap, ◌∙◌, subst}
use Rattle.std.specs.Prelude.{option_and_then}
use Rattle.std.proofs.lemmas.Bool.Decides.{nat_tests}
use Rattle.std.specs.declared.cmp.Ordering.TheVariants.{Less, Equal, Greater}
use Rattle.std.specs.Ordering.{is_lt, nat_cmp}
use Rattle.std.specs.Cmp.{nat_cmp_total}
use Rattle.std.specs.FinMap.{find, is_sorted, entries, entries_sorted, get, get-empty, get-entries, same_map, nat_cmp-IsAntisymmetric}
use Rattle.std.specs.FinMap.Entries.{below_all}
use Rattle.join_core.specs.Flat.{FlatView, unknown}
use Rattle.join_core.specs.laws.Cases.{yes, no, answer, both, first}
use Rattle.join_nest.specs.laws.Entries.{below_less, find_below}
use Rattle.join_nest.specs.Lift.{live, dead}
use Rattle.mpx_name.specs.Name.{Name}
use Rattle.mpx_name.specs.Order.{name_cmp, name_total, name_exact}
use Rattle.mpx_post.specs.Posts.{Given}
use Rattle.mpx_board.specs.Contexts.{ack_in, context_of, look_of, number_acked, or_nothing, or_zero, post_in}
use Rattle.mpx_board.specs.Parts.{AcksView, CallView, EntryView, LiftedView, OfProcesses, PartsView}
use Rattle.mpx_board.specs.Tidy.{is_bare}
use Rattle.mpx_board.proofs.Entries.{bare_gets}
use Rattle.mpx_digest.specs.Digest.{number_at, numbers_acked}
use Rattle.mpx_digest.specs.Keep.{keep}
use Rattle.mpx_digest.proofs.Kept.{get_keep}
use Rattle.mpx_digest.proofs.Gaps.{lower, not_lower}
use Rattle.mpx_digest.proofs.Bare.{bare_number}
use Rattle.mpx_delta.specs.Digests.{common_on, without, without_posts}
use Rattle.mpx_delta.specs.Posted.{above, if_above, least_above, least_context, least_from, least_posted, lesser, said_on}
use Rattle.mpx_delta.proofs.Lesser.{common_more}

-- NUMBERS ABOVE A CALL

-- the number where it is above the call, else 0
abbrev over : ℕ → ℕ → ℕ
over call n = cond (nat_lt call n) n 0

either : (b : Bool) (n : ℕ) → cond b n n ≡ n
either b n = elim b as (λ c. cond c n n ≡ n) [ true ↦ refl | false ↦ refl ]

over_zero : (call : ℕ) → over call 0 ≡ 0
over_zero call = either (nat_lt call 0) 0

or_above : (call n : ℕ) → or_zero (if_above call n) ≡ over call n
or_above call n = elim (nat_lt call n) as (λ b. or_zero (cond b (Some n) None) ≡ cond b n 0) [ true ↦ refl | false ↦ refl ]

over_none : (call n : ℕ) → n ≤ call → over call n ≡ 0
over_none call n le = ap (λ b. cond b n 0) (not_lower call n le)

zero_least : (n : ℕ) → min 0 n ≡ 0
zero_least n = omega arith

least_zero : (n : ℕ) → 0 ≡ min n 0
least_zero n = omega arith

over_min : (call x y : ℕ) → over call (min (over call x) y) ≡ over call (min x y)
over_min call x y = elim (answer (nat_lt call x)) [
  | yes t ↦ ap (λ b. over call (min (cond b x 0) y)) t
  | no f ↦
      ap (λ b. over call (min (cond b x 0) y)) f
      ∙ ap (over call) (zero_least y)
      ∙ over_zero call
      ∙ sym (over_none call (min x y) (omega (arith, lower call x f)))
]

-- a call at or above that one is told apart by both
over_tells : (call k n : ℕ) → call ≤ k → nat_lt k (over call n) ≡ nat_lt k n
over_tells call k n le = elim (answer (nat_lt call n)) [
  | yes t ↦ ap (λ b. nat_lt k (cond b n 0)) t
  | no f ↦ ap (λ b. nat_lt k (cond b n 0)) f ∙ not_lower k 0 (omega arith) ∙ sym (not_lower k n (omega (arith, le, lower call n f)))
]

pub is_above : (call n : ℕ) → call < n → if_above call n ≡ Some n
is_above call n lt = ap (λ b. cond b (Some n) None) (test call n lt) where
  test : (call n : ℕ) → call < n → nat_lt call n ≡ true
  test call n lt = grind (arith, nat_tests)

pub not_above : (call n : ℕ) → n ≤ call → if_above call n ≡ None
not_above call n le = ap (λ b. cond b (Some n) None) (not_lower call n le)

-- THE LEAST OF ALL

above_at : (call : ℕ) (o : Option (OfProcesses ℕ)) (p : ℕ) → number_at (above call o) p ≡ over call (number_acked p o)
above_at call None p = ap or_zero (get-empty nat_cmp p) ∙ sym (over_zero call)
above_at call (Some m) p = ap or_zero (get_keep nat_cmp (λ p n. if_above call n) nat_cmp_total nat_cmp-IsAntisymmetric m p) ∙ each (get m p) where
  each : (o : Option ℕ) → or_zero (option_and_then (λ n. if_above call n) o) ≡ over call (or_zero o)
  each None = sym (over_zero call)
  each (Some n) = or_above call n

lesser_at : (call : ℕ) (m : OfProcesses ℕ) (o : Option (OfProcesses ℕ)) (p : ℕ) → number_at (lesser call m o) p ≡ over call (min (number_at m p) (number_acked p o))
lesser_at call m None p = ap or_zero (get-empty nat_cmp p) ∙ sym (over_zero call) ∙ ap (over call) (least_zero (number_at m p))
lesser_at call m (Some others) p = ap or_zero (get_keep nat_cmp (λ p n. if_above call (min n (number_at others p))) nat_cmp_total nat_cmp-IsAntisymmetric m p) ∙ each (get m p) where
  each : (o : Option ℕ) → or_zero (option_and_then (λ n. if_above call (min n (number_at others p))) o) ≡ over call (min (or_zero o) (number_at others p))
  each None = sym (over_zero call) ∙ ap (over call) (sym (zero_least (number_at others p)))
  each (Some n) = or_above call (min n (number_at others p))

module _ (w : PartsView) (name : Name) where
  said_at : (q p : ℕ) → number_acked p (said_on w.1 name q) ≡ (look_of w).acks q name p
  unfolding look_of
  said_at q p = each (get w.1 q) where
    each : (o : Option AcksView) → number_acked p (option_and_then (λ acks. get acks name) o) ≡ ack_in name p o
    each None = refl
    each (Some acks) = refl

  first_common : (p : ℕ) → common_on 1 (look_of w) name p ≡ (look_of w).acks 0 name p
  first_common p = refl

  least_above_at : (call more p : ℕ) → number_at (least_above w.1 name call more) p ≡ over call (common_on (suc more) (look_of w) name p)
  least_above_at call zero p = above_at call (said_on w.1 name 0) p ∙ ap (over call) (said_at 0 p ∙ sym (first_common p))
  least_above_at call (suc n) p =
      lesser_at call (least_above w.1 name call n) (said_on w.1 name (suc n)) p
      ∙ ap (λ x. over call (min x (number_acked p (said_on w.1 name (suc n))))) (least_above_at call n p)
      ∙ ap (λ y. over call (min (over call (common_on (suc n) (look_of w) name p)) y)) (said_at (suc n) p)
      ∙ over_min call (common_on (suc n) (look_of w) name p) ((look_of w).acks (suc n) name p)
      ∙ ap (over call) (sym (common_more (suc n) (look_of w) name p (omega arith)) ∙ ap (λ k. common_on k (look_of w) name p) (one (suc n))) where
        one : (n : ℕ) → n + 1 ≡ suc n
        one n = omega arith

  -- THE POSTS THAT STAY

  both_unknown : (a b : Bool) → ◌≡◌ {A = FlatView Given} (cond a unknown unknown) (cond b unknown unknown)
  both_unknown true true = refl
  both_unknown true false = refl
  both_unknown false true = refl
  both_unknown false false = refl

  -- no call stands before the first
  none_before : (k : ℕ) (c : ℕ × CallView) (calls : List (ℕ × CallView)) → T (is_sorted nat_cmp (c ∷ calls)) → nat_lt k c.0 ≡ true → find nat_cmp k (c ∷ calls) ≡ None
  none_before k c calls sorted t =
      let less : nat_cmp k c.0 ≡ Less = ap (λ b. cond b Less (cond (k == c.0) Equal Greater)) t in
      find_below nat_cmp_total k (c ∷ calls) (both (is_lt (nat_cmp k c.0)) (below_all nat_cmp k calls) (subst (λ r. T (is_lt r)) (sym less) tt) (below_less nat_cmp_total k c.0 calls less (first (below_all nat_cmp c.0 calls) (is_sorted nat_cmp calls) sorted)))

  same_post : (more p k : ℕ) (calls : List (ℕ × CallView)) → T (is_sorted nat_cmp calls)
      → cond (nat_lt k (number_at (least_from w.1 name more calls) p)) unknown (post_in p (find nat_cmp k calls)) ≡ cond (nat_lt k (common_on (suc more) (look_of w) name p)) unknown (post_in p (find nat_cmp k calls))
  same_post more p k [] sorted = both_unknown (nat_lt k (number_at (least_from w.1 name more []) p)) (nat_lt k (common_on (suc more) (look_of w) name p))
  same_post more p k (c ∷ calls) sorted =
      let least = common_on (suc more) (look_of w) name p in
      let mine = number_at (least_above w.1 name c.0 more) p in
      elim (answer (nat_lt k c.0)) [
        | yes t ↦
            let none = none_before k c calls sorted t in
            ap (λ o. cond (nat_lt k mine) unknown (post_in p o)) none
            ∙ both_unknown (nat_lt k mine) (nat_lt k least)
            ∙ sym (ap (λ o. cond (nat_lt k least) unknown (post_in p o)) none)
        | no f ↦
            ap (λ n. cond (nat_lt k n) unknown (post_in p (find nat_cmp k (c ∷ calls)))) (least_above_at c.0 more p)
            ∙ ap (λ b. cond b unknown (post_in p (find nat_cmp k (c ∷ calls)))) (over_tells c.0 k least (lower k c.0 f))
      ]

  live_post : (more : ℕ) (e : EntryView) (k p : ℕ)
      → cond (nat_lt k (number_acked p (least_context w.1 more name (live e)))) unknown (post_in p (get e.1.1.calls k)) ≡ cond (nat_lt k (common_on (suc more) (look_of w) name p)) unknown (post_in p (get e.1.1.calls k))
  live_post more e k p =
      let at = get-entries e.1.1.calls k in
      let mine = number_at (least_posted w.1 more name (live e)) p in
      let least = common_on (suc more) (look_of w) name p in
      ap (λ n. cond (nat_lt k n) unknown (post_in p (get e.1.1.calls k))) (bare_number (least_posted w.1 more name (live e)) p)
      ∙ ap (λ o. cond (nat_lt k mine) unknown (post_in p o)) at
      ∙ same_post more p k (entries e.1.1.calls) (entries_sorted e.1.1.calls)
      ∙ sym (ap (λ o. cond (nat_lt k least) unknown (post_in p o)) at)

  one_context : (more : ℕ) (o : Option LiftedView) → without_posts (λ p. number_acked p (option_and_then (least_context w.1 more name) o)) (or_nothing o) ≡ without_posts (common_on (suc more) (look_of w) name) (or_nothing o)
  one_context more None i = record { birth = unknown; fronts = λ p. 0; dropped = 0; posts = λ k p. both_unknown (nat_lt k (number_acked p None)) (nat_lt k (common_on (suc more) (look_of w) name p)) i; dead = false }
  one_context more (Some dead) i = record { birth = unknown; fronts = λ p. 0; dropped = 0; posts = λ k p. both_unknown (nat_lt k (number_acked p (least_context w.1 more name dead))) (nat_lt k (common_on (suc more) (look_of w) name p)) i; dead = true }
  one_context more (Some (live e)) i = record { birth = e.0; fronts = (context_of e).fronts; dropped = e.1.1.dropped; posts = λ k p. live_post more e k p i; dead = false }

-- of two boards, whose posts and whose acknowledgements count
pub posted_without : (v w : PartsView) (more : ℕ) → without (numbers_acked (keep (least_context w.1 more) v.0)) (look_of v) ≡ without (common_on (suc more) (look_of w)) (look_of v)
unfolding look_of
posted_without v w more i = record {
  contexts = λ name. (ap (λ o. without_posts (λ p. number_acked p o) (or_nothing (get v.0 name))) (get_keep name_cmp (least_context w.1 more) name_total name_exact v.0 name) ∙ one_context w name more (get v.0 name)) i;
  acks = (look_of v).acks;
}

-- NOTHING LEFT

-- nothing is lesser than nothing
lesser_bare : (call : ℕ) (m : OfProcesses ℕ) (o : Option (OfProcesses ℕ)) → is_bare m ≡ true → lesser call m o ≡ m
lesser_bare call m o bare = same_map nat_cmp_total nat_cmp-IsAntisymmetric (lesser call m o) m (λ q. gets o q ∙ sym (bare_gets nat_cmp_total nat_cmp-IsAntisymmetric m bare q)) where
  gets : (o : Option (OfProcesses ℕ)) (q : ℕ) → get (lesser call m o) q ≡ None
  gets None q = get-empty nat_cmp q
  gets (Some others) q =
      get_keep nat_cmp (λ p n. if_above call (min n (number_at others p))) nat_cmp_total nat_cmp-IsAntisymmetric m q
      ∙ ap (option_and_then (λ n. if_above call (min n (number_at others q)))) (bare_gets nat_cmp_total nat_cmp-IsAntisymmetric m bare q)

module _ (all : OfProcesses AcksView) (name : Name) (call n : ℕ) (bare : is_bare (least_above all name call n) ≡ true) where
  stays_by : (k : ℕ) → least_above all name call n ≡ least_above all name call (n + k)
  stays_by zero = ap (least_above all name call) (same n) where
    same : (n : ℕ) → n ≡ n + 0
    same n = omega arith
  stays_by (suc k) =
      sym (lesser_bare call (least_above all name call n) (said_on all name (suc (n + k))) bare)
      ∙ ap (λ m. lesser call m (said_on all name (suc (n + k)))) (stays_by k)
      ∙ ap (least_above all name call) (more n k) where
        more : (n k : ℕ) → suc (n + k) ≡ n + suc k
        more n k = omega arith

  -- where nothing is left of some processes, nothing is left of more
  pub stays_none : (m : ℕ) → n ≤ m → least_above all name call n ≡ least_above all name call m
  stays_none m le = stays_by (m - n) ∙ ap (least_above all name call) (back n m le) where
    back : (n m : ℕ) → n ≤ m → n + (m - n) ≡ m
    back n m le = omega arith
