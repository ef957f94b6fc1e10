-- Calls from a front on.
use Rattle.std.proofs.Common.{◌≡◌, ℕ, Bool, true, false, cond, List, None, refl, sym, ap, ◌∙◌, T}
use Rattle.std.specs.Prelude.{nat_le}
use Rattle.std.specs.Ordering.{nat_cmp}
use Rattle.std.specs.FinMap.{FinMap, entries, from_sorted, get}
use Rattle.join_nest.specs.Trunc.{TruncView, trunc_of}
use Rattle.join_nest.specs.Cut.{is_from, cut}
use Rattle.join_nest.specs.laws.Cut.{get_cut}
use Rattle.join_nest.specs.laws.Trunc.{same_trunc, get_dropped}

module _ {V : Type 0} (t : TruncView V) where
  kept : (q : ℕ) (b : Bool) → nat_le t.dropped q ≡ b → cond b (get t.calls q) None ≡ get t.calls q
  kept q true e = refl
  kept q false e = sym (get_dropped t q e)

pub cut_same : {V : Type 0} (t : TruncView V) → trunc_of t.dropped t.calls ≡ t
cut_same t = same_trunc (trunc_of t.dropped t.calls) t refl (λ q. get_cut t.dropped t.calls q ∙ kept t q (nat_le t.dropped q) refl)

-- a map that has no call below the front is cut nowhere
pub cut_whole : {V : Type 0} (d : ℕ) (m : FinMap nat_cmp V) → T (is_from d (entries m)) → cut d m ≡ m
cut_whole d m above = let t : TruncView _ = record { dropped = d; calls = m; above = above } in ap (λ t. t.calls) (cut_same t)

-- a front, and the calls from it on
pub trunc_read : {V : Type 0} (t : TruncView V) (d : ℕ) (es : List (ℕ × V)) → t.dropped ≡ d → t.calls ≡ from_sorted es → trunc_of d (from_sorted es) ≡ t
trunc_read t d es dropped calls = sym (ap (λ (d : ℕ). trunc_of d (from_sorted es)) dropped) ∙ sym (ap (trunc_of t.dropped) calls) ∙ cut_same t
