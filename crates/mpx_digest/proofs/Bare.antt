-- Maps that are left out where they are bare.
use Rattle.std.proofs.Common.{◌≡◌, ℕ, true, false, cond, not, Bool, Option, Some, None, refl, sym, ap, ◌∙◌, subst}
use Rattle.std.proofs.lemmas.Option.{same_Some}
use Rattle.std.specs.declared.cmp.Ordering.{Ordering}
use Rattle.std.specs.Cmp.{nat_cmp_total}
use Rattle.std.specs.FinMap.{FinMap, nat_cmp-IsAntisymmetric}
use Rattle.join_core.specs.laws.Cases.{yes, no, answer, both_true}
use Rattle.mpx_board.specs.Contexts.{or_zero, number_acked}
use Rattle.mpx_board.specs.Parts.{OfProcesses}
use Rattle.mpx_board.specs.Tidy.{is_bare, has_no_zero, is_tidy_numbers}
use Rattle.mpx_board.proofs.Entries.{bare_gets}
use Rattle.mpx_digest.specs.Digest.{number_at}
use Rattle.mpx_digest.specs.Keep.{unless_bare}

empty_some : {A : Type 0} (b : Bool) (o : Option A) → not b ≡ true → cond b None o ≡ o
empty_some true o h = cc
empty_some false o h = refl

empty_none : {A : Type 0} (b : Bool) (o : Option A) → not b ≡ false → cond b None o ≡ None
empty_none true o h = refl
empty_none false o h = cc

pub bare_some : {K V : Type 0} {R : K → K → Ordering} (made lean : FinMap R V) → made ≡ lean → (b : Bool) → b ≡ is_bare made → not b ≡ true → unless_bare lean ≡ Some made
bare_some made lean is b told h = ap unless_bare (sym is) ∙ ap (λ x. cond x None (Some made)) (sym told) ∙ empty_some b (Some made) h

pub bare_none : {K V : Type 0} {R : K → K → Ordering} (made lean : FinMap R V) → made ≡ lean → (b : Bool) → b ≡ is_bare made → not b ≡ false → unless_bare lean ≡ None
bare_none made lean is b told h = ap unless_bare (sym is) ∙ ap (λ x. cond x None (Some made)) (sym told) ∙ empty_none b (Some made) h

pub bare_number : (m : OfProcesses ℕ) (p : ℕ) → number_acked p (unless_bare m) ≡ number_at m p
bare_number m p = elim (answer (is_bare m)) [
  | yes t ↦ ap (λ b. number_acked p (cond b None (Some m))) t ∙ ap or_zero (sym (bare_gets nat_cmp_total nat_cmp-IsAntisymmetric m t p))
  | no f ↦ ap (λ b. number_acked p (cond b None (Some m))) f
]

-- some entries, with no 0
pub unless_bare_tidy : (m : OfProcesses ℕ) (n : OfProcesses ℕ) → has_no_zero m ≡ true → unless_bare m ≡ Some n → is_tidy_numbers n ≡ true
unless_bare_tidy m n neat is = elim (answer (is_bare m)) [
  | yes t ↦ cc (sym (ap (λ b. cond b None (Some m)) t) ∙ is)
  | no f ↦ subst (λ x. is_tidy_numbers x ≡ true) (same_Some m n (sym (ap (λ b. cond b None (Some m)) f) ∙ is)) (both_true (not (is_bare m)) (has_no_zero m) (ap not f) neat)
]
