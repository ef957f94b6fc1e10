-- The order of steps and names.
use Rattle.std.specs.Prelude.{◌≡◌, ℕ, true, List, [], ◌∷◌, reverse, refl}
use Rattle.std.proofs.Common.{sym, ap, subst, ◌∙◌}
use Rattle.std.specs.declared.cmp.Ordering.{Ordering}
use Rattle.std.specs.declared.cmp.Ordering.TheVariants.{Less, Equal, Greater}
use Rattle.std.specs.Ordering.{nat_cmp, ordering_then, is_eq, eq_by_cmp}
use Rattle.std.specs.Cmp.{IsTotalOrder, on_total, tied_itself}
use Rattle.std.specs.Cmp.Lexicographic.{slice_cmp, nat_list_cmp_total, lists_total}
use Rattle.std.specs.FinMap.{IsAntisymmetric, slice_cmp-IsAntisymmetric, nat_cmp-IsAntisymmetric}
use Rattle.std.proofs.lemmas.List.{reverse-reverse}
use Rattle.join_core.specs.Joins.{IsEquality}
use Rattle.mpx_name.specs.declared.steps.Step.{Step}
use Rattle.mpx_name.specs.declared.steps.Step.TheVariants.{Child, Gathering}

-- children before gatherings; children by call, then colour; gatherings by tag, then members
abbrev pub step_cmp : Step → Step → Ordering
step_cmp (Child call colour) (Child k c) = ordering_then (nat_cmp call k) (nat_cmp colour c)
step_cmp (Child call colour) (Gathering t ps) = Less
step_cmp (Gathering tag members) (Child k c) = Greater
step_cmp (Gathering tag members) (Gathering t ps) = ordering_then (nat_cmp tag t) (slice_cmp nat_cmp members ps)

-- step by step from the oldest, a name before its extensions; a name is the list of its steps, the newest first
abbrev pub name_cmp : List Step → List Step → Ordering
name_cmp a b = slice_cmp step_cmp (reverse a) (reverse b)

-- a step as a list of numbers in the same order
step_numbers : Step → List ℕ
step_numbers (Child call colour) = 0 ∷ call ∷ colour ∷ []
step_numbers (Gathering tag members) = 1 ∷ tag ∷ members

then-Equal : (o : Ordering) → ordering_then o Equal ≡ o
then-Equal Less = refl
then-Equal Equal = refl
then-Equal Greater = refl

step_cmp-on_numbers : (a b : Step) → slice_cmp nat_cmp (step_numbers a) (step_numbers b) ≡ step_cmp a b
unfolding step_numbers
step_cmp-on_numbers (Child call colour) (Child k c) = ap (ordering_then (nat_cmp call k)) (then-Equal (nat_cmp colour c))
step_cmp-on_numbers (Child call colour) (Gathering t ps) = refl
step_cmp-on_numbers (Gathering tag members) (Child k c) = refl
step_cmp-on_numbers (Gathering tag members) (Gathering t ps) = refl

step_numbers-injective : (a b : Step) → step_numbers a ≡ step_numbers b → a ≡ b
unfolding step_numbers
step_numbers-injective (Child call colour) (Child k c) e = cc
step_numbers-injective (Child call colour) (Gathering t ps) e = cc
step_numbers-injective (Gathering tag members) (Child k c) e = cc
step_numbers-injective (Gathering tag members) (Gathering t ps) e = cc

pub step_total : IsTotalOrder step_cmp
step_total = subst IsTotalOrder (λ i a b. step_cmp-on_numbers a b i) (on_total step_numbers nat_list_cmp_total)

pub step_exact : IsAntisymmetric step_cmp
step_exact a b e =
    step_numbers-injective a b (slice_cmp-IsAntisymmetric nat_cmp-IsAntisymmetric _ _ (step_cmp-on_numbers a b ∙ e))

pub name_total : IsTotalOrder name_cmp
name_total = on_total reverse (lists_total step_total)

pub name_exact : IsAntisymmetric name_cmp
name_exact a b e =
    sym (reverse-reverse a) ∙ ap reverse (slice_cmp-IsAntisymmetric step_exact (reverse a) (reverse b) e) ∙ reverse-reverse b

is_tied : (o : Ordering) → is_eq o ≡ true → o ≡ Equal
is_tied Less e = cc
is_tied Equal e = refl
is_tied Greater e = cc

-- a total order that answers `Equal` for equal values alone is a test of equality
equality_by_cmp : {K : Type 0} {R : K → K → Ordering} → IsTotalOrder R → IsAntisymmetric R → IsEquality (eq_by_cmp R)
equality_by_cmp o exact = record { reflexive = λ a. ap is_eq (tied_itself o a); sound = λ a b t. exact a b (is_tied _ t) }

pub step_equality : IsEquality (eq_by_cmp step_cmp)
step_equality = equality_by_cmp step_total step_exact

pub name_equality : IsEquality (eq_by_cmp name_cmp)
name_equality = equality_by_cmp name_total name_exact
