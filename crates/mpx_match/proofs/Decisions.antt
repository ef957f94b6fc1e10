-- The tests decide in what posts differ.
use Rattle.std.proofs.Common.{◌≡◌, ◌==◌, ℕ, zero, suc, ◌<◌, nat_eq, Bool, true, false, not, ◌||◌, is_some, List, [], ◌∷◌, length, Option, Some, None, inl, inr, refl, sym, ◌∙◌, subst}
use Rattle.std.specs.Prelude.{slice_get}
use Rattle.std.specs.List.{list_any}
use Rattle.std.proofs.lemmas.Option.{same_Some}
use Rattle.std.specs.Bool.{Decides}
use Rattle.std.specs.Cmp.{booleans_Decides}
use Rattle.std.proofs.lemmas.Bool.{cases_Bool, false_from_ne_true, false≢true}
use Rattle.std.proofs.lemmas.Bool.Decides.{Decides-eqb}
use Rattle.mpx_num.specs.declared.own.Operation.{Operation}
use Rattle.mpx_post.specs.Posts.{Given, group_of}
use Rattle.mpx_post.specs.Rows.{RowView}
use Rattle.mpx_birth.specs.Births.{upto}
use Rattle.mpx_birth.specs.Topologies.{TopologyView}
use Rattle.mpx_post.specs.Agreement.{Asked, Any, Same, SameCounts, SameAtEach, IsGiven, asked_of, first_of, post_at}
use Rattle.mpx_post.specs.Equality.{same_operation, kinds_decided, modes_decided, operations_decided, options_decided, types_decided, numbers_decided}
use Rattle.mpx_match.specs.declared.faults.FaultKind.TheVariants as F
use Rattle.mpx_match.specs.declared.verdicts.RowQuestion.{RowQuestion}
use Rattle.mpx_match.specs.declared.verdicts.RowQuestion.TheVariants.{Fit, Agree}
use Rattle.mpx_match.specs.Faults.{AgreesIn}
use Rattle.mpx_match.specs.Questions.{is_faulty, is_missed, least_rank}
use Rattle.mpx_match.proofs.Below.{none_below, some_below}
use Rattle.mpx_match.proofs.Least.{least_rank-passes, least_rank-none}

-- the test says whether this does not hold
pub record Refutes (test : Bool) (P : Type 0) : Type 0 where
  pub holds : test ≡ false → P
  pub fails : test ≡ true → P → ⊥

not_same : (same : Bool) {P : Type 0} → Decides same P → Refutes (not same) P
not_same true decided = record { holds = λ e. decided.0 refl; fails = λ e. cc e }
not_same false decided = record { holds = λ e. cc e; fails = λ e p. false≢true (decided.1 p) }

same_test : (b : Bool) → Decides b (b ≡ true)
same_test b = (λ t. t, λ t. t)

-- of each member's post
of_posts : (test : ℕ → Given → Bool) (P : ℕ → Type 0) (row : RowView) → ((j : ℕ) → Refutes (test j (post_at row j)) (P j)) → Refutes (is_some (least_rank test row)) ((j : ℕ) → j < length row → P j)
of_posts test P row each = by_rank (least_rank test row) refl where
  by_rank : (o : Option ℕ) → least_rank test row ≡ o → Refutes (is_some o) ((j : ℕ) → j < length row → P j)
  by_rank None e = record { holds = λ t j l. (each j).holds (least_rank-none test row e j l); fails = λ t. cc t }
  by_rank (Some j) e = let found = least_rank-passes test row j e in record { holds = λ t. cc t; fails = λ t all. (each j).fails found.1 (all j found.0) }

-- of each of these
of_each : (test : ℕ → Bool) (P : ℕ → Type 0) → ((x : ℕ) → Refutes (test x) (P x)) → (xs : List ℕ) → Refutes (list_any test xs) ((place x : ℕ) → slice_get xs place ≡ Some x → P x)
of_each test P each [] = record { holds = λ e place x at. cc at; fails = λ e. cc e }
of_each test P each (y ∷ ys) = by_test (test y) refl (of_each test P each ys) where
  by_test : (b : Bool) → test y ≡ b → Refutes (list_any test ys) ((place x : ℕ) → slice_get ys place ≡ Some x → P x) → Refutes (b || list_any test ys) ((place x : ℕ) → slice_get (y ∷ ys) place ≡ Some x → P x)
  by_test true e rest = record { holds = λ t. cc t; fails = λ t all. (each y).fails e (all 0 y refl) }
  by_test false e rest = record {
    holds = λ t place x at. by_place place x at (rest.holds t);
    fails = λ t all. rest.fails t (λ place x at. all (suc place) x at);
  } where
    by_place : (place x : ℕ) → slice_get (y ∷ ys) place ≡ Some x → ((i z : ℕ) → slice_get ys i ≡ Some z → P z) → P x
    by_place zero x at later = subst P (same_Some y x at) ((each y).holds e)
    by_place (suc i) x at later = later i x at

-- of each number below one
of_below : (test : ℕ → Bool) (P : ℕ → Type 0) → ((k : ℕ) → Refutes (test k) (P k)) → (n : ℕ) → Refutes (list_any test (upto n)) ((k : ℕ) → k < n → P k)
of_below test P each n = record {
  holds = λ none k l. elim (cases_Bool (test k)) [
    | inl t ↦ absurd (false≢true (sym none ∙ some_below test n k l t))
    | inr f ↦ (each k).holds f
  ];
  fails = λ some all. false≢true (sym (none_below test n (λ k l. false_from_ne_true (test k) (λ t. (each k).fails t (all k l)))) ∙ some);
}

asked_decided : (asked : Asked) → Refutes (is_missed asked) (IsGiven asked)
asked_decided Any = record { holds = λ e. tt; fails = λ e. cc e }
asked_decided (Same given asked) = not_same _ (Decides-eqb _ _)
asked_decided (SameCounts given asked) = not_same _ (numbers_decided _ _)
asked_decided (SameAtEach places given asked) = of_below (λ place. not (given place == asked place)) (λ place. given place ≡ asked place) (λ place. not_same _ (Decides-eqb _ _)) places

pub decided : (ops : List Operation) (topology : Option TopologyView) (question : RowQuestion) (row : RowView) (rank : ℕ) → Refutes (is_faulty ops topology question row rank (post_at row rank)) (AgreesIn ops topology question row rank)
decided ops topology Fit row rank = not_same _ (same_test _)
decided ops topology (Agree F.Kind) row rank = not_same _ (kinds_decided _ _)
decided ops topology (Agree F.Mode) row rank = not_same _ (modes_decided _ _)
decided ops topology (Agree F.Root) row rank = not_same _ (options_decided nat_eq Decides-eqb _ _)
decided ops topology (Agree F.Op) row rank = not_same _ (options_decided same_operation operations_decided _ _)
decided ops topology (Agree F.ItemType) row rank = not_same _ (types_decided _ _)
decided ops topology (Agree F.Amount) row rank = asked_decided (asked_of topology (first_of row).kind row rank (post_at row rank))
decided ops topology (Agree F.Weights) row rank = not_same _ (booleans_Decides _ _)
decided ops topology (Agree F.Edges) row rank = of_posts _ _ row (λ other. not_same _ (numbers_decided _ _))
decided ops topology (Agree F.Groups) row rank = of_each _ _ (λ member. not_same _ (numbers_decided _ _)) (group_of (post_at row rank))
