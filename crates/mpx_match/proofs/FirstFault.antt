-- The computed verdict is the first fault.
use Rattle.std.proofs.Common.{◌≡◌, ℕ, List, [], ◌∷◌, map, Option, Some, None, inl, inr, refl, sym, subst}
use Rattle.std.specs.Option.{option_map_or}
use Rattle.mpx_num.specs.declared.own.Operation.{Operation}
use Rattle.mpx_post.specs.Rows.{RowView}
use Rattle.mpx_post.specs.Agreement.{AllSuit, IsFineWith}
use Rattle.mpx_birth.specs.Topologies.{TopologyView}
use Rattle.std.proofs.lemmas.Bool.{and_parts}
use Rattle.mpx_match.specs.declared.faults.Verdict.{Verdict}
use Rattle.mpx_match.specs.declared.faults.Verdict.TheVariants.{Fine, Fault}
use Rattle.mpx_match.specs.declared.faults.FaultKind.{FaultKind}
use Rattle.mpx_match.specs.declared.faults.FaultKind.TheVariants.{Kind, Mode, Root, Op, ItemType, Amount, Weights, Edges, Groups}
use Rattle.mpx_match.specs.declared.verdicts.RowQuestion.{RowQuestion}
use Rattle.mpx_match.specs.declared.verdicts.RowQuestion.TheVariants.{Fit, Agree}
use Rattle.mpx_match.specs.Questions.{is_faulty, least_rank}
use Rattle.mpx_match.specs.Verdicts.{AllAgreeIn, IsFirstFault, IsLeast, first_fault, questions, told_as, verdict}
use Rattle.mpx_match.proofs.Decisions.{decided}
use Rattle.mpx_match.proofs.Least.{least_rank-passes, least_rank-none}

least : (ops : List Operation) (topology : Option TopologyView) (question : RowQuestion) (row : RowView) (rank : ℕ) → least_rank (is_faulty ops topology question row) row ≡ Some rank → IsLeast ops topology question row rank
least ops topology question row rank e =
    let found = least_rank-passes (is_faulty ops topology question row) row rank e in
    record {
      within = found.0;
      differs = (decided ops topology question row rank).fails found.1;
      least = λ lower l. (decided ops topology question row lower).holds (found.2 lower l);
    }

all_agree : (ops : List Operation) (topology : Option TopologyView) (question : RowQuestion) (row : RowView) → least_rank (is_faulty ops topology question row) row ≡ None → AllAgreeIn ops topology question row
all_agree ops topology question row e rank l = (decided ops topology question row rank).holds (least_rank-none (is_faulty ops topology question row) row e rank l)

-- the fault of the rank that is found, else the verdict of the other questions
abbrev pub told : RowQuestion → Option ℕ → Verdict → Verdict
told question found other = option_map_or (λ rank. Fault (record { what = told_as question; rank = rank })) found other

is_first : (ops : List Operation) (topology : Option TopologyView) (asked : List RowQuestion) (row : RowView) → IsFirstFault ops topology asked row (first_fault ops topology asked row)
is_first ops topology [] row = refl
is_first ops topology (question ∷ more) row = by_answer (least_rank (is_faulty ops topology question row) row) refl (is_first ops topology more row) where
  by_answer : (o : Option ℕ) → least_rank (is_faulty ops topology question row) row ≡ o → IsFirstFault ops topology more row (first_fault ops topology more row) → IsFirstFault ops topology (question ∷ more) row (told question o (first_fault ops topology more row))
  by_answer (Some rank) e later = inl (refl, least ops topology question row rank e)
  by_answer None e later = inr (all_agree ops topology question row e, later)

pub verdict-is_first : (ops : List Operation) (topology : Option TopologyView) (row : RowView) → IsFirstFault ops topology questions row (verdict ops topology row)
unfolding verdict
verdict-is_first ops topology row = is_first ops topology questions row

-- what was told is the verdict, and so the first fault
pub told-is_first : (ops : List Operation) (topology : Option TopologyView) (row : RowView) (v : Verdict) → v ≡ verdict ops topology row → IsFirstFault ops topology questions row v
told-is_first ops topology row v e = subst (IsFirstFault ops topology questions row) (sym e) (verdict-is_first ops topology row)

after : (ops : List Operation) (topology : Option TopologyView) (question : RowQuestion) (more : List RowQuestion) (row : RowView) → IsFirstFault ops topology (question ∷ more) row Fine → AllAgreeIn ops topology question row × IsFirstFault ops topology more row Fine
after ops topology question more row (inl told) = absurd told
after ops topology question more row (inr rest) = rest

-- where there is no fault, all agree
settled : (ops : List Operation) (topology : Option TopologyView) (asked : List RowQuestion) (row : RowView) → first_fault ops topology asked row ≡ Fine → IsFirstFault ops topology asked row Fine
settled ops topology [] row e = refl
settled ops topology (question ∷ more) row e = by_answer (least_rank (is_faulty ops topology question row) row) refl (settled ops topology more row) e where
  by_answer : (o : Option ℕ) → least_rank (is_faulty ops topology question row) row ≡ o → (first_fault ops topology more row ≡ Fine → IsFirstFault ops topology more row Fine) → told question o (first_fault ops topology more row) ≡ Fine → IsFirstFault ops topology (question ∷ more) row Fine
  by_answer (Some rank) is later e = cc e
  by_answer None is later e = inr (all_agree ops topology question row is, later e)

-- the questions whether all agree
abbrev agreeing : List FaultKind → List RowQuestion
agreeing whats = map Agree whats

fine : (ops : List Operation) (topology : Option TopologyView) (row : RowView) → IsFirstFault ops topology questions row Fine → IsFineWith topology row
fine ops topology row none =
    let fits = after ops topology Fit (agreeing (Kind ∷ Mode ∷ Root ∷ Op ∷ ItemType ∷ Amount ∷ Weights ∷ Edges ∷ Groups ∷ [])) row none in
    let kinds = after ops topology (Agree Kind) (agreeing (Mode ∷ Root ∷ Op ∷ ItemType ∷ Amount ∷ Weights ∷ Edges ∷ Groups ∷ [])) row fits.1 in
    let modes = after ops topology (Agree Mode) (agreeing (Root ∷ Op ∷ ItemType ∷ Amount ∷ Weights ∷ Edges ∷ Groups ∷ [])) row kinds.1 in
    let roots = after ops topology (Agree Root) (agreeing (Op ∷ ItemType ∷ Amount ∷ Weights ∷ Edges ∷ Groups ∷ [])) row modes.1 in
    let operations = after ops topology (Agree Op) (agreeing (ItemType ∷ Amount ∷ Weights ∷ Edges ∷ Groups ∷ [])) row roots.1 in
    let types = after ops topology (Agree ItemType) (agreeing (Amount ∷ Weights ∷ Edges ∷ Groups ∷ [])) row operations.1 in
    let amounts = after ops topology (Agree Amount) (agreeing (Weights ∷ Edges ∷ Groups ∷ [])) row types.1 in
    let weights = after ops topology (Agree Weights) (agreeing (Edges ∷ Groups ∷ [])) row amounts.1 in
    let edges = after ops topology (Agree Edges) (agreeing (Groups ∷ [])) row weights.1 in
    let groups = after ops topology (Agree Groups) [] row edges.1 in
    record {
      each = λ rank l. record {
        fit = (and_parts _ _ (fits.0 rank l)).0;
        kind = kinds.0 rank l;
        mode = modes.0 rank l;
        root = roots.0 rank l;
        op = operations.0 rank l;
        ty = types.0 rank l;
        amounts = amounts.0 rank l;
        weights = weights.0 rank l;
        edges = edges.0 rank l;
        groups = groups.0 rank l;
      };
    }

-- and the row is fine
pub verdict-fine : (ops : List Operation) (topology : Option TopologyView) (row : RowView) → verdict ops topology row ≡ Fine → IsFineWith topology row
unfolding verdict
verdict-fine ops topology row e = fine ops topology row (settled ops topology questions row e)

-- and the operations are for their types
pub verdict-suits : (ops : List Operation) (topology : Option TopologyView) (row : RowView) → verdict ops topology row ≡ Fine → AllSuit ops row
unfolding verdict
verdict-suits ops topology row e =
    let fits = after ops topology Fit (agreeing (Kind ∷ Mode ∷ Root ∷ Op ∷ ItemType ∷ Amount ∷ Weights ∷ Edges ∷ Groups ∷ [])) row (settled ops topology questions row e) in
    record { each = λ rank l. (and_parts _ _ (fits.0 rank l)).1 }
