use Rattle.std.proofs.Common.{◌≡◌, ◌∙◌, ◌<◌, ◌+◌, ℕ, List, drop, get_or, length, Option, Some, None, refl, sym, ap}
use Rattle.std.proofs.lemmas.List.{at_drop_more}
use Rattle.mpx_num.specs.declared.own.Operation.{Operation}
use Rattle.mpx_post.specs.Rows.{RowView}
use Rattle.mpx_birth.specs.Topologies.{TopologyView}
use Rattle.mpx_match.specs.declared.faults.Verdict.TheVariants.{Fault}
use Rattle.mpx_match.specs.declared.verdicts.RowQuestion.{RowQuestion}
use Rattle.mpx_match.specs.Questions.{is_faulty, least_rank}
use Rattle.mpx_match.specs.Verdicts.{first_fault, questions, verdict}
use Rattle.mpx_match.proofs.FirstFault.{told}
use Rattle.mpx_match.proofs.verdicts.first_fault.Goals as goal

pub loop-question-init : goal.loop-question-init
unfolding verdict
loop-question-init g c = refl

module _ (ops : List Operation) (topology : Option TopologyView) (row : RowView) (asked : List RowQuestion) (i : ℕ) (d : RowQuestion) (l : i < length asked) where
  abbrev next : RowQuestion
  next = get_or asked i d

  -- one question more
  further : (o : Option ℕ) → least_rank (is_faulty ops topology next row) row ≡ o → first_fault ops topology (drop i asked) row ≡ told next o (first_fault ops topology (drop (i + 1) asked) row)
  further o e =
      at_drop_more (λ (qs : List RowQuestion). first_fault ops topology qs row) asked i d l
      ∙ ap (λ (found : Option ℕ). told next found (first_fault ops topology (drop (i + 1) asked) row)) e

pub returns-in-Some : goal.returns-in-Some
returns-in-Some g c =
    let found = sym c.least_rank.ensures ∙ c.in-Some.is in
    (λ i. Fault (record { what = c.told_as.ensures i; rank = c.in-Some.rank }))
    ∙ sym (further _ c.args.birth.now.topology c.args.row.now questions c.loop-question.question-index _ c.loop-question-test.true (Some c.in-Some.rank) found)
    ∙ c.loop-question.invariant

pub loop-question-preserved : goal.loop-question-preserved
loop-question-preserved g c =
    let none = sym c.least_rank.ensures ∙ c.in_default.is in
    sym (further _ c.args.birth.now.topology c.args.row.now questions c.loop-question.question-index _ c.loop-question-test.true None none)
    ∙ c.loop-question.invariant
