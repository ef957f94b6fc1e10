-- Which faults no line tells at the end, by the program's ranks and their table.
use Rattle.std.proofs.Common.{◌≡◌, ℕ, ◌<◌, List, ap, ◌∙◌}
use Rattle.std.specs.Prelude.{slice_get}
use Rattle.mpx_num.specs.declared.own.Operation.{Operation}
use Rattle.mpx_script.specs.ScriptView.{ScriptView}
use Rattle.mpx_statement.specs.Lookups.{named}
use Rattle.mpx_meaning.specs.Evaluation.{known, statements_of}
use Rattle.mpx_eval.specs.Complaints.{complaints_upto}
use Rattle.mpx_eval.specs.Places.{TableRank, posted_by}
use Rattle.mpx_eval.specs.Rounds.{AreAtEnd}
use Rattle.mpx_eval.specs.Tables.{Table, answer_on}
use Rattle.mpx_eval.specs.Unheard.{unheard_found, unheard_from, unheard_in}
use Rattle.mpx_eval.proofs.Complaining.{upto_same}
use Rattle.mpx_eval.proofs.Outcomes.{results_same}
use Rattle.mpx_eval.proofs.Reporting.{at_index, there}

module _ (ops : List Operation) (script : ScriptView) (rs : List TableRank) (t : Table) (e : AreAtEnd ops script.statements script.ranks rs t) where
  of_rank : (p : ℕ) → p < script.ranks → unheard_found ops script.statements t p (slice_get rs p) ≡ unheard_from p (named (e.end p).requests) (known ops script.ranks e.end p) 0 (statements_of script.statements p)
  of_rank p l =
      let at = there ops script rs t e p l in
      let here = e.are.each p at.0 at.1 in
      let requests : at.0.requests ≡ named (e.end p).requests = λ i word. here.1.requests word i in
      let knows : answer_on ops t p ≡ known ops script.ranks e.end p = λ i name call. results_same ops script.ranks t (posted_by e.end) e.are.shows p name call i in
      ap (unheard_found ops script.statements t p) at.1
      ∙ (λ i. unheard_from p (requests i) (answer_on ops t (here.0 i)) 0 (at_index script.statements p i))
      ∙ ap (λ r. unheard_from p (named (e.end p).requests) r 0 (statements_of script.statements p)) knows

  pub unheard_same : complaints_upto (λ p. unheard_found ops script.statements t p (slice_get rs p)) script.ranks ≡ unheard_in ops script.statements script.ranks e.end
  unheard_same = upto_same (λ p. unheard_found ops script.statements t p (slice_get rs p)) (λ p. unheard_from p (named (e.end p).requests) (known ops script.ranks e.end p) 0 (statements_of script.statements p)) script.ranks of_rank
