use Rattle.std.proofs.Common.{◌≡◌, List, ℕ, map, length, ap, sym, ◌∙◌, subst}
use Rattle.std.specs.Prelude.{slice_get}
use Rattle.std.proofs.lemmas.Result.{IfOk-weaker}
use Rattle.mpx_num.specs.declared.own.Operation.{Operation}
use Rattle.mpx_num.specs.Own.{operation_of}
use Rattle.mpx_meaning.specs.Evaluation.{start_state}
use Rattle.mpx_meaning.specs.Reports.{which}
use Rattle.mpx_name.specs.Name.{Name}
use Rattle.mpx_rank.specs.declared.interpreter.Interpreter.{Interpreter}
use Rattle.mpx_eval.specs.declared.table.Table.{Table}
use Rattle.mpx_rank.specs.Places.{CommunicatorView}
use Rattle.mpx_eval.specs.Complaints.{complaints_upto}
use Rattle.mpx_eval.specs.Found.{complaints_found, found_at, waiting_view}
use Rattle.mpx_eval.specs.Rounds.{AreIn, is_waiting_at}
use Rattle.mpx_eval.specs.Carrying.{shown}
use Rattle.mpx_eval.specs.Tables.{table_of}
use Rattle.mpx_eval.proofs.Going.{written_back}
use Rattle.mpx_eval.proofs.Reporting.{are_in_start, reached_start}
use Rattle.mpx_eval.specs.Unheard.{unheard_found}
use Rattle.mpx_eval.proofs.Complaining.{complaints_same}
use Rattle.mpx_eval.proofs.Unhearing.{unheard_same}
use Rattle.mpx_eval.proofs.Waits.{waits_found}
use Rattle.mpx_eval.proofs.findings.examine.Goals as goal

pub returns-in-Ok : goal.returns-in-Ok
returns-in-Ok g c =
    let ops : List Operation = map (λ b. let o = goal.OwnOp-dyn g (b.vtable, b.value) in operation_of (o.word_bytes b.value) (o.fits_type b.value) (o.combination b.value)) c.args.ops.now.list.items in
    let script = c.args.script.now in
    let xs = c.in_ok-ranks.ranks.items in
    let many : length script.statements ≡ script.ranks = c.ranks-count.ensures.each_rank ∙ c.ranks-count.ensures.ranks in
    let t = table_of c.new-table.result in
    let begin = start_state script.statements script.ranks in
    let are : AreIn ops script.ranks (map shown xs) t begin = are_in_start ops script.statements script.ranks (map shown xs) t many c.in_ok-ranks.ensures c.new-table.ensures in
    let lent : AreIn ops script.ranks (map shown c.deref_mut.result.now) t begin = subst (λ (ps : List (Interpreter Table CommunicatorView (Name × ℕ))). AreIn ops script.ranks (map shown ps) t begin) (sym c.deref_mut.ensures.value) are in
    let ran = c.in-Ok.ensures script.statements script.ranks begin (reached_start ops script.statements script.ranks) lent in
    let same = written_back c.in_ok-ranks.ranks.len xs c.rounds.new.ranks (c.rounds.auto.ranks ∙ ap length c.deref_mut.ensures.value) (sym (ap length c.deref_mut.ensures.value) ∙ c.deref_mut.ensures.len) in
    let after = table_of c.rounds.new.table in
    let places : c.as_slice-places.result.now ≡ c.rounds.new.ranks = c.as_slice-places.ensures.value ∙ same in
    IfOk-weaker c.findings_of-found.result _ _ (λ found h.
    let waiting = h.0
    ∙ ap (λ (ps : List (Interpreter Table CommunicatorView (Name × ℕ))). map (λ p. found_at script.statements after p (slice_get (map shown ps) p)) (which (λ p. is_waiting_at (slice_get (map shown ps) p)) c.ranks-count.result)) places
    ∙ ap (λ n. map (λ p. found_at script.statements after p (slice_get (map shown c.rounds.new.ranks) p)) (which (λ p. is_waiting_at (slice_get (map shown c.rounds.new.ranks) p)) n)) c.ranks-count.ensures.ranks in
    let complaints = h.1.0
    ∙ ap (λ (ps : List (Interpreter Table CommunicatorView (Name × ℕ))). complaints_upto (λ p. complaints_found script.statements p (slice_get (map shown ps) p)) c.ranks-count.result) places
    ∙ ap (complaints_upto (λ p. complaints_found script.statements p (slice_get (map shown c.rounds.new.ranks) p))) c.ranks-count.ensures.ranks in
    let unheard = h.1.1
    ∙ ap (λ (ps : List (Interpreter Table CommunicatorView (Name × ℕ))). complaints_upto (λ p. unheard_found ops script.statements after p (slice_get (map shown ps) p)) c.ranks-count.result) places
    ∙ ap (complaints_upto (λ p. unheard_found ops script.statements after p (slice_get (map shown c.rounds.new.ranks) p))) c.ranks-count.ensures.ranks in
    record {
      end = ran.end;
      evaluation = ran.evaluation;
      waiting_are = waits_found ops script (map shown c.rounds.new.ranks) after ran (map waiting_view found.waiting.items) waiting;
      complaints_are = complaints ∙ complaints_same ops script (map shown c.rounds.new.ranks) after ran;
      unheard_are = unheard ∙ unheard_same ops script (map shown c.rounds.new.ranks) after ran;
    }) c.findings_of-found.ensures
