use Rattle.std.proofs.Common.{◌≡◌, ℕ, List, map, length, ap, sym, ◌∙◌, subst}
use Rattle.std.proofs.lemmas.Result.{IfOk-weaker}
use Rattle.mpx_num.specs.declared.own.Operation.{Operation}
use Rattle.mpx_num.specs.Own.{operation_of}
use Rattle.mpx_meaning.specs.Ends.{end_view}
use Rattle.mpx_meaning.specs.Evaluation.{start_state}
use Rattle.mpx_name.specs.Name.{Name}
use Rattle.mpx_rank.specs.declared.interpreter.Interpreter.{Interpreter}
use Rattle.mpx_rank.specs.Places.{CommunicatorView, end_of_rank}
use Rattle.mpx_eval.specs.declared.table.Table.{Table}
use Rattle.mpx_eval.specs.Rounds.{AreIn}
use Rattle.mpx_eval.specs.Carrying.{shown}
use Rattle.mpx_eval.specs.Tables.{table_of}
use Rattle.mpx_eval.proofs.Going.{written_back}
use Rattle.mpx_eval.proofs.Reporting.{are_in_start, end_so, reached_start}
use Rattle.mpx_eval.proofs.evaluation.evaluate.Goals as goal

pub returns : goal.returns
returns g c =
    let ops : List Operation = map (λ b. let o = goal.OwnOp-dyn g (b.vtable, b.value) in operation_of (o.word_bytes b.value) (o.fits_type b.value) (o.combination b.value)) c.args.ops.now.list.items in
    let script = c.args.script.now in
    let xs = c.in_ok-ranks.ranks.items in
    let many : length script.statements ≡ script.ranks = c.ranks.ensures.each_rank ∙ c.ranks.ensures.ranks in
    let t = table_of c.new-table.result in
    let begin = start_state script.statements script.ranks in
    let are : AreIn ops script.ranks (map shown xs) t begin = are_in_start ops script.statements script.ranks (map shown xs) t many c.in_ok-ranks.ensures c.new-table.ensures in
    let lent : AreIn ops script.ranks (map shown c.deref_mut.result.now) t begin = subst (λ (ps : List (Interpreter Table CommunicatorView (Name × ℕ))). AreIn ops script.ranks (map shown ps) t begin) (sym c.deref_mut.ensures.value) are in
    let ran = c.in-Ok.ensures script.statements script.ranks begin (reached_start ops script.statements script.ranks) lent in
    let same = written_back c.in_ok-ranks.ranks.len xs c.rounds.new.ranks (c.rounds.auto.ranks ∙ ap length c.deref_mut.ensures.value) (sym (ap length c.deref_mut.ensures.value) ∙ c.deref_mut.ensures.len) in
    IfOk-weaker c.ends_of.result _ _ (λ ends h. end_so ops script (map shown c.rounds.new.ranks) (table_of c.rounds.new.table) ran (map end_view ends.items)
    (h ∙ ap (λ (ps : List (Interpreter Table CommunicatorView (Name × ℕ))). map end_of_rank (map shown ps)) same)) c.ends_of.ensures
