use Rattle.std.proofs.Common.{List, IfOk, map, subst, ◌∙◌, ap}
use Rattle.mpx_num.specs.declared.own.Operation.{Operation}
use Rattle.mpx_eval.specs.Findings.{AreFindings}
use Rattle.mpx_eval.specs.Found.{complaint_view, waiting_view}
use Rattle.mpx_program.specs.Explained.{TellsEarly, ended_by, processes_in}
use Rattle.mpx_program.proofs.Telling.{ended_so}
use Rattle.mpx_program.proofs.explaining.run_told.Goals as goal

pub returns : goal.returns
returns c =
    let script = c.args.prepared.now.script in
    let left = c.args.left.now in
    let found = c.args.found.now in
    subst (λ ended. IfOk c.early_told.result (λ told. (ops : List Operation) → AreFindings ops script (map waiting_view found.waiting.items) (map complaint_view found.complaints.items) (map complaint_view found.unheard.items) → TellsEarly ops script c.args.prepared.now.text.items ended c.args.cause told.items))
    (ap (λ es. ended_by es (processes_in script.ranks left)) c.as_slice-ends.ensures.value ∙ ended_so script.ranks left)
    c.early_told.ensures
