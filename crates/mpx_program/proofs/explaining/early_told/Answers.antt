use Rattle.std.proofs.Common.{◌∙◌, subst}
use Rattle.mpx_program.specs.Explained.{IsBehind, IsHeaded, IsToldOfRun, ended_by, processes_in}
use Rattle.mpx_program.proofs.Telling.{early_tells}
use Rattle.mpx_program.proofs.explaining.early_told.Goals as goal

pub returns : goal.returns
returns c =
    let script = c.args.prepared.now.script in
    let text = c.args.prepared.now.text.items in
    let ended = ended_by c.args.ends.now (processes_in script.ranks c.args.left.now) in
    let here = c.push_run_end.new.told.items in
    let waits = c.push_behind.new.told.items in
    let more = c.push_headed.new.told.items in
    λ ops f. early_tells ops script text _ _ _ f ended c.args.cause here waits c.in_ok-calls.calls.items more
    (subst (λ xs. IsToldOfRun script text ended xs here) c.new-told.ensures.items c.in_ok-push_run_end.ensures)
    (subst (λ xs. IsBehind c.args.cause here xs waits) (c.as_slice.ensures.value ∙ c.in_ok-there.ensures) c.in_ok-push_behind.ensures)
    c.in_ok-calls.ensures
    (subst (λ xs. IsHeaded waits xs more) c.as_slice-2.ensures.value c.in_ok-push_headed.ensures)
