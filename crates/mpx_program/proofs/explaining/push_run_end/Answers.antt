use Rattle.std.proofs.Common.{◌∙◌, ap, subst}
use Rattle.std.proofs.lemmas.Result.{on_ok_weaker}
use Rattle.mpx_program.specs.Explained.{IsToldOfRun, ended_by, processes_in, processes_of}
use Rattle.mpx_program.proofs.explaining.push_run_end.Goals as goal

pub returns : goal.returns
returns c =
    let script = c.args.prepared.now.script in
    let left = c.args.left.now in
    let ended = ended_by c.args.ends.now (processes_in script.ranks left) in
    on_ok_weaker c.push_run.result (λ tells. subst (λ xs. IsToldOfRun script xs ended c.args.told.now.items c.push_run.new.told.items) c.as_slice-text.ensures.value
    (tells (processes_in script.ranks left) (ap processes_of c.deref.ensures.value ∙ c.in_ok-nodes.ensures ∙ ap (λ n. processes_in n left) c.ranks.ensures.ranks)))
    c.push_run.ensures
