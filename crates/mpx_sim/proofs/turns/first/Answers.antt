use Rattle.std.proofs.Common.{zero, [], map, refl, sym}
use Rattle.mpx_sim.specs.Shown.{process_of}
use Rattle.mpx_sim.specs.SideBySide.{all_taken}
use Rattle.mpx_sim.specs.Turns.{Alone}
use Rattle.mpx_sim.proofs.Running.{run_same}
use Rattle.mpx_sim.proofs.SideBySide.{none_taken, run_gone}
use Rattle.mpx_sim.proofs.turns.first.Goals as goal

pub returns-clause-run : goal.returns-clause-run
returns-clause-run g c script ranks size begun frames few run =
    let old = map process_of c.args.processes.now in
    run_gone _ c.args.plan.now.ranks zero [] old (map process_of c.have_go_on.new.processes) c.in_ok-changed.ensures.goes script ranks size begun frames few
    (run_same _ script ranks size begun Alone old (all_taken zero zero [] old) frames frames (sym (none_taken zero zero old)) refl run)
