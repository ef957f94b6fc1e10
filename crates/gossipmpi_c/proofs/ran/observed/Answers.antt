use Rattle.std.proofs.Common.{◌∙◌, ap, sym}
use Rattle.gossipmpi_c.specs.Runs.{is_unexplained}
use Rattle.gossipmpi_c.proofs.Told.{of_job}
use Rattle.gossipmpi_c.proofs.ran.observed.Goals as goal

pub returns : goal.returns
returns g c =
    let explained = ap is_unexplained (sym c.as_slice.ensures.value) ∙ sym c.is_unexplained.ensures ∙ c.if-is_unexplained.false in
    of_job _ c.args.call.now c.args.script.now _ _ _ _ _ _ _ c.requires.own c.new-printed.ensures.items c.new-said.ensures.items (c.is_starved.ensures c.if-is_starved.false) explained c.run_job-exit.ensures.founded
