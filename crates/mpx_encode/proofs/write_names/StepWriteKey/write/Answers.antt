use Rattle.std.proofs.Common.{sym, ap, ◌∙◌}
use Rattle.mpx_format.specs.Fields.{step, members}
use Rattle.mpx_encode.proofs.Births.{gathering_members}
use Rattle.mpx_encode.proofs.write_names.StepWriteKey.write.Goals as goal

pub write_gathering-requires : goal.write_gathering-requires
write_gathering-requires c = ap members.fits c.members.ensures ∙ gathering_members c.in-Gathering.tag c.in-Gathering.members (ap step.fits (sym c.in-Gathering.is) ∙ c.requires)
