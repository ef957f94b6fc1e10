use Rattle.std.proofs.Common.{◌≡◌, length, Some, None, ap, arith, rules}
use Rattle.mpx_encode.specs.Entries.{topology_spelled}
use Rattle.mpx_format.proofs.Spelled.{birth_fits, kept_stands}
use Rattle.mpx_encode.proofs.Births.{length-birth, length-topology}
use Rattle.mpx_encode.proofs.write_births.birth_len.Goals as goal

pub returns-in-None-clause-value : goal.returns-in-None-clause-value
returns-in-None-clause-value c =
    let b = c.args.birth.now in
    let bare : b.topology ≡ None = search rules in
    omega (arith, length-birth b, ap (λ t. length (topology_spelled t)) bare, ap length c.members-members.ensures.value)

pub returns-in-None-clause-fits : goal.returns-in-None-clause-fits
returns-in-None-clause-fits c = birth_fits c.args.birth.now c.members-members.ensures.kept (kept_stands c.args.birth.now.topology c.topology.ensures.kept)

pub returns-in-Some-clause-value : goal.returns-in-Some-clause-value
returns-in-Some-clause-value c =
    let b = c.args.birth.now in
    let there : b.topology ≡ Some c.in-Some.topology.now = search rules in
    omega (arith, length-birth b, ap (λ t. length (topology_spelled t)) there, length-topology c.in-Some.topology.now, ap length c.members-members.ensures.value, c.nears_len.ensures.value)

pub returns-in-Some-clause-fits : goal.returns-in-Some-clause-fits
returns-in-Some-clause-fits c = birth_fits c.args.birth.now c.members-members.ensures.kept (kept_stands c.args.birth.now.topology c.topology.ensures.kept)
