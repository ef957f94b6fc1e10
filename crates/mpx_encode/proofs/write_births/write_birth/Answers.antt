use Rattle.std.proofs.Common.{◌≡◌, ◌++◌, Some, None, ap, ◌∙◌, rules}
use Rattle.mpx_format.specs.Fields.{members}
use Rattle.mpx_encode.specs.Entries.{topology_spelled}
use Rattle.mpx_encode.proofs.Births.{birth_spelled, birth_members}
use Rattle.mpx_encode.proofs.Maps.{told_behind}
use Rattle.mpx_encode.proofs.write_births.write_birth.Goals as goal

pub write_members-requires : goal.write_members-requires
write_members-requires c = ap members.fits c.members.ensures.value ∙ birth_members c.args.birth.now c.requires

pub returns-in-None : goal.returns-in-None
returns-in-None c =
    let b = c.args.birth.now in
    let bare : b.topology ≡ None = search rules in
    let first : c.write_members.new.out ≡ c.args.out.now ++ members.spelling b.members = rw c.members.ensures.value at c.in_ok-write_members.ensures in
    told_behind c.write_u8.result c.args.out.now c.write_members.new.out c.write_u8.new.out _ _ _ (birth_spelled b ∙ ap (λ t. members.spelling b.members ++ topology_spelled t) bare) first (search rules)

pub returns-in-Some : goal.returns-in-Some
returns-in-Some c =
    let b = c.args.birth.now in
    let there : b.topology ≡ Some c.in-Some.topology.now = search rules in
    let first : c.write_members.new.out ≡ c.args.out.now ++ members.spelling b.members = rw c.members.ensures.value at c.in_ok-write_members.ensures in
    told_behind c.write_topology.result c.args.out.now c.write_members.new.out c.write_topology.new.out _ _ _ (birth_spelled b ∙ ap (λ t. members.spelling b.members ++ topology_spelled t) there) first (search rules)
