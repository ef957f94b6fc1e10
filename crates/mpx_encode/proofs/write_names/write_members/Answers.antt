use Rattle.std.proofs.Common.{◌≡◌, [], ◌∷◌, ◌++◌, length, arith, rules}
use Rattle.mpx_encode.proofs.Births.{members_below, members_pass, members_spelled}
use Rattle.mpx_encode.proofs.Maps.{told_behind}
use Rattle.mpx_encode.proofs.write_names.write_members.Goals as goal

pub overflow_cast-members : goal.overflow_cast-members
overflow_cast-members c = omega (arith, members_below c.args.members.now c.requires)

pub write_list-requires : goal.write_list-requires
write_list-requires c = members_pass c.args.members.now c.requires

pub returns : goal.returns
returns c =
    let first : c.write_u8.new.out ≡ c.args.out.now ++ length c.args.members.now ∷ [] = search rules in
    told_behind c.write_list.result c.args.out.now c.write_u8.new.out c.write_list.new.out _ _ _ (members_spelled c.args.members.now) first (search rules)
