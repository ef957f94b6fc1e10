use Rattle.std.proofs.Common.{◌≡◌, [], ◌∷◌, ◌++◌, length, arith, rules}
use Rattle.mpx_encode.proofs.Births.{steps_below, steps_pass, steps_spelled}
use Rattle.mpx_encode.proofs.Maps.{told_behind}
use Rattle.mpx_encode.proofs.write_names.write_counted.Goals as goal

pub overflow_cast-steps : goal.overflow_cast-steps
overflow_cast-steps c = omega (arith, steps_below c.args.steps.now c.requires)

pub write_list-requires : goal.write_list-requires
write_list-requires c = steps_pass c.args.steps.now c.requires

pub returns : goal.returns
returns c =
    let first : c.write_u8.new.out ≡ c.args.out.now ++ length c.args.steps.now ∷ [] = search rules in
    told_behind c.write_list.result c.args.out.now c.write_u8.new.out c.write_list.new.out _ _ _ (steps_spelled c.args.steps.now) first (search rules)
