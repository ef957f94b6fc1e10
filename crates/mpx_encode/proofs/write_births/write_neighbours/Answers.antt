use Rattle.std.proofs.Common.{◌≡◌, ◌++◌, length, rules}
use Rattle.std.specs.Int.{w16, to_be_bytes}
use Rattle.mpx_encode.proofs.Births.{neighbours_spelled}
use Rattle.mpx_encode.proofs.Maps.{told_behind}
use Rattle.mpx_encode.proofs.write_births.write_neighbours.Goals as goal

pub returns : goal.returns
returns c =
    let first : c.write_u16.new.out ≡ c.args.out.now ++ to_be_bytes w16 (length c.args.list.now) = search rules in
    told_behind c.write_each_neighbour.result c.args.out.now c.write_u16.new.out c.write_each_neighbour.new.out _ _ _ (neighbours_spelled c.args.weighted c.args.list.now) first (search rules)
