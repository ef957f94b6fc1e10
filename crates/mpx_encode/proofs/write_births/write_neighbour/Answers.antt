use Rattle.std.proofs.Common.{◌≡◌, [], ◌∷◌, ◌++◌, refl, rules}
use Rattle.mpx_format.specs.Fields.{process}
use Rattle.mpx_format.specs.Births.{neighbour}
use Rattle.mpx_encode.proofs.Maps.{told_behind}
use Rattle.mpx_encode.proofs.write_births.write_neighbour.Goals as goal

pub returns : goal.returns
unfolding neighbour process
returns c =
    let first : c.write_u8.new.out ≡ c.args.out.now ++ c.args.neighbour.now.rank ∷ [] = search rules in
    told_behind c.write_weight.result c.args.out.now c.write_u8.new.out c.write_weight.new.out (c.args.neighbour.now.rank ∷ []) _ _ refl first (search rules)
