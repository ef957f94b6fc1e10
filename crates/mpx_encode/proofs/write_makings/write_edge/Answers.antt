use Rattle.std.proofs.Common.{◌≡◌, [], ◌∷◌, ◌++◌, rules}
use Rattle.mpx_encode.proofs.Maps.{told_behind, written_behind}
use Rattle.mpx_encode.proofs.Posts.{edge_spelled}
use Rattle.mpx_encode.proofs.write_makings.write_edge.Goals as goal

pub returns : goal.returns
returns c =
    let e = c.args.edge.now in
    let source : c.write_u8.new.out ≡ c.args.out.now ++ e.source ∷ [] = search rules in
    let destination : c.write_u8-2.new.out ≡ c.write_u8.new.out ++ e.destination ∷ [] = search rules in
    let first = written_behind c.args.out.now c.write_u8.new.out c.write_u8-2.new.out (e.source ∷ []) (e.destination ∷ []) source destination in
    told_behind c.write_weight.result c.args.out.now c.write_u8-2.new.out c.write_weight.new.out _ _ _ (edge_spelled c.args.weighted e) first (search rules)
