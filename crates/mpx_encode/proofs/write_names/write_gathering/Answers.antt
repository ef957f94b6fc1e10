use Rattle.std.proofs.Common.{◌≡◌, [], ◌∷◌, ◌++◌, rules}
use Rattle.std.specs.Int.{w16, to_be_bytes}
use Rattle.mpx_encode.proofs.Births.{gathering_spelled}
use Rattle.mpx_encode.proofs.Maps.{told_behind, written_behind}
use Rattle.mpx_encode.proofs.write_names.write_gathering.Goals as goal

pub returns : goal.returns
returns c =
    let code : c.write_u8.new.out ≡ c.args.out.now ++ 1 ∷ [] = search rules in
    let tag : c.write_u16.new.out ≡ c.write_u8.new.out ++ to_be_bytes w16 c.args.tag = search rules in
    let first = written_behind c.args.out.now c.write_u8.new.out c.write_u16.new.out (1 ∷ []) (to_be_bytes w16 c.args.tag) code tag in
    told_behind c.write_members.result c.args.out.now c.write_u16.new.out c.write_members.new.out _ _ _ (gathering_spelled c.args.tag c.args.members.now) first (search rules)
