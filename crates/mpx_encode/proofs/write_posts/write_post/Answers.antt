use Rattle.std.proofs.Common.{◌≡◌, [], ◌∷◌, ◌++◌}
use Rattle.mpx_encode.proofs.Maps.{told_behind, written_behind}
use Rattle.mpx_format.specs.Codes.{code_of_mode}
use Rattle.mpx_kind.specs.Codes.{code_of_kind}
use Rattle.mpx_encode.proofs.Posts.{post_in_turn, post_making, root_part, operation_part, type_part, sent_part, received_part, items_part}
use Rattle.mpx_encode.proofs.write_posts.write_post.Goals as goal

pub write_making-requires : goal.write_making-requires
write_making-requires c = post_making c.args.given.now c.requires

pub returns : goal.returns
returns c =
    let g = c.args.given.now in
    let old = c.args.out.now in
    let a : c.write_u8.new.out ≡ old ++ code_of_kind g.kind ∷ [] = rw (c.code.ensures, c.kind-2.ensures) at c.in_ok-write_u8.ensures in
    let b : c.write_u8-2.new.out ≡ c.write_u8.new.out ++ code_of_mode g.mode ∷ [] = rw (c.code_of_mode.ensures, c.mode.ensures) at c.in_ok-write_u8-2.ensures in
    let r : c.write_root.new.out ≡ c.write_u8-2.new.out ++ root_part g = c.in_ok-write_root.ensures in
    let o : c.write_operation.new.out ≡ c.write_root.new.out ++ operation_part g = c.in_ok-write_operation.ensures in
    let t : c.write_type.new.out ≡ c.write_operation.new.out ++ type_part g = c.in_ok-write_type.ensures in
    let s : c.write_counts.new.out ≡ c.write_type.new.out ++ sent_part g = rw (c.is_had.ensures, c.fields-fields.ensures, c.kind.ensures, c.scounts.ensures) at c.in_ok-write_counts.ensures in
    let v : c.write_counts-2.new.out ≡ c.write_counts.new.out ++ received_part g = rw (c.is_had-2.ensures, c.fields-fields.ensures, c.kind.ensures, c.rcounts.ensures) at c.in_ok-write_counts-2.ensures in
    let i : c.write_items_of.new.out ≡ c.write_counts-2.new.out ++ items_part g = c.in_ok-write_items_of.ensures in
    let ab = written_behind old c.write_u8.new.out c.write_u8-2.new.out _ _ a b in
    let abr = written_behind old c.write_u8-2.new.out c.write_root.new.out _ _ ab r in
    let abro = written_behind old c.write_root.new.out c.write_operation.new.out _ _ abr o in
    let abrot = written_behind old c.write_operation.new.out c.write_type.new.out _ _ abro t in
    let abrots = written_behind old c.write_type.new.out c.write_counts.new.out _ _ abrot s in
    let abrotsv = written_behind old c.write_counts.new.out c.write_counts-2.new.out _ _ abrots v in
    let first = written_behind old c.write_counts-2.new.out c.write_items_of.new.out _ _ abrotsv i in
    told_behind c.write_making.result old c.write_items_of.new.out c.write_making.new.out _ _ _ (post_in_turn g) first c.write_making.ensures
