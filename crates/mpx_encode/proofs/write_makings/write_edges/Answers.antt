use Rattle.std.proofs.Common.{◌≡◌, ◌++◌, length}
use Rattle.std.specs.Int.{w16, to_be_bytes}
use Rattle.mpx_encode.proofs.Maps.{told_behind, written_behind}
use Rattle.mpx_format.specs.Codes.{flag}
use Rattle.mpx_encode.proofs.Posts.{edges_spelled}
use Rattle.mpx_encode.proofs.write_makings.write_edges.Goals as goal

pub returns : goal.returns
returns c =
    let es = c.args.edges.now in
    let told : c.write_flag.new.out ≡ c.args.out.now ++ flag.spelling es.weighted = rw c.weighted.ensures at c.in_ok-write_flag.ensures in
    let number : c.write_u16.new.out ≡ c.write_flag.new.out ++ to_be_bytes w16 (length es.edges) = rw c.as_slice-list.ensures.value at c.in_ok-write_u16.ensures in
    let first = written_behind c.args.out.now c.write_flag.new.out c.write_u16.new.out (flag.spelling es.weighted) (to_be_bytes w16 (length es.edges)) told number in
    told_behind c.write_each_edge.result c.args.out.now c.write_u16.new.out c.write_each_edge.new.out _ _ _ (edges_spelled es) first (rw (c.weighted-2.ensures, c.as_slice-list.ensures.value) at c.write_each_edge.ensures)
