use Rattle.std.proofs.Common.{◌≡◌, ◌++◌}
use Rattle.mpx_encode.proofs.Maps.{told_behind, written_behind}
use Rattle.mpx_format.specs.Codes.{flag}
use Rattle.mpx_format.specs.Births.{neighbours}
use Rattle.mpx_encode.proofs.Posts.{own_spelled}
use Rattle.mpx_encode.proofs.write_makings.write_own.Goals as goal

pub returns : goal.returns
returns c =
    let n = c.args.own.now in
    let told : c.write_flag.new.out ≡ c.args.out.now ++ flag.spelling n.weighted = rw c.weighted.ensures at c.in_ok-write_flag.ensures in
    let sources : c.write_neighbours.new.out ≡ c.write_flag.new.out ++ (neighbours n.weighted).spelling n.sources = rw (c.weighted-2.ensures, c.sources.ensures.value) at c.in_ok-write_neighbours.ensures in
    let first = written_behind c.args.out.now c.write_flag.new.out c.write_neighbours.new.out (flag.spelling n.weighted) ((neighbours n.weighted).spelling n.sources) told sources in
    told_behind c.write_neighbours-2.result c.args.out.now c.write_neighbours.new.out c.write_neighbours-2.new.out _ _ _ (own_spelled n) first (rw (c.weighted-3.ensures, c.destinations.ensures.value) at c.write_neighbours-2.ensures)
