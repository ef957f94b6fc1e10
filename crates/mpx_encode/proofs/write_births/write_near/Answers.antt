use Rattle.std.proofs.Common.{◌≡◌, ◌++◌}
use Rattle.std.specs.Prelude.{slice_index_or}
use Rattle.mpx_birth.specs.Topologies.{nobody}
use Rattle.mpx_format.specs.Births.{neighbours}
use Rattle.mpx_encode.proofs.Births.{near_spelled}
use Rattle.mpx_encode.proofs.Maps.{told_behind}
use Rattle.mpx_encode.proofs.write_births.write_near.Goals as goal

pub returns : goal.returns
returns c =
    let n = slice_index_or c.args.topology.now.ranks c.args.rank nobody in
    let first : c.write_neighbours.new.out ≡ c.args.out.now ++ (neighbours c.args.weighted).spelling n.sources = rw c.sources.ensures.value at c.in_ok-write_neighbours.ensures in
    told_behind c.write_neighbours-2.result c.args.out.now c.write_neighbours.new.out c.write_neighbours-2.new.out _ _ _ (near_spelled c.args.weighted n) first (rw c.destinations.ensures.value at c.write_neighbours-2.ensures)
