-- How often ranks stand among neighbours, told in one pass.
use Rattle.std.specs.Prelude.{List, map}
use Rattle.std.specs.List.{range_with_len}
use Rattle.mpx_birth.specs.declared.edges.Neighbour.{Neighbour}
use Rattle.mpx_birth.specs.declared.pairs.Tally.{Tally}
use Rattle.mpx_birth.specs.Edges.{often}
use Rattle.mpx_birth.specs.Topologies.{Near}

-- how often each rank below 64 stands there
abbrev pub tally_of : List Neighbour → Tally
tally_of neighbours = record { counts = map (λ rank. often rank neighbours) (range_with_len 0 64) }

-- the same of each rank's destinations
abbrev pub tallies_of : List Near → List Tally
tallies_of ranks = map (λ (near : Near). tally_of near.destinations) ranks
