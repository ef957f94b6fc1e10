-- How often ranks stand among neighbours, read from tallies.
use Rattle.std.proofs.Common.{◌≡◌, ℕ, ◌<◌, ◌≤◌, List, length, get_or, map, ap, ◌∙◌, arith}
use Rattle.std.proofs.lemmas.List.{get_or_default, length-map}
use Rattle.std.proofs.lemmas.List.FromFn.{get_or-map-range_with_len}
use Rattle.std.proofs.lemmas.List.Sums.{count_by-le-length, length-filter}
use Rattle.std.proofs.Math.ListN.{get_or-map}
use Rattle.mpx_birth.specs.declared.edges.Neighbour.{Neighbour}
use Rattle.mpx_birth.specs.declared.pairs.Tally.{Tally}
use Rattle.mpx_birth.specs.Edges.{has_rank, often}
use Rattle.mpx_birth.specs.Tallies.{tallies_of, tally_of}
use Rattle.mpx_birth.specs.Topologies.{Near, destinations_near, nobody, sources_near}

-- no more often than there are neighbours
pub often-length : (rank : ℕ) (ns : List Neighbour) → often rank ns ≤ length ns
often-length rank ns = omega (arith, length-filter (has_rank rank) ns, count_by-le-length (has_rank rank) ns)

-- what stands in a tally
in_tally : (ns : List Neighbour) (rank : ℕ) → rank < 64 → get_or (tally_of ns).counts rank 0 ≡ often rank ns
in_tally ns rank l = get_or-map-range_with_len (λ rank. often rank ns) 0 64 rank rank 0 l (omega arith)

-- how many edges to a rank the other tells
pub told_to : (ranks : List Near) (told : List Tally) (i rank : ℕ) (none : Tally) → told ≡ tallies_of ranks → i < length ranks → rank < 64
    → get_or (get_or told i none).counts rank 0 ≡ often rank (destinations_near ranks i)
told_to ranks told i rank none is l m =
    let tally : Near → Tally = λ (near : Near). tally_of near.destinations in
    ap (λ (ts : List Tally). get_or (get_or ts i none).counts rank 0) is
    ∙ ap (λ (t : Tally). get_or t.counts rank 0) (get_or_default (map tally ranks) i none (tally nobody) (omega (arith, l, length-map ranks tally)) ∙ get_or-map tally ranks i nobody)
    ∙ in_tally (destinations_near ranks i) rank m

-- how many edges from a rank the other awaits
pub awaited_from : (ranks : List Near) (awaited : Tally) (near : Near) (i rank : ℕ) → awaited ≡ tally_of near.sources → near ≡ get_or ranks rank near → rank < length ranks → i < 64
    → get_or awaited.counts i 0 ≡ often i (sources_near ranks rank)
awaited_from ranks awaited near i rank is there l m =
    ap (λ (t : Tally). get_or t.counts i 0) is
    ∙ in_tally near.sources i m
    ∙ ap (λ (n : Near). often i n.sources) (there ∙ get_or_default ranks rank near nobody l)
