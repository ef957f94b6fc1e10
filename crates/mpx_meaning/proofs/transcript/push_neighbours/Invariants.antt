use Rattle.std.proofs.Common.{◌≡◌, ◌++◌, drop, string_bytes}
use Rattle.mpx_meaning.specs.Transcripts.{listed, neighbour_text, spaced}
use Rattle.mpx_meaning.proofs.transcript.push_neighbours.Given as goal

-- what is written, and then the neighbours that are left, is the whole
abbrev pub invariant-loop-neighbour : goal.invariant-loop-neighbour
invariant-loop-neighbour l = string_bytes l.text ++ spaced (neighbour_text l.weighted) (drop l.neighbour-index l.rest) ≡ string_bytes l.fn.text ++ listed (neighbour_text l.weighted) l.neighbours
