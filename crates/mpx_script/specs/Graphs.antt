-- What the words of a graph mean: lists whose entries have commas between them, in all of them a weight or in none.
use Rattle.std.specs.Prelude.{ℕ, ◌+◌, nat_lt, Bool, true, false, ◌==◌, ◌||◌, List, [], length, take, drop, codes, bytes_eq, Option, Some, None, ℤ, pos, if◌then◌else◌}
use Rattle.std.specs.Bool.{beq}
use Rattle.std.specs.List.{list_any, position_or_len, slice_split}
use Rattle.mpx_num.specs.Text.{number_of}
use Rattle.mpx_post.specs.declared.drafted_edges.DraftedEdge.{DraftedEdge}
use Rattle.mpx_post.specs.declared.drafted_edges.DraftedNeighbour.{DraftedNeighbour}
use Rattle.mpx_post.specs.Graphs.{GraphView}
use Rattle.mpx_post.specs.Rows.{all_of}
use Rattle.mpx_script.specs.Grammar.{◌>>=◌}

-- what stands before the first such byte, and what behind it
abbrev pub parted : ℕ → List ℕ → Option (List ℕ × List ℕ)
parted byte word =
    let place : ℕ = position_or_len (λ b. b == byte) word in
    if nat_lt place (length word) then Some (take place word, drop (place + 1) word) else None

-- an entry without its weight, and the weight, which stands behind `:` (58); it is 0 in a list without weights
abbrev pub weighed : (weighted : Bool) → List ℕ → Option (List ℕ × ℤ)
weighed false word = Some (word, pos 0)
weighed true word = do
  parts ← parted 58 word
  weight ← number_of parts.1
  Some (parts.0, weight)

-- `S>D` or `S>D:W`, where `>` is 62
unfoldable pub edge_named : (weighted : Bool) → List ℕ → Option DraftedEdge
edge_named weighted word = do
  entry ← weighed weighted word
  ends ← parted 62 entry.0
  source ← number_of ends.0
  destination ← number_of ends.1
  Some (record { source = source; destination = destination; weight = entry.1 })

-- `R` or `R:W`
unfoldable pub neighbour_named : (weighted : Bool) → List ℕ → Option DraftedNeighbour
neighbour_named weighted word = do
  entry ← weighed weighted word
  rank ← number_of entry.0
  Some (record { rank = rank; weight = entry.1 })

-- `-` stands for no entries and no weights, `-w` for no entries and weights
abbrev pub has_no_entries : List ℕ → Bool
has_no_entries word = bytes_eq word (codes "-") || bytes_eq word (codes "-w")

-- else a list has weights if a `:` stands in it
unfoldable pub is_weighted : List ℕ → Bool
is_weighted word = bytes_eq word (codes "-w") || list_any (λ byte. byte == 58) word

unfoldable pub entries_in : List ℕ → List (List ℕ)
entries_in word = if bytes_eq word (codes "-") || bytes_eq word (codes "-w") then [] else slice_split (λ byte. byte == 44) word

-- any edges
unfoldable pub edges_graph : List ℕ → Option GraphView
edges_graph word = do
  edges ← all_of (edge_named (is_weighted word)) (entries_in word)
  Some (record { weighted = is_weighted word; edges = edges; sources = []; destinations = [] })

-- a rank's own sources and destinations, where both lists have weights or neither has
unfoldable pub neighbours_graph : (sources destinations : List ℕ) → Option GraphView
neighbours_graph from to = do
  sources ← all_of (neighbour_named (is_weighted from)) (entries_in from)
  destinations ← all_of (neighbour_named (is_weighted to)) (entries_in to)
  if beq (is_weighted from) (is_weighted to) then Some (record { weighted = is_weighted from; edges = []; sources = sources; destinations = destinations }) else None
