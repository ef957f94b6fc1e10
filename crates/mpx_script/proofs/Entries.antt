-- The entries of a list of a graph.
use Rattle.std.proofs.Common.{◌≡◌, ℕ, ◌==◌, true, false, List, []}
use Rattle.std.specs.List.{slice_split}
use Rattle.mpx_script.specs.Graphs.{entries_in, has_no_entries}

pub none_in : (word : List ℕ) → has_no_entries word ≡ true → entries_in word ≡ []
unfolding entries_in
none_in word h = rw h

pub some_in : (word : List ℕ) → has_no_entries word ≡ false → entries_in word ≡ slice_split (λ byte. byte == 44) word
unfolding entries_in
some_in word h = rw h
