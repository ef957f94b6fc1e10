-- The lines of a script and their words.
use Rattle.std.specs.Prelude.{ℕ, ◌+◌, nat_lt, Bool, false, not, ◌==◌, ◌||◌, List, [], ◌∷◌, length, take, map, slice_index}
use Rattle.std.specs.List.{filter, slice_split, list_all}
use Rattle.std.specs.Str.Lines.{lines}

-- how many bytes a script may have
abbrev pub bytes_limit : ℕ
bytes_limit = 1048576

-- the script passes that limit
abbrev pub is_over_limit : List ℕ → Bool
is_over_limit text = nat_lt bytes_limit (length text)

-- a text has a first line, even if nothing stands in it
abbrev pub with_first_line : List (List ℕ) → List (List ℕ)
with_first_line [] = [] ∷ []
with_first_line (line ∷ more) = line ∷ more

-- the lines of a script, up to the byte that passes the limit
abbrev pub script_lines : List ℕ → List (List ℕ)
script_lines text = with_first_line (lines (take (bytes_limit + 1) text))

-- a space or a tab
abbrev pub is_blank : ℕ → Bool
is_blank byte = byte == 32 || byte == 9

abbrev pub has_bytes : List ℕ → Bool
has_bytes part = not (length part == 0)

-- what stands between spaces (32) and tabs (9)
unfoldable pub words : List ℕ → List (List ℕ)
words line = filter (λ part. not (length part == 0)) (slice_split (λ byte. byte == 32 || byte == 9) line)

-- a line with these words counts: it has a first one, and that doesn't begin with `#` (35)
unfoldable pub counts : List (List ℕ) → Bool
counts [] = false
counts (word ∷ more) = not (slice_index word 0 == 35)

-- the lines that count, by their words
abbrev pub counting : List (List ℕ) → List (List (List ℕ))
counting text_lines = filter counts (map words text_lines)

unfoldable pub is_ascii : List ℕ → Bool
is_ascii line = list_all (λ byte. nat_lt byte 128) line
