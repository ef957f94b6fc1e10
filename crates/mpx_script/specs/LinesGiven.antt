-- Which lines of a script give a rank its statements, by their numbers.
use Rattle.std.specs.Prelude.{◌≡◌, ℕ, ◌+◌, ◌-◌, List, [], ◌∷◌, drop, map, slice_index_or, Some}
use Rattle.std.specs.List.{filter}
use Rattle.mpx_num.specs.declared.own.Operation.{Operation}
use Rattle.mpx_script.specs.Words.{counts, script_lines, words}
use Rattle.mpx_script.specs.Syntax.{directive_in}
use Rattle.mpx_script.specs.Meanings.{line_gives, names_rank}
use Rattle.mpx_statement.specs.declared.statement.Statement.{Statement}

-- a line's number, and its words
abbrev pub NumberedLine : Type 0
NumberedLine = ℕ × List (List ℕ)

-- lines with their numbers, of which the first has this one
abbrev pub numbered : ℕ → List (List ℕ) → List NumberedLine
numbered n [] = []
numbered n (line ∷ more) = (n, words line) ∷ numbered (n + 1) more

-- those that count
abbrev pub numbered_counting : ℕ → List (List ℕ) → List NumberedLine
numbered_counting n lines = filter (λ line. counts line.1) (numbered n lines)

-- the numbers of those among these lines whose label names the rank
abbrev pub naming : (rank : ℕ) → List NumberedLine → List ℕ
naming rank lines = map (λ line. line.0) (filter (λ line. names_rank rank (directive_in line.1)) lines)

-- the numbers, from 1 on, of the further lines that count and whose label names the rank
abbrev pub lines_given : (rank : ℕ) → List ℕ → List ℕ
lines_given rank text = naming rank (drop 1 (numbered_counting 1 (script_lines text)))

-- the words of the line with this number
abbrev pub words_at : List ℕ → (number : ℕ) → List (List ℕ)
words_at text number = words (slice_index_or (script_lines text) (number - 1) [])

-- the lines with these numbers give the rank these statements, each line one, in this order
abbrev pub Give : List Operation → (text : List ℕ) (rank : ℕ) (numbers : List ℕ) → List Statement → Type 0
Give ops text rank numbers statements = map (λ number. line_gives ops rank (directive_in (words_at text number))) numbers ≡ map Some statements
