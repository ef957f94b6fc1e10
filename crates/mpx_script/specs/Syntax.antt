-- A further line by its words: its label, its statement, and what stands behind that.
use Rattle.std.specs.Prelude.{ℕ, List, drop, slice_get, Option, Some, None, is_some, option_and_then, if◌then◌else◌}
use Rattle.mpx_script.specs.declared.grammar.Form.{Form}
use Rattle.mpx_script.specs.declared.grammar.Label.{Label}
use Rattle.mpx_script.specs.declared.grammar.Label.TheVariants.{Every, Numbered}
use Rattle.mpx_script.specs.Grammar.{rank_count, ranks_number, form_named, label_of}

-- a further line as words: its label, its statement, and those behind it
pub record DirectiveSyntax : Type 0 where
  pub label : Option (List ℕ)
  pub statement : Option (List ℕ)
  pub behind : List (List ℕ)

abbrev pub directive_in : List (List ℕ) → DirectiveSyntax
directive_in words = record { label = slice_get words 0; statement = slice_get words 1; behind = drop 2 words }

abbrev pub form_in : DirectiveSyntax → Option Form
form_in directive = option_and_then form_named directive.statement

abbrev pub label_in : DirectiveSyntax → Option Label
label_in directive = option_and_then label_of directive.label

-- how many ranks the line is for
abbrev pub ranks_meant : ℕ → Option Label → ℕ
ranks_meant ranks None = 0
ranks_meant ranks (Some Every) = ranks
ranks_meant ranks (Some (Numbered z)) = 1

-- how many statements a further line has: with a word behind its label one for each rank that it is for
unfoldable pub statements_in : ℕ → DirectiveSyntax → ℕ
statements_in ranks directive = if is_some directive.statement then ranks_meant ranks (label_in directive) else 0

abbrev pub opening_ranks : List (List ℕ) → Option ℕ
opening_ranks words = option_and_then rank_count (ranks_number words)
