-- How far a script is read.
use Rattle.std.specs.Prelude.{◌≡◌, ℕ, Bool, List, [], ◌∷◌, map, Option, Some, None}
use Rattle.std.specs.Option.{option_map, option_map_or}
use Rattle.mpx_num.specs.declared.own.Operation.{Operation}
use Rattle.mpx_script.specs.ScriptView.{ScriptView}
use Rattle.mpx_script.specs.Naming.{BoundNames, names_bound}
use Rattle.mpx_script.specs.Reading.{LineContext, bounded_context, script_of, statements_settled}
use Rattle.mpx_script.specs.declared.reader.PartialScript.{PartialScript}

-- the number of ranks, once a line has told it
abbrev pub ranks_of_script : Option ScriptView → Option ℕ
ranks_of_script script = option_map (λ script. script.ranks) script

-- the names that each rank has bound, once a line has told the ranks
abbrev pub bound_of_script : Option ScriptView → List BoundNames
bound_of_script script = option_map_or (λ script. map names_bound script.statements) script []

-- a line behind those by which a script is read so far, with so many statements
abbrev pub context_behind : List ℕ → Bool → Option ScriptView → (statements : ℕ) → LineContext
context_behind line is_cut script statements = bounded_context line is_cut (ranks_of_script script) statements (bound_of_script script)

-- there is a script once a line counts
abbrev pub script_settled : List Operation → List (List (List ℕ)) → Option ScriptView
script_settled ops [] = None
script_settled ops (opening ∷ further) = Some (script_of ops (opening ∷ further))

-- the partial script is what these lines that count say
pub record IsSettled (ops : List Operation) (lines : List (List (List ℕ))) (partial : PartialScript) : Type 0 where
  pub script : partial.script ≡ script_settled ops lines
  pub statements : partial.statements ≡ statements_settled lines
